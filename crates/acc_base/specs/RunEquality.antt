-- The tests of equality of calls and causes decide it.
use Rattle.std.specs.Prelude.{◌≡◌, ◌==◌, Bool, ◌&&◌, refl, Option, ℕ, Decides}
use Rattle.std.specs.Option.{option_eq}
use Rattle.std.specs.Ordering.{int_eq}
use Rattle.std.specs.Cmp.Lexicographic.{pointwise}
use Rattle.std.proofs.Common.{ap}
use Rattle.std.proofs.lemmas.Bool.Decides.{Decides-like, Decides-eqb}
use Rattle.acc_base.specs.declared.machines.Call.{Call}
use Rattle.acc_base.specs.declared.machines.Cause.{Cause}
use Rattle.acc_base.specs.declared.machines.Cause.TheVariants.{Refused, Range, Limit, Asked, Victim, Crash}
use Rattle.acc_base.specs.contracts.machines.CausePartialEq.TheImpl as derived
use Rattle.acc_base.specs.Pairs.{both, option_decides}
use Rattle.acc_base.specs.Equality.{ints_decide}

asks_decide : (x y : Option ℕ) → Decides (option_eq ◌==◌ x y) (x ≡ y)
asks_decide = option_decides ◌==◌ Decides-eqb

abbrev pub call_eq : Call → Call → Bool
call_eq x y =
    (x.ty == y.ty) && (pointwise int_eq x.params y.params && (pointwise int_eq x.tape y.tape && option_eq ◌==◌ x.ask y.ask))

pub call_decides : (x y : Call) → Decides (call_eq x y) (x ≡ y)
call_decides x y =
    Decides-like (call_eq x y)
    (λ h. λ i. record { ty = h.0 i; params = h.1.0 i; tape = h.1.1.0 i; ask = h.1.1.1 i })
    (λ e. (ap (λ c. c.ty) e, (ap (λ c. c.params) e, (ap (λ c. c.tape) e, ap (λ c. c.ask) e))))
    (both (Decides-eqb x.ty y.ty)
    (both (ints_decide x.params y.params) (both (ints_decide x.tape y.tape) (asks_decide x.ask y.ask))))

-- the derived test of causes
abbrev pub cause_eq : Cause → Cause → Bool
cause_eq x y = derived.ghosts.eq x y

pub cause_decides : (x y : Cause) → Decides (cause_eq x y) (x ≡ y)
cause_decides (Refused n) (Refused m) = Decides-like (n == m) (λ h. ap Refused h) (λ e. cc) (Decides-eqb n m)
cause_decides Range Range = (λ h. refl, λ e. refl)
cause_decides Limit Limit = (λ h. refl, λ e. refl)
cause_decides Asked Asked = (λ h. refl, λ e. refl)
cause_decides Victim Victim = (λ h. refl, λ e. refl)
cause_decides Crash Crash = (λ h. refl, λ e. refl)
cause_decides x y = (λ h. cc, λ e. cc)
