-- What a state's type keeps, as calls change it.
use Rattle.std.proofs.Common.{◌≡◌, ℕ, sym, subst, Some}
use Rattle.std.specs.Prelude.{Result, Ok, Err, OnOk, OnErr}
use Rattle.acc_base.specs.declared.designs.Design.{Design}
use Rattle.acc_base.specs.declared.machines.Call.{Call}
use Rattle.acc_base.specs.declared.machines.Event.{Event}
use Rattle.acc_base.specs.declared.machines.Event.TheVariants.{Begin}
use Rattle.acc_base.specs.Machine.{World, start, after_event}
use Rattle.acc_base.specs.Lawful.{IsLawful}
use Rattle.acc_base.specs.Invariant.{IsGood}
use Rattle.acc_lift.proofs.Theorem.{good_start, good_after}
use Rattle.acc_lift.proofs.FormRules.{run_rules}
use Rattle.acc_lift.specs.Acceptance.{IsAccepted}
use Rattle.acc_machine.specs.Begun.{HasRoom}
use Rattle.acc_machine.specs.Kept.{IsKept}

pub kept_start : (d d2 : Design) (w : World) → IsAccepted d → d2 ≡ d → w ≡ start → IsKept d2 w
kept_start d d2 w a e s =
    subst (λ z. IsKept z w) (sym e) (record { accepted = a; good = subst (IsGood d) (sym s) (good_start d a.sound) })

pub kept_same : (d d2 : Design) (w w2 : World) → IsKept d w → d2 ≡ d → w2 ≡ w → IsKept d2 w2
kept_same d d2 w w2 k e s = subst (λ z. IsKept z w2) (sym e) (subst (IsKept d) (sym s) k)

-- a lawful event keeps it
pub kept_after : (d d2 : Design) (w w2 : World) (e : Event) → IsKept d w → d2 ≡ d → IsLawful d w e w2 → IsKept d2 w2
kept_after d d2 w w2 e k q l =
    subst (λ z. IsKept z w2) (sym q)
    (record { accepted = k.accepted; good = good_after d k.accepted.sound (run_rules d k.accepted.formed) w w2 e k.good l })

-- a call that begins, or nothing
pub kept_begin : {E : Type 0} (d d2 : Design) (w w2 : World) (call : Call) (r : Result ℕ E) → IsKept d w → d2 ≡ d → HasRoom w
    → OnOk r (after_event d w (Begin call) ≡ Some w2) → OnErr r (w2 ≡ w) → IsKept d2 w2
kept_begin d d2 w w2 call (Ok t) k q room ok err = kept_after d d2 w w2 (Begin call) k q (record { leave = room; event = ok })
kept_begin d d2 w w2 call (Err x) k q room ok err = kept_same d d2 w w2 k q err
