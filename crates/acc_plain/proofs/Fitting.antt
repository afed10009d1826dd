-- Transactions whose frames have their own numbers, and numbers in range.
use Rattle.std.proofs.Common.{◌≡◌, ℕ, zero, suc, ◌+◌, ◌-◌, ◌<◌, ◌≤◌, ◌^◌, List, [], ◌∷◌, ◌++◌, length, Bool, true, false, Option, Some}
use Rattle.std.proofs.Common.{None, refl, sym, ap, subst, arith, set, pos, length-append}
use Rattle.std.specs.Prelude.{◌==◌, ◌&&◌, nat_le, slice_get, All, IfSome, replicate}
use Rattle.std.specs.List.{list_all}
use Rattle.std.proofs.lemmas.Bool.Decides.{nat_tests}
use Rattle.std.proofs.lemmas.List.Elements.{All-append, All-replicate}
use Rattle.std.proofs.Math.ListN.{length-replicate}
use Rattle.acc_base.specs.Numbers.{is_small, IsSmall}
use Rattle.acc_base.specs.declared.designs.Design.{Design}
use Rattle.acc_base.specs.declared.designs.TxType.{TxType}
use Rattle.acc_base.specs.declared.machines.Call.{Call}
use Rattle.acc_base.specs.declared.machines.Frame.{Frame}
use Rattle.acc_base.specs.declared.machines.Transaction.{Transaction}
use Rattle.acc_base.specs.declared.machines.Transaction.TheVariants.{Forward}
use Rattle.acc_base.specs.Machine.{frame_in, call_fits, ask_fits, locals_in, begun}
use Rattle.acc_base.specs.Runnable.{IsRunnable, IsRunnableType, IsSmallFrame}
use Rattle.acc_base.proofs.Items.{at_slice_get}
use Rattle.acc_base.proofs.Smalls.{all_small}

-- a frame that fits, but for the size of its number
pub record IsFitting (f : Frame) : Type 0 where
  pub locals : All IsSmall f.locals
  pub few : length f.locals ≤ 48
  pub tape : All IsSmall f.tape
  pub long : length f.tape < 2 ^ 32

-- transaction n: if it is unfinished, its frame fits and has number n
pub record IsOwn (n : ℕ) (f : Frame) : Type 0 where
  pub number : f.t ≡ n
  pub fitting : IsFitting f

abbrev pub Fits : ℕ → Transaction → Type 0
Fits n x = IfSome (frame_in x) (IsOwn n)

-- transactions from number n on
abbrev pub AreFit : ℕ → List Transaction → Type 0
AreFit n [] = Unit {0}
AreFit n (x ∷ xs) = Fits n x × AreFit (n + 1) xs

pub fit_push : (n : ℕ) (xs : List Transaction) (y : Transaction) → AreFit n xs → Fits (n + length xs) y → AreFit n (xs ++ y ∷ [])
fit_push n [] y h k = let e : n + 0 ≡ n = omega arith in (subst (λ (m : ℕ). Fits m y) e k, tt)
fit_push n (x ∷ xs) y h k =
    let e : n + length (x ∷ xs) ≡ (n + 1) + length xs = omega arith in
    (h.0, fit_push (n + 1) xs y h.1 (subst (λ (m : ℕ). Fits m y) e k))

pub fit_set : (n : ℕ) (xs : List Transaction) (i : ℕ) (y : Transaction) → AreFit n xs → Fits (n + i) y → AreFit n (set xs i y)
fit_set n [] i y h k = tt
fit_set n (x ∷ xs) zero y h k = let e : n + 0 ≡ n = omega arith in (subst (λ (m : ℕ). Fits m y) e k, h.1)
fit_set n (x ∷ xs) (suc i) y h k =
    let e : n + suc i ≡ (n + 1) + i = omega arith in
    (h.0, fit_set (n + 1) xs i y h.1 (subst (λ (m : ℕ). Fits m y) e k))

pub fit_get : (n : ℕ) (xs : List Transaction) (i : ℕ) (x : Transaction) → AreFit n xs → slice_get xs i ≡ Some x → Fits (n + i) x
fit_get n [] i x h e = absurd cc
fit_get n (y ∷ xs) zero x h e =
    let same : y ≡ x = cc in
    let k : n ≡ n + 0 = omega arith in
    subst (λ (m : ℕ). Fits m x) k (subst (Fits n) same h.0)
fit_get n (y ∷ xs) (suc i) x h e =
    let k : (n + 1) + i ≡ n + suc i = omega arith in
    subst (λ (m : ℕ). Fits m x) k (fit_get (n + 1) xs i x h.1 e)

-- a frame that fits, whose number isn't too large
pub fits_frame : (n : ℕ) (f : Frame) → IsOwn n f → n ≤ 2 ^ 45 → IsSmallFrame f
fits_frame n f own le = record {
  locals = own.fitting.locals;
  few = own.fitting.few;
  tape = own.fitting.tape;
  long = own.fitting.long;
  number = subst (λ (m : ℕ). m ≤ 2 ^ 45) (sym own.number) le;
}

-- ---- a frame as it begins

and_left : (a b : Bool) → (a && b) ≡ true → a ≡ true
and_left true b h = refl
and_left false b h = h

and_right : (a b : Bool) → (a && b) ≡ true → b ≡ true
and_right true b h = h
and_right false b h = cc

record CallFits (x : TxType) (call : Call) : Type 0 where
  count : length call.params ≡ x.params
  params : All IsSmall call.params
  tape : All IsSmall call.tape
  short : length call.tape ≤ 4096

call_parts : (x : TxType) (call : Call) → call_fits (Some x) call ≡ true → CallFits x call
call_parts x call h =
    let count = length call.params == x.params in
    let params = list_all is_small call.params in
    let tape = list_all is_small call.tape in
    let short = nat_le (length call.tape) 4096 in
    let a = and_left ((((length call.params == x.params) && list_all is_small call.params) && list_all is_small call.tape) && nat_le
    (length call.tape) 4096) (ask_fits call.ask) h in
    let b = and_left (((length call.params == x.params) && list_all is_small call.params) && list_all is_small call.tape)
    (nat_le (length call.tape) 4096) a in
    let e = and_left ((length call.params == x.params) && list_all is_small call.params) (list_all is_small call.tape) b in
    let k : (length call.params == x.params) ≡ true = and_left (length call.params == x.params) (list_all is_small call.params) e in
    let s : nat_le (length call.tape) 4096 ≡ true =
    and_right (((length call.params == x.params) && list_all is_small call.params) && list_all is_small call.tape)
    (nat_le (length call.tape) 4096) a in
    record {
      count = grind (arith, nat_tests);
      params = all_small call.params (and_right (length call.params == x.params) (list_all is_small call.params) e);
      tape = all_small call.tape (and_right ((length call.params == x.params) && list_all is_small call.params)
          (list_all is_small call.tape) b);
      short = grind (arith, nat_tests);
    }

begun_by : (d : Design) (n : ℕ) (call : Call) (x : Option TxType) → IsRunnable d → slice_get d.types call.ty ≡ x → call_fits x call ≡ true →
    Fits n (Forward (begun d n call))
begun_by d n call None can at h = absurd cc
begun_by d n call (Some x) can at h =
    let parts = call_parts x call h in
    let type_can = at_slice_get IsRunnableType d.types call.ty x can at in
    let most = type_can.few in
    let params = type_can.params in
    let many = locals_in (slice_get d.types call.ty) in
    let is_many : locals_in (slice_get d.types call.ty) ≡ length x.locals = ap locals_in at in
    let count = parts.count in
    let short = parts.short in
    let zeros = locals_in (slice_get d.types call.ty) - length call.params in
    record {
      number = refl;
      fitting = record {
        locals = All-append IsSmall call.params (replicate zeros (pos 0)) parts.params (All-replicate IsSmall zeros (pos 0) (omega arith));
        few = omega (arith, length-append call.params (replicate zeros (pos 0)), length-replicate zeros (pos 0));
        tape = parts.tape;
        long = omega arith;
      };
    }

-- a transaction that begins fits
pub begun_fits : (d : Design) (n : ℕ) (call : Call) → IsRunnable d → call_fits (slice_get d.types call.ty) call ≡ true →
    Fits n (Forward (begun d n call))
begun_fits d n call can h = begun_by d n call (slice_get d.types call.ty) can refl h
