-- Places and their items, and what follows from a result.
use Rattle.std.proofs.Common.{◌≡◌, ◌⊎◌, inl, inr, ℕ, ◌-◌, ◌<◌, Bool, false, List, [], ◌∷◌, length, Option, Some, None, Result, Ok, Err, zero, suc}
use Rattle.std.proofs.Common.{refl, sym, ap, subst, ◌∙◌, arith}
use Rattle.std.specs.Prelude.{◌≢◌, OnOk, OnErr, IfErr, IsErrAnd, ◌==◌, if◌then◌else◌, slice_get, slice_set, option_and_then}
use Rattle.std.proofs.lemmas.Bool.Decides.{nat_tests}
use Rattle.std.proofs.lemmas.Option.{none-some, same_Some}
use Rattle.acc_base.specs.Items.{item_at, with_item}
use Rattle.acc_base.specs.Plays.{Play, number_of}

pub on_ok : {T E P Q : Type 0} (r : Result T E) → (P → Q) → OnOk r P → OnOk r Q
on_ok (Ok x) f h = f h
on_ok (Err e) f h = h

pub on_err : {T E P Q : Type 0} (r : Result T E) → (P → Q) → OnErr r P → OnErr r Q
on_err (Ok x) f h = h
on_err (Err e) f h = f h

pub if_stopped : {T E P : Type 0} (r : Result T E) → P → OnErr r P
if_stopped (Ok x) h = tt
if_stopped (Err e) h = h

from_one : (k : ℕ) → 0 < k → (k == 0) ≡ false
from_one k h = grind (arith, nat_tests)

pub item_is : {T : Type 0} (k : ℕ) (items : List T) (x : T) → 0 < k → slice_get items (k - 1) ≡ Some x → item_at k items ≡ Some x
item_is {T} k items x h e = ap (λ (b : Bool). if b then None else slice_get items (k - 1)) (from_one k h) ∙ e

pub item_back : {T : Type 0} (k : ℕ) (items : List T) (x : T) → 0 < k → item_at k items ≡ Some x → slice_get items (k - 1) ≡ Some x
item_back {T} k items x h e = sym (ap (λ (b : Bool). if b then None else slice_get items (k - 1)) (from_one k h)) ∙ e

pub set_is : {T : Type 0} (k : ℕ) (x : T) (items : List T) → 0 < k → with_item k x items ≡ slice_set items (k - 1) x
set_is {T} k x items h = ap (λ (b : Bool). if b then items else slice_set items (k - 1) x) (from_one k h)

-- a place whose number isn't there has none
pub unnumbered : (p : Play) (place : ℕ) → 0 < place → slice_get p.numbers (place - 1) ≡ Some None → number_of p place ≡ None
unnumbered p place h at = ap (option_and_then (λ n. n)) (item_is place p.numbers None h at)

-- where one place has begun, those that haven't are the same but for it
pub set_keeps : (numbers : List (Option ℕ)) (i t k : ℕ) → slice_get (slice_set numbers i (Some t)) k ≡ Some None
    → slice_get numbers k ≡ Some None
set_keeps [] i t k h = h
set_keeps (x ∷ numbers) zero t zero h = absurd (none-some t (sym (same_Some (Some t) None h)))
set_keeps (x ∷ numbers) zero t (suc k) h = h
set_keeps (x ∷ numbers) (suc i) t zero h = h
set_keeps (x ∷ numbers) (suc i) t (suc k) h = set_keeps numbers i t k h

pub set_here : (numbers : List (Option ℕ)) (i t : ℕ) → i < length numbers → slice_get (slice_set numbers i (Some t)) i ≡ Some (Some t)
set_here [] i t less = absurd (omega (arith, less))
set_here (x ∷ numbers) zero t less = refl
set_here (x ∷ numbers) (suc i) t less = set_here numbers i t (omega (arith, less))

pub set_other : (numbers : List (Option ℕ)) (i t k : ℕ) → slice_get (slice_set numbers i (Some t)) k ≡ Some None → k ≢ i
set_other [] i t k h = absurd (none-some None h)
set_other (x ∷ numbers) zero t zero h = absurd (none-some t (sym (same_Some (Some t) None h)))
set_other (x ∷ numbers) zero t (suc k) h = λ e. omega (arith, e)
set_other (x ∷ numbers) (suc i) t zero h = λ e. omega (arith, e)
set_other (x ∷ numbers) (suc i) t (suc k) h = λ e. set_other numbers i t k h (omega (arith, e))

-- what the exit of a `?` hands on
pub if_handed : {T E : Type 0} (P : E → Type 0) (r : Result T E) (e : E) → IsErrAnd r (λ s. s ≡ e) → P e → IfErr r P
if_handed P (Ok x) e is h = tt
if_handed P (Err s) e is h = subst P (sym is) h

-- what is so of each error
pub if_any : {T E : Type 0} {P : E → Type 0} (r : Result T E) → ((e : E) → P e) → IfErr r P
if_any (Ok x) f = tt
if_any (Err e) f = f e

pub if_err : {T E : Type 0} {P Q : E → Type 0} (r : Result T E) → ((e : E) → P e → Q e) → IfErr r P → IfErr r Q
if_err (Ok x) f h = h
if_err (Err e) f h = f e h

-- an item that is there stands within the items
pub got_within : {T : Type 0} (items : List T) (i : ℕ) (x : T) → slice_get items i ≡ Some x → i < length items
got_within [] i x h = absurd (none-some x h)
got_within (y ∷ items) zero x h = omega arith
got_within (y ∷ items) (suc i) x h = let less = got_within items i x h in omega (arith, less)

pub number_cases : (i j : ℕ) → (i ≡ j) ⊎ (i ≢ j)
number_cases zero zero = inl refl
number_cases zero (suc j) = inr (λ e. omega (arith, e))
number_cases (suc i) zero = inr (λ e. omega (arith, e))
number_cases (suc i) (suc j) = elim (number_cases i j) [ inl same ↦ inl (ap suc same) | inr other ↦ inr (λ e. other (omega (arith, e))) ]
