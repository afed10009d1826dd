-- Transactions by number: what is found where one is set or added, and sums over them.
use Rattle.std.proofs.Common.{◌≡◌, ℕ, zero, suc, ◌+◌, ◌-◌, ◌*◌, ◌<◌, ◌≤◌, ◌⊎◌, inl, inr, List, [], ◌∷◌, ◌++◌, length, Bool, true, false}
use Rattle.std.proofs.Common.{Option, Some, None, refl, sym, ap, ◌∙◌, arith, set}
use Rattle.std.specs.Prelude.{◌≢◌, ◌==◌, option_and_then, slice_get, sum_by, if◌then◌else◌}
use Rattle.std.specs.List.{filter_map, cons_option}
use Rattle.std.proofs.lemmas.Option.{same_Some, none-some}
use Rattle.std.proofs.lemmas.Bool.Decides.{nat_tests}
use Rattle.std.proofs.lemmas.List.Sums.{sum_by-cons}
use Rattle.acc_base.specs.declared.machines.Frame.{Frame}
use Rattle.acc_base.specs.declared.machines.Transaction.{Transaction}
use Rattle.acc_base.specs.Machine.{World, transaction_at, frame_in}
use Rattle.acc_base.specs.Locks.{frame_at}

-- ---- lists

module _ {X : Type 0} where
  pub got_within : (xs : List X) (i : ℕ) (x : X) → slice_get xs i ≡ Some x → i < length xs
  got_within [] i x h = cc
  got_within (y ∷ xs) zero x h = omega arith
  got_within (y ∷ xs) (suc i) x h = let l = got_within xs i x h in omega arith

  pub set_got : (xs : List X) (i : ℕ) (x y : X) → slice_get xs i ≡ Some x → slice_get (set xs i y) i ≡ Some y
  set_got [] i x y h = cc
  set_got (z ∷ xs) zero x y h = refl
  set_got (z ∷ xs) (suc i) x y h = set_got xs i x y h

  pub got_set :
      (xs : List X) (i j : ℕ) (x y : X) → slice_get (set xs i x) j ≡ Some y → ((j ≡ i) × (y ≡ x)) ⊎ ((j ≢ i) × (slice_get xs j ≡ Some y))
  got_set [] i j x y h = cc
  got_set (z ∷ xs) zero zero x y h = inl (refl, sym (same_Some x y h))
  got_set (z ∷ xs) zero (suc j) x y h = inr ((λ e. omega arith), h)
  got_set (z ∷ xs) (suc i) zero x y h = inr ((λ e. omega arith), h)
  got_set (z ∷ xs) (suc i) (suc j) x y h = by (got_set xs i j x y h)
    where
      by :
          ((j ≡ i) × (y ≡ x)) ⊎ ((j ≢ i) × (slice_get xs j ≡ Some y))
          → ((suc j ≡ suc i) × (y ≡ x)) ⊎ ((suc j ≢ suc i) × (slice_get xs j ≡ Some y))
      by (inl k) = inl (ap suc k.0, k.1)
      by (inr k) = inr ((λ e. k.0 (omega arith)), k.1)

  pub set_other : (xs : List X) (i j : ℕ) (x : X) → j ≢ i → slice_get (set xs i x) j ≡ slice_get xs j
  set_other [] i j x n = refl
  set_other (z ∷ xs) zero zero x n = absurd (n refl)
  set_other (z ∷ xs) zero (suc j) x n = refl
  set_other (z ∷ xs) (suc i) zero x n = refl
  set_other (z ∷ xs) (suc i) (suc j) x n = set_other xs i j x (λ e. n (ap suc e))

  pub got_push :
      (xs : List X) (j : ℕ) (x y : X) → slice_get (xs ++ x ∷ []) j ≡ Some y → ((j ≡ length xs) × (y ≡ x)) ⊎ (slice_get xs j ≡ Some y)
  got_push [] zero x y h = inl (refl, sym (same_Some x y h))
  got_push [] (suc j) x y h = cc
  got_push (z ∷ xs) zero x y h = inr h
  got_push (z ∷ xs) (suc j) x y h = by (got_push xs j x y h)
    where
      by : ((j ≡ length xs) × (y ≡ x)) ⊎ (slice_get xs j ≡ Some y) → ((suc j ≡ suc (length xs)) × (y ≡ x)) ⊎ (slice_get xs j ≡ Some y)
      by (inl k) = inl (ap suc k.0, k.1)
      by (inr k) = inr k

  pub push_old : (xs : List X) (j : ℕ) (x y : X) → slice_get xs j ≡ Some y → slice_get (xs ++ x ∷ []) j ≡ Some y
  push_old [] j x y h = cc
  push_old (z ∷ xs) zero x y h = h
  push_old (z ∷ xs) (suc j) x y h = push_old xs j x y h

  pub sum_set : (r : X → ℕ) (xs : List X) (i : ℕ) (x y : X) → slice_get xs i ≡ Some x → sum_by r (set xs i y) + r x ≡ sum_by r xs + r y
  sum_set r [] i x y h = cc
  sum_set r (z ∷ xs) zero x y h =
      let a = sum_by-cons r z xs in
      let b = sum_by-cons r y xs in
      let e : r z ≡ r x = ap r (same_Some z x h) in
      omega arith
  sum_set r (z ∷ xs) (suc i) x y h =
      let a = sum_by-cons r z xs in
      let b = sum_by-cons r z (set xs i y) in
      let k = sum_set r xs i x y h in
      omega arith

-- ---- by number

pub at_place : (t : ℕ) (ts : List Transaction) (x : Transaction) → transaction_at t ts ≡ Some x → (0 < t) × (slice_get ts (t - 1) ≡ Some x)
at_place t ts x h = by (t == 0) refl h
  where
    by : (b : Bool) → (t == 0) ≡ b → (if b then None else slice_get ts (t - 1)) ≡ Some x → (0 < t) × (slice_get ts (t - 1) ≡ Some x)
    by true e k = absurd cc
    by false e k = (grind (arith, nat_tests), k)

pub at_from : (t : ℕ) (ts : List Transaction) → 0 < t → transaction_at t ts ≡ slice_get ts (t - 1)
at_from t ts p = by (t == 0) refl
  where
    by : (b : Bool) → (t == 0) ≡ b → (if b then None else slice_get ts (t - 1)) ≡ slice_get ts (t - 1)
    by true e = absurd (grind (arith, nat_tests))
    by false e = refl

pub at_number : (ts : List Transaction) (i : ℕ) → transaction_at (i + 1) ts ≡ slice_get ts i
at_number ts i = at_from (i + 1) ts (omega arith) ∙ ap (slice_get ts) (omega arith)

pub at_within : (t : ℕ) (ts : List Transaction) (x : Transaction) → transaction_at t ts ≡ Some x → (0 < t) × (t ≤ length ts)
at_within t ts x h = let k = at_place t ts x h in let l = got_within ts (t - 1) x k.1 in let p = k.0 in (p, omega arith)

pub at_set :
    (t u : ℕ) (ts : List Transaction) (x y : Transaction) → 0 < t → transaction_at u (set ts (t - 1) x) ≡ Some y
    → ((u ≡ t) × (y ≡ x)) ⊎ ((u ≢ t) × (transaction_at u ts ≡ Some y))
at_set t u ts x y p h = let k = at_place u (set ts (t - 1) x) y h in by k.0 (got_set ts (t - 1) (u - 1) x y k.1)
  where
    by :
        0 < u → ((u - 1 ≡ t - 1) × (y ≡ x)) ⊎ ((u - 1 ≢ t - 1) × (slice_get ts (u - 1) ≡ Some y))
        → ((u ≡ t) × (y ≡ x)) ⊎ ((u ≢ t) × (transaction_at u ts ≡ Some y))
    by q (inl k) = let e = k.0 in inl (omega arith, k.1)
    by q (inr k) = inr ((λ e. k.0 (ap (λ n. n - 1) e)), at_from u ts q ∙ k.1)

pub set_new :
    (t : ℕ) (ts : List Transaction) (x y : Transaction) → transaction_at t ts ≡ Some x → transaction_at t (set ts (t - 1) y) ≡ Some y
set_new t ts x y h = let k = at_place t ts x h in at_from t (set ts (t - 1) y) k.0 ∙ set_got ts (t - 1) x y k.1

pub set_old :
    (t u : ℕ) (ts : List Transaction) (x y : Transaction) → 0 < t → u ≢ t → transaction_at u ts ≡ Some y
    → transaction_at u (set ts (t - 1) x) ≡ Some y
set_old t u ts x y p n h =
    let k = at_place u ts y h in
    let q = k.0 in
    at_from u (set ts (t - 1) x) q ∙ (set_other ts (t - 1) (u - 1) x (λ e. n (omega arith)) ∙ k.1)

pub at_push :
    (u : ℕ) (ts : List Transaction) (x y : Transaction) → transaction_at u (ts ++ x ∷ []) ≡ Some y
    → ((u ≡ length ts + 1) × (y ≡ x)) ⊎ (transaction_at u ts ≡ Some y)
at_push u ts x y h = let k = at_place u (ts ++ x ∷ []) y h in by k.0 (got_push ts (u - 1) x y k.1)
  where
    by :
        0 < u → ((u - 1 ≡ length ts) × (y ≡ x)) ⊎ (slice_get ts (u - 1) ≡ Some y)
        → ((u ≡ length ts + 1) × (y ≡ x)) ⊎ (transaction_at u ts ≡ Some y)
    by q (inl k) = let e = k.0 in inl (omega arith, k.1)
    by q (inr k) = inr (at_from u ts q ∙ k)

pub pushed_old :
    (u : ℕ) (ts : List Transaction) (x y : Transaction) → transaction_at u ts ≡ Some y → transaction_at u (ts ++ x ∷ []) ≡ Some y
pushed_old u ts x y h = let k = at_place u ts y h in at_from u (ts ++ x ∷ []) k.0 ∙ push_old ts (u - 1) x y k.1

-- ---- frames

-- an unfinished transaction, by its number
pub record IsOpen (t : ℕ) (w : World) (f : Frame) : Type 0 where
  pub x : Transaction
  pub at : transaction_at t w.transactions ≡ Some x
  pub frame : frame_in x ≡ Some f

pub opened : (t : ℕ) (w : World) (f : Frame) → frame_at t w ≡ Some f → IsOpen t w f
opened t w f h = by (transaction_at t w.transactions) refl h
  where
    by : (o : Option Transaction) → transaction_at t w.transactions ≡ o → option_and_then frame_in o ≡ Some f → IsOpen t w f
    by None e k = absurd (none-some f k)
    by (Some x) e k = record { x = x; at = e; frame = k }

pub frame_from :
    (t : ℕ) (w : World) (f : Frame) (x : Transaction) → transaction_at t w.transactions ≡ Some x → frame_in x ≡ Some f
    → frame_at t w ≡ Some f
frame_from t w f x h e = ap (option_and_then frame_in) h ∙ e

-- ---- the sum where each unfinished one counts at most m, and an ended one nothing

module _ (r : Transaction → ℕ) (m : ℕ) (ended : (x : Transaction) → frame_in x ≡ None → r x ≤ 0) where
  pub sum_most :
      (ts : List Transaction) → ((i : ℕ) (x : Transaction) → slice_get ts i ≡ Some x → r x ≤ m)
      → sum_by r ts ≤ length (filter_map frame_in ts) * m
  sum_most [] h = omega arith
  sum_most (x ∷ ts) h = by (frame_in x) refl (sum_most ts (λ i y e. h (suc i) y e))
    where
      by :
          (o : Option Frame) → frame_in x ≡ o → sum_by r ts ≤ length (filter_map frame_in ts) * m
          → sum_by r (x ∷ ts) ≤ length (cons_option o (filter_map frame_in ts)) * m
      by None e ih = let a = sum_by-cons r x ts in let b = ended x e in omega arith
      by (Some f) e ih =
          let a = sum_by-cons r x ts in
          let b = h 0 x refl in
          let c : suc (length (filter_map frame_in ts)) * m ≡ m + length (filter_map frame_in ts) * m = grind arith in
          omega arith

-- nothing unfinished: no transaction has a frame
pub none_open :
    (ts : List Transaction) → filter_map frame_in ts ≡ [] → (i : ℕ) (x : Transaction) (f : Frame) → slice_get ts i ≡ Some x
    → frame_in x ≡ Some f → ⊥
none_open [] h i x f e k = cc
none_open (y ∷ ts) h zero x f e k =
    let a : frame_in y ≡ Some f = ap frame_in (same_Some y x e) ∙ k in
    let b : cons_option (Some f) (filter_map frame_in ts) ≡ [] = ap (λ o. cons_option o (filter_map frame_in ts)) (sym a) ∙ h in cc
none_open (y ∷ ts) h (suc i) x f e k = by (frame_in y) h (λ g. none_open ts g i x f e k)
  where
    by : (o : Option Frame) → cons_option o (filter_map frame_in ts) ≡ [] → (filter_map frame_in ts ≡ [] → ⊥) → ⊥
    by None g ih = ih g
    by (Some z) g ih = cc
