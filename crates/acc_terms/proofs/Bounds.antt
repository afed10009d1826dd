-- How large a sum of terms can be.
use Rattle.std.proofs.Common.{inl, inr, ◌⊎◌, pos, ◌≡◌, ℕ, ◌+◌, ◌*◌, ◌^◌, ◌<◌, length, get_or, subst, sym, Bool, true, false, List, []}
use Rattle.std.proofs.Common.{◌∷◌, Some, None, Option, refl, arith, ℤ, ◌+ℤ◌, if◌then◌else◌}
use Rattle.std.specs.Prelude.{◌≤◌, All, unsigned_abs, FitsSigned}
use Rattle.std.specs.Int.{w128}
use Rattle.std.proofs.lemmas.Int.{ints, fits_signed_from_abs}
use Rattle.std.proofs.lemmas.List.Elements.{All-head, All-tail, All-cons, All-nil, All-weaker}
use Rattle.acc_base.specs.Collecting.{sum_of}
use Rattle.acc_terms.specs.declared.parts.Part.{Part}
use Rattle.acc_terms.specs.Parts.{IsTermSized, constant_in}
use Rattle.acc_terms.specs.Sums.{with_term, with_part}

-- what a term adds to the constant is within 2^64 of 0 too
pub constant_small : {K : Type 0} (o : Option K) (n : ℤ) → unsigned_abs n ≤ 2 ^ 64
    → unsigned_abs (constant_in (record { of = o; number = n })) ≤ 2 ^ 64
constant_small None n small = small
constant_small (Some x) n small = omega (arith, ints)

-- so its sum with the number fits
pub room_fits : (s n a b : ℤ) → a ≡ s → b ≡ n → FitsSigned w128 n → (s ≡ pos 0) ⊎ (unsigned_abs s + unsigned_abs n < 2 ^ 127)
    → FitsSigned w128 (a +ℤ b)
room_fits s n a b e f fits (inl zero) =
    let same : n ≡ a +ℤ b = omega (arith, ints) in
    subst (λ z. FitsSigned w128 z) same fits
room_fits s n a b e f fits (inr room) = fits_signed_from_abs w128 (a +ℤ b) (omega (arith, ints))

larger : (m k : ℕ) (a b : ℤ) → unsigned_abs a ≤ m → unsigned_abs b ≤ k → unsigned_abs (a +ℤ b) ≤ m + k
larger m k a b p q = omega (arith, ints)

module _ {K : Type 0} (E : K → K → Bool) where
  abbrev pub AtMost : ℕ → K × ℤ → Type 0
  AtMost m t = unsigned_abs t.1 ≤ m

  -- where each sum has room for a number, so has the sum of an unknown, which is 0 where it is new
  pub sum_room : (m a : ℕ) (x : K) (ts : List (K × ℤ)) → All (λ t. unsigned_abs t.1 + a < m) ts
      → (sum_of E x ts ≡ pos 0) ⊎ (unsigned_abs (sum_of E x ts) + a < m)
  sum_room m a x [] all = inl refl
  sum_room m a x (t ∷ ts) all =
      by (E t.0 x) (All-head (λ t. unsigned_abs t.1 + a < m) t ts all)
      (sum_room m a x ts (All-tail (λ t. unsigned_abs t.1 + a < m) t ts all))
    where
      by : (b : Bool) → unsigned_abs t.1 + a < m → (sum_of E x ts ≡ pos 0) ⊎ (unsigned_abs (sum_of E x ts) + a < m)
          → ((if b then t.1 else sum_of E x ts) ≡ pos 0) ⊎ (unsigned_abs (if b then t.1 else sum_of E x ts) + a < m)
      by true here later = inr here
      by false here later = later

  bound_step : (m k : ℕ) (x : K) (n : ℤ) (t : K × ℤ) (ts : List (K × ℤ)) (b : Bool) → E t.0 x ≡ b → unsigned_abs n ≤ k
      → All (AtMost m) (t ∷ ts) → All (AtMost (m + k)) (with_term E x n ts)
      → All (AtMost (m + k)) (if b then ((t.0, t.1 +ℤ n) ∷ ts) else (t ∷ with_term E x n ts))
  bound_step m k x n t ts true e small all h =
      All-cons (AtMost (m + k)) (t.0, t.1 +ℤ n) ts (larger m k t.1 n (All-head (AtMost m) t ts all) small)
      (All-weaker (AtMost m) (AtMost (m + k)) (λ u p. omega arith) ts (All-tail (AtMost m) t ts all))
  bound_step m k x n t ts false e small all h =
      let p = All-head (AtMost m) t ts all in All-cons (AtMost (m + k)) t (with_term E x n ts) (omega arith) h

  bound-with_term : (m k : ℕ) (x : K) (n : ℤ) (ts : List (K × ℤ)) → unsigned_abs n ≤ k → All (AtMost m) ts
      → All (AtMost (m + k)) (with_term E x n ts)
  bound-with_term m k x n [] small all = All-cons (AtMost (m + k)) (x, n) [] (omega arith) (All-nil (AtMost (m + k)))
  bound-with_term m k x n (t ∷ ts) small all =
      bound_step m k x n t ts (E t.0 x) refl small all (bound-with_term m k x n ts small (All-tail (AtMost m) t ts all))

  bound-with_part : (m k : ℕ) (o : Option K) (n : ℤ) (ts : List (K × ℤ)) → unsigned_abs n ≤ k → All (AtMost m) ts
      → All (AtMost (m + k)) (with_part E (record { of = o; number = n }) ts)
  bound-with_part m k None n ts small all = All-weaker (AtMost m) (AtMost (m + k)) (λ u p. omega arith) ts all
  bound-with_part m k (Some x) n ts small all = bound-with_term m k x n ts small all

  -- a step of a loop over the terms
  pub bound_more : (parts : List (Part K)) (i : ℕ) (p : Part K) (ts us : List (K × ℤ)) → All IsTermSized parts → i < length parts
      → p ≡ get_or parts i p → us ≡ with_part E p ts → All (AtMost (i * 2 ^ 64)) ts → All (AtMost ((i + 1) * 2 ^ 64)) us
  bound_more parts i p ts us small within this added all =
      let one : IsTermSized p = subst (λ q. IsTermSized q) (sym this) (small i p within) in
      let h : All (AtMost (i * 2 ^ 64 + 2 ^ 64)) us = subst (λ vs. All (AtMost (i * 2 ^ 64 + 2 ^ 64)) vs) (sym added)
      (bound-with_part (i * 2 ^ 64) (2 ^ 64) p.of p.number ts one all) in
      All-weaker (AtMost (i * 2 ^ 64 + 2 ^ 64)) (AtMost ((i + 1) * 2 ^ 64)) (λ t q. omega arith) us h
