-- What collected terms are worth, where each unknown is worth what v gives.
use Rattle.std.proofs.Common.{◌≡◌, Bool, true, false, List, [], ◌∷◌, map, refl, ap, sym, ◌∙◌, arith, ℤ, pos, ◌+ℤ◌, ◌*ℤ◌, if◌then◌else◌}
use Rattle.std.proofs.Common.{not, cond}
use Rattle.std.specs.Prelude.{Decides, filter}
use Rattle.std.specs.Ordering.{int_eq}
use Rattle.std.proofs.lemmas.Int.{ints}
use Rattle.std.proofs.lemmas.Bool.Decides.{Decides-int_eq}
use lib.IntN.{*ℤ-zero, zero-*ℤ}
use Rattle.acc_base.specs.Collecting.{with_term, with_terms, multiple, is_left, term_worth, worth}
use Rattle.acc_base.proofs.Products.{sum_times, times_sum, times_times}

module _ {K : Type 0} (v : K → ℤ) where
  pub worth-multiples : (by : ℤ) (ts : List (K × ℤ)) → worth v (map (multiple by) ts) ≡ by *ℤ worth v ts
  worth-multiples by [] = sym (*ℤ-zero by)
  worth-multiples by (t ∷ ts) =
      let h = worth-multiples by ts in
      let one = times_times by t.1 (v t.0) in
      let all = times_sum by (term_worth v t) (worth v ts) in
      omega (arith, ints, h, one, all)

  left_step : (t : K × ℤ) (ts : List (K × ℤ)) (b : Bool) → int_eq t.1 (pos 0) ≡ b → worth v (filter is_left ts) ≡ worth v ts
      → worth v (cond (not b) (t ∷ filter is_left ts) (filter is_left ts)) ≡ worth v (t ∷ ts)
  left_step t ts true e h =
      let none = ap (λ z. z *ℤ v t.0) ((Decides-int_eq t.1 (pos 0)).0 e) ∙ zero-*ℤ (v t.0) in
      omega (arith, ints, none, h)
  left_step t ts false e h = omega (arith, ints, h)

  pub worth-left : (ts : List (K × ℤ)) → worth v (filter is_left ts) ≡ worth v ts
  worth-left [] = refl
  worth-left (t ∷ ts) = left_step t ts (int_eq t.1 (pos 0)) refl (worth-left ts)

  module _ (E : K → K → Bool) (decides : (x y : K) → Decides (E x y) (x ≡ y)) where
    term_step : (x : K) (n : ℤ) (t : K × ℤ) (ts : List (K × ℤ)) (b : Bool) → E t.0 x ≡ b
        → worth v (with_term E x n ts) ≡ worth v ts +ℤ n *ℤ v x
        → worth v (if b then ((t.0, t.1 +ℤ n) ∷ ts) else (t ∷ with_term E x n ts)) ≡ worth v (t ∷ ts) +ℤ n *ℤ v x
    term_step x n t ts true e h =
        let both = sum_times t.1 n (v t.0) in
        let same = ap (λ y. n *ℤ v y) ((decides t.0 x).0 e) in
        omega (arith, ints, both, same)
    term_step x n t ts false e h = omega (arith, ints, h)

    pub worth-with_term : (x : K) (n : ℤ) (ts : List (K × ℤ)) → worth v (with_term E x n ts) ≡ worth v ts +ℤ n *ℤ v x
    worth-with_term x n [] = omega (arith, ints)
    worth-with_term x n (t ∷ ts) = term_step x n t ts (E t.0 x) refl (worth-with_term x n ts)

    pub worth-with_terms : (sums ts : List (K × ℤ)) → worth v (with_terms E sums ts) ≡ worth v sums +ℤ worth v ts
    worth-with_terms sums [] = omega (arith, ints)
    worth-with_terms sums (t ∷ ts) =
        let h = worth-with_terms (with_term E t.0 t.1 sums) ts in
        let one = worth-with_term t.0 t.1 sums in
        omega (arith, ints, h, one)
