-- What the difference of linear values is worth.
use Rattle.std.proofs.Common.{◌≡◌, List, [], ◌∷◌, map, refl, ap, ◌∙◌, arith, ℤ, pos, ◌+ℤ◌, ◌-ℤ◌, ◌*ℤ◌, neg_ℤ}
use Rattle.std.proofs.lemmas.Int.{ints}
use lib.IntN.{zero-*ℤ}
use Rattle.acc_base.specs.declared.forms.Lin.{Lin}
use Rattle.acc_base.specs.Linear.{var, term_value, lin_value}
use Rattle.acc_base.proofs.Products.{sum_times}
use Rattle.acc_instanced.specs.Coefficients.{Coefficient, with_coefficients}
use Rattle.acc_instanced.proofs.CoefficientValues.{worth, worth-all, worth-left}
use Rattle.acc_preconditions.specs.Differences.{negated, coefficients, lin_minus}
use Rattle.acc_preconditions.proofs.CoefficientLoops.{with_coefficients-append}

module _ (env : List ℤ) where
  negated_value : (c : Coefficient) → term_value env (negated c) ≡ neg_ℤ (term_value env c)
  negated_value c =
      let both = sum_times (neg_ℤ c.1) c.1 (var env c.0) in
      let none : neg_ℤ c.1 +ℤ c.1 ≡ pos 0 = omega (arith, ints) in
      let zero = ap (λ z. z *ℤ var env c.0) none ∙ zero-*ℤ (var env c.0) in
      omega (arith, ints, both, zero)

  worth-negated : (cs : List Coefficient) → worth env (map negated cs) ≡ neg_ℤ (worth env cs)
  worth-negated [] = refl
  worth-negated (c ∷ cs) =
      let h = worth-negated cs in
      let one = negated_value c in
      omega (arith, ints, h, one)

  pub minus_value : (a b : Lin) → lin_value env (lin_minus a b) ≡ lin_value env a -ℤ lin_value env b
  minus_value a b =
      let left = worth-left env (with_coefficients [] (coefficients a b)) in
      let parts = ap (worth env) (with_coefficients-append [] a.coeffs (map negated b.coeffs)) in
      let second = worth-all env (with_coefficients [] a.coeffs) (map negated b.coeffs) in
      let first = worth-all env [] a.coeffs in
      let last = worth-negated b.coeffs in
      omega (arith, ints, left, parts, second, first, last)
