-- What the forms of axioms are worth.
use Rattle.std.proofs.Common.{◌≡◌, ℕ, List, [], ◌∷◌, ◌++◌, map, refl, ap, ◌∙◌, arith, ℤ, pos, ◌+ℤ◌}
use Rattle.std.proofs.Common.{◌-ℤ◌, ◌*ℤ◌, neg_ℤ}
use Rattle.std.proofs.lemmas.Int.{ints}
use lib.IntN.{zero-*ℤ}
use Rattle.acc_base.specs.declared.tables.Row.{Row}
use Rattle.acc_base.specs.declared.forms.Lin.{Lin}
use Rattle.acc_base.specs.declared.forms.Unknown.{Unknown}
use Rattle.acc_base.specs.Numbers.{total}
use Rattle.acc_base.specs.Linear.{var, term_value, lin_value}
use Rattle.acc_base.specs.Truth.{unknown_value, product_value, form_value}
use Rattle.acc_base.specs.Sums.{Term}
use Rattle.acc_base.proofs.Products.{sum_times}
use Rattle.acc_instanced.proofs.PartValues.{one_times, minus_times}
use Rattle.acc_base.specs.Forms.{form}
use Rattle.acc_axioms.specs.Axioms.{plus, minus, less, variable_term, minus_variable, lin_form, lin_above, lin_below}
use Rattle.acc_axioms.specs.Axioms.{lin_difference}

module _ (db : List Row) (env : List ℤ) where
  abbrev pub worth : Unknown → ℤ
  worth u = unknown_value db env u

  pub minus_worth : (u : Unknown) (k : ℤ) → form_value db env (form (minus u ∷ []) k) ≡ neg_ℤ (worth u) +ℤ k
  minus_worth u k = let m = minus_times (worth u) in omega (arith, ints, m)

  pub plus_worth : (u : Unknown) (k : ℤ) → form_value db env (form (plus u ∷ []) k) ≡ worth u +ℤ k
  plus_worth u k = let p = one_times (worth u) in omega (arith, ints, p)

  pub less_worth : (u v : Unknown) → form_value db env (less u v) ≡ worth u -ℤ worth v
  less_worth u v =
      let p = one_times (worth u) in
      let m = minus_times (worth v) in
      omega (arith, ints, p, m)

  abbrev terms_worth : List Term → ℤ
  terms_worth ts = total (map (product_value db env) ts)

  abbrev coefficients_worth : List (ℕ × ℤ) → ℤ
  coefficients_worth cs = total (map (term_value env) cs)

  variables_worth : (cs : List (ℕ × ℤ)) → terms_worth (map variable_term cs) ≡ coefficients_worth cs
  variables_worth [] = refl
  variables_worth (c ∷ cs) = ap (λ z. term_value env c +ℤ z) (variables_worth cs)

  negated : (c v : ℤ) → neg_ℤ c *ℤ v ≡ neg_ℤ (c *ℤ v)
  negated c v =
      let both = sum_times (neg_ℤ c) c v in
      let none : neg_ℤ c +ℤ c ≡ pos 0 = omega (arith, ints) in
      let zero = ap (λ z. z *ℤ v) none ∙ zero-*ℤ v in
      omega (arith, ints, both, zero)

  minuses_worth : (cs : List (ℕ × ℤ)) → terms_worth (map minus_variable cs) ≡ neg_ℤ (coefficients_worth cs)
  minuses_worth [] = refl
  minuses_worth (c ∷ cs) =
      let h = minuses_worth cs in
      let n = negated c.1 (var env c.0) in
      omega (arith, ints, h, n)

  terms-append : (xs ys : List Term) → terms_worth (xs ++ ys) ≡ terms_worth xs +ℤ terms_worth ys
  terms-append [] ys = omega (arith, ints)
  terms-append (x ∷ xs) ys = let h = terms-append xs ys in omega (arith, ints, h)

  pub lin_worth : (l : Lin) → form_value db env (lin_form l) ≡ lin_value env l
  lin_worth l = ap (λ z. z +ℤ l.constant) (variables_worth l.coeffs)

  pub above_worth : (l : Lin) → form_value db env (lin_above l) ≡ lin_value env l +ℤ pos 1
  above_worth l = let h = variables_worth l.coeffs in omega (arith, ints, h)

  pub below_worth : (l : Lin) → form_value db env (lin_below l) ≡ pos 1 -ℤ lin_value env l
  below_worth l = let h = minuses_worth l.coeffs in omega (arith, ints, h)

  pub difference_worth : (a b : Lin) → form_value db env (lin_difference a b) ≡ lin_value env a -ℤ lin_value env b
  difference_worth a b =
      let h = variables_worth a.coeffs in
      let g = minuses_worth b.coeffs in
      let s = terms-append (map variable_term a.coeffs) (map minus_variable b.coeffs) in
      omega (arith, ints, h, g, s)
