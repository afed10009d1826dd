-- Where an action's key begins with an atom's key or prefix: the differences are all 0.
use Rattle.std.proofs.Common.{◌≡◌, ◌≤◌, List, [], ◌∷◌, length, refl, ap, ◌∙◌, arith, ℤ, pos}
use Rattle.std.specs.Prelude.{◌&&◌}
use Rattle.std.specs.List.{starts_with, list_all}
use Rattle.std.specs.Ordering.{int_eq}
use Rattle.std.proofs.lemmas.Int.{ints}
use Rattle.std.proofs.lemmas.Bool.Decides.{Decides-int_eq, Decides-like, same_from_decides}
use Rattle.acc_base.specs.declared.forms.Lin.{Lin}
use Rattle.acc_base.specs.Linear.{lin_value, lin_values}
use Rattle.acc_base.specs.Truth.{is_lin_zero}
use Rattle.acc_preconditions.specs.Differences.{lin_minus}
use Rattle.acc_preconditions.specs.Unders.{differences}
use Rattle.acc_preconditions.proofs.DifferenceValues.{minus_value}

module _ (env : List ℤ) where
  zero_difference : (a b : Lin) → is_lin_zero env (lin_minus a b) ≡ int_eq (lin_value env a) (lin_value env b)
  zero_difference a b =
      same_from_decides (is_lin_zero env (lin_minus a b)) (int_eq (lin_value env a) (lin_value env b))
      (Decides-like (is_lin_zero env (lin_minus a b)) (λ h. let e = minus_value env a b in omega (arith, ints, h, e)) (λ h. let e =
      minus_value env a b in omega (arith, ints, h, e)) (Decides-int_eq (lin_value env (lin_minus a b)) (pos 0)))
      (Decides-int_eq (lin_value env a) (lin_value env b))

  pub meets_where_zero : (qs ks : List Lin) → length qs ≤ length ks →
      list_all (is_lin_zero env) (differences qs ks) ≡ starts_with int_eq (lin_values env ks) (lin_values env qs)
  meets_where_zero [] ks h = refl
  meets_where_zero (q ∷ qs) [] h = absurd (omega arith)
  meets_where_zero (q ∷ qs) (k ∷ ks) h =
      ap (λ b. b && list_all (is_lin_zero env) (differences qs ks)) (zero_difference q k) ∙ ap
      (λ b. int_eq (lin_value env q) (lin_value env k) && b) (meets_where_zero qs ks (omega arith))
