-- Products by one, and what the parts of a linear value are worth.
use Rattle.std.proofs.Common.{◌≡◌, ℕ, List, [], ◌∷◌, ◌++◌, map, refl, ap, ◌∙◌, arith, ℤ, pos, negsuc, ◌+ℤ◌, ◌-ℤ◌, ◌*ℤ◌, neg_ℤ}
use Rattle.std.proofs.lemmas.Int.{ints}
use lib.IntN.{*ℤ_comm, *ℤ-one, zero-*ℤ, pred_ℤ-*ℤ, one}
use Rattle.acc_base.specs.declared.tables.Row.{Row}
use Rattle.acc_base.specs.declared.forms.Lin.{Lin}
use Rattle.acc_base.specs.declared.forms.Atom.TheVariants.{One, Var}
use Rattle.acc_base.specs.Numbers.{total}
use Rattle.acc_base.specs.Linear.{term_value, lin_value}
use Rattle.acc_base.specs.Truth.{atom_value}
use Rattle.acc_instanced.specs.Summands.{Part, variable_parts, lin_parts}

pub times_one : (x : ℤ) → x *ℤ pos 1 ≡ x
unfolding one
times_one x = *ℤ-one x

pub one_times : (x : ℤ) → pos 1 *ℤ x ≡ x
one_times x = *ℤ_comm (pos 1) x ∙ times_one x

pub minus_times : (x : ℤ) → negsuc 0 *ℤ x ≡ neg_ℤ x
minus_times x =
    let e : negsuc 0 *ℤ x ≡ pos 0 *ℤ x -ℤ x = pred_ℤ-*ℤ (pos 0) x in
    let z = zero-*ℤ x in
    e ∙ omega (arith, ints, z)

module _ (db : List Row) (env : List ℤ) where
  abbrev pub part_value : Part → ℤ
  part_value p = p.1 *ℤ atom_value db env p.0

  abbrev pub parts_value : List Part → ℤ
  parts_value ps = total (map part_value ps)

  pub parts-append : (xs ys : List Part) → parts_value (xs ++ ys) ≡ parts_value xs +ℤ parts_value ys
  parts-append [] ys = omega (arith, ints)
  parts-append (x ∷ xs) ys = let h = parts-append xs ys in omega (arith, ints, h)

  variables_value : (cs : List (ℕ × ℤ)) → parts_value (map (λ x. (Var x.0, x.1)) cs) ≡ total (map (term_value env) cs)
  variables_value [] = refl
  variables_value (x ∷ cs) = ap (λ z. term_value env x +ℤ z) (variables_value cs)

  pub lin_parts_value : (v : Lin) → parts_value (lin_parts v) ≡ lin_value env v
  lin_parts_value v =
      let both = parts-append (variable_parts v) ((One, v.constant) ∷ []) in
      let first = variables_value v.coeffs in
      let last = times_one v.constant in
      omega (arith, ints, both, first, last)
