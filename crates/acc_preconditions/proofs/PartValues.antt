-- What parts of a change are worth.
use Rattle.std.proofs.Common.{◌≡◌, ℕ, List, [], ◌∷◌, refl, arith, zero, suc, ℤ, pos, neg_ℤ}
use Rattle.std.specs.Prelude.{slice_get, slice_index_or}
use Rattle.std.proofs.lemmas.Int.{ints}
use Rattle.acc_base.specs.declared.tables.Row.{Row}
use Rattle.acc_base.specs.declared.forms.Lin.{Lin}
use Rattle.acc_base.specs.declared.forms.Atom.{Atom}
use Rattle.acc_base.specs.Linear.{lin_values}
use Rattle.acc_base.specs.Truth.{atom_value}
use Rattle.acc_preconditions.specs.Changes.{value_parts, minus}
pub use Rattle.acc_instanced.proofs.PartValues.{times_one, one_times, minus_times, part_value, parts_value, parts-append, lin_parts_value}

module _ (db : List Row) (env : List ℤ) where
  pub minus_value : (A : Atom) → parts_value db env (minus A) ≡ neg_ℤ (atom_value db env A)
  minus_value A = let h = minus_times (atom_value db env A) in omega (arith, ints, h)

  pub value_parts_value : (vs : List Lin) (c : ℕ) →
      parts_value db env (value_parts (slice_get vs c)) ≡ slice_index_or (lin_values env vs) c (pos 0)
  value_parts_value [] c = refl
  value_parts_value (v ∷ vs) zero = lin_parts_value db env v
  value_parts_value (v ∷ vs) (suc c) = value_parts_value vs c
