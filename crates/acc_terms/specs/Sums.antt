-- The sums of unknowns with one more term.
use Rattle.std.specs.Prelude.{Bool, List, Some, None, ℤ}
pub use Rattle.acc_base.specs.Collecting.{with_term}
use Rattle.acc_terms.specs.declared.parts.Part.{Part}

-- one more term, where it has an unknown
abbrev pub with_part : {K : Type 0} → (K → K → Bool) → Part K → List (K × ℤ) → List (K × ℤ)
with_part E p ts = elim p.of [ None ↦ ts | Some x ↦ with_term E x p.number ts ]
