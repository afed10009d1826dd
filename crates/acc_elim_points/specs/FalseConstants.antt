-- What the false constant shows that ends a search for a point.
use Rattle.std.specs.Prelude.{◌≡◌, ◌<◌, ℕ, Bool, true, if◌then◌else◌, List, length, slice_index_or, Err, ℤ, pos}
use Rattle.std.specs.Option.{option_map_or}
use Rattle.acc_base.specs.declared.forms.Unknown.{Unknown}
use Rattle.acc_base.specs.declared.forms.Rel.{Rel}
use Rattle.acc_base.specs.Collecting.{worth}
use Rattle.acc_base.specs.Worths.{form_worth}
use Rattle.acc_base.specs.UnknownEquality.{is_bare_one}
use Rattle.acc_rows.specs.declared.stops.Stop.TheVariants.{Refuted}
use Rattle.acc_rows.specs.declared.rows.Row.{Row}
use Rattle.acc_elim_systems.specs.Systems.{is_false}
use Rattle.acc_elim_systems.specs.Made.{Rises, Proper, Near, Signed}
use Rattle.acc_elim_readings.specs.Readings.{unknowns_of, place_of}
use Rattle.acc_elim_points.specs.Searches.{searched}

-- what an unknown is worth, where the number of each counts f; the number 1 without condition is worth 1, and an unknown that isn't among
-- the names 0
abbrev pub numbered : (ℕ → ℤ) → List Unknown → Unknown → ℤ
numbered f names u = if is_bare_one u then pos 1 else option_map_or f (place_of names u) (pos 0)

-- base gives what each relation's form is worth, by its place
abbrev pub IsBase : (Unknown → ℤ) → (ℕ → ℤ) → List Rel → Type 0
IsBase v base rels = (j : ℕ) (d : Rel) → j < length rels → base j ≡ form_worth v (slice_index_or rels j d).form

-- is_equation tells which are equations
abbrev pub TellsEquations : (ℕ → Bool) → List Rel → Type 0
TellsEquations is_equation rels = (j : ℕ) (d : Rel) → j < length rels → is_equation j ≡ (slice_index_or rels j d).equal

-- the multipliers of a false constant, which tell that the relations have no solution: the constant is the sum of the multiples of
-- the relations, whatever the unknowns are worth; no inequality has a multiplier below 0; the places rise, each is one of a
-- relation, and no multiplier is 0, or beyond 2^120 on either side of 0
pub record Shows (rels : List Rel) (r : Row) : Type 0 where
  pub wrong : is_false r ≡ true
  pub places : Rises 0 r.by
  pub proper : Proper (length rels) r
  pub near : Near r
  pub signs : (is_equation : ℕ → Bool) → TellsEquations is_equation rels → Signed is_equation r
  pub sum : (f base : ℕ → ℤ) → IsBase (numbered f (unknowns_of rels)) base rels → r.constant ≡ worth base r.by

-- the false constant that ends a search has such multipliers
abbrev pub FalseConstantRefutes : Type 0
FalseConstantRefutes = (rels : List Rel) (r : Row) → searched rels ≡ Err (Refuted r) → Shows rels r
