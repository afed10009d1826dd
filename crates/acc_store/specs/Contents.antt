-- What stands at a place.
use Rattle.std.specs.Prelude.{ℕ, Bool, true, false, List, Option, Some, None, ℤ}

-- the cells of a row, or none where the place is blank, and how many cells there is room for
pub record Content : Type 0 where
  pub cells : Option (List ℤ)
  pub room : ℕ

abbrev pub cells_of : Bool → List ℤ → Option (List ℤ)
cells_of true cells = Some cells
cells_of false cells = None
