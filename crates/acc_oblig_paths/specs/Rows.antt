-- The rows that have to be there, as clauses.
use Rattle.std.specs.Prelude.{ℕ, List, Option, Some, None, slice_get, option_map}
use Rattle.acc_base.specs.declared.forms.Clause.{Clause}
use Rattle.acc_base.specs.declared.steps.Action.{Action}
use Rattle.acc_oblig.specs.PathPromises.{changed_row, row_there}

-- that the row is there, if the action needs one
abbrev pub needed_row : Action → Option Clause
needed_row a = option_map row_there (changed_row a)

abbrev pub needed_of : Option Action → Option Clause
needed_of None = None
needed_of (Some a) = needed_row a

-- that the row is there which the action with number k needs, if it needs one
abbrev pub needed_at : List Action → ℕ → Option Clause
needed_at actions k = needed_of (slice_get actions k)
