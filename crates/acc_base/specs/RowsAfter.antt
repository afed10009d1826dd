-- The rows after the actions of a path, and whether the rows that they change are there.
-- The law of weakest preconditions and soundness speak of them.
use Rattle.std.specs.Prelude.{⊤, IsTrue, List, [], ◌∷◌, ℤ}
use Rattle.std.specs.List.{list_any}
use Rattle.acc_base.specs.declared.tables.Row.{Row}
use Rattle.acc_base.specs.declared.steps.Action.{Action}
use Rattle.acc_base.specs.declared.steps.Action.TheVariants.{Put, Del, Set, Add}
use Rattle.acc_base.specs.Tables.{is_at}
use Rattle.acc_base.specs.Linear.{lin_values}
use Rattle.acc_base.specs.Actions.{after_action}

-- the rows after actions, one after the other
abbrev pub rows_after : List ℤ → List Action → List Row → List Row
rows_after env [] db = db
rows_after env (a ∷ rest) db = rows_after env rest (after_action env a db)

-- the row that a `set` or an `add` changes is there
abbrev pub IsThere : List ℤ → Action → List Row → Type 0
IsThere env (Put t k vs) db = ⊤
IsThere env (Del t k) db = ⊤
IsThere env (Set t k c v) db = IsTrue (list_any (is_at t (lin_values env k)) db)
IsThere env (Add t k c v) db = IsTrue (list_any (is_at t (lin_values env k)) db)

-- when each action's turn comes
abbrev pub AreThere : List ℤ → List Action → List Row → Type 0
AreThere env [] db = ⊤
AreThere env (a ∷ rest) db = IsThere env a db × AreThere env rest (after_action env a db)
