-- The law of weakest preconditions: what is true before actions exactly where a relation is true after them.
use Rattle.std.specs.Prelude.{◌≡◌, List, All, Some, ℤ}
use Rattle.acc_base.specs.declared.tables.Table.{Table}
use Rattle.acc_base.specs.declared.tables.Row.{Row}
use Rattle.acc_base.specs.declared.forms.Rel.{Rel}
use Rattle.acc_base.specs.declared.steps.Action.{Action}
use Rattle.acc_base.specs.declared.designs.Side.{Side}
use Rattle.acc_base.specs.Tables.{IsInOrder}
use Rattle.acc_base.specs.Actions.{after_actions}
use Rattle.acc_base.specs.Truth.{rel_true}
use Rattle.acc_base.specs.RowsAfter.{rows_after, AreThere}
use Rattle.acc_base.specs.Shapes.{FormFits, ActionFits, RowFits}

-- a relation is true before actions exactly where r is true after them: for all rows in order that have the shapes of some tables,
-- over which the actions and r keep their shapes, and for all values of the variables, where the row of each `set` and `add` is there
abbrev pub IsWeakest : List Action → Rel → Rel → Type 0
IsWeakest actions r before =
    (tables : List Table) → All (ActionFits tables) actions → FormFits tables r.form
    → (db : List Row) → All (RowFits tables) db → IsInOrder db
    → (env : List ℤ) → AreThere env actions db
    → rel_true db env before ≡ rel_true (rows_after env actions db) env r

-- where the actions of a path leave rows, those are the rows after them
abbrev pub ActionsAgree : Type 0
ActionsAgree =
    (side : Side) (env : List ℤ) (actions : List Action) (db after : List Row)
    → after_actions side env actions db ≡ Some after → rows_after env actions db ≡ after
