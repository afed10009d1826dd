-- Changes of rows: actions whose numbers are worked out.
use Rattle.std.specs.Prelude.{Bool, true, not, ◌&&◌, ◌||◌, List, Option, Some, None, if◌then◌else◌, ℤ, ◌+ℤ◌}
use Rattle.std.specs.List.{list_any, list_all}
use Rattle.acc_base.specs.declared.tables.Row.{Row}
use Rattle.acc_base.specs.declared.designs.Side.{Side}
use Rattle.acc_base.specs.declared.steps.Action.{Action}
use Rattle.acc_base.specs.declared.steps.Action.TheVariants.{Put, Del, Set, Add}
use Rattle.acc_base.specs.Tables.{Place, column_of, is_at, put, drop_row, change_row, set_cell, cell}
use Rattle.acc_base.specs.Numbers.{is_small}
use Rattle.acc_base.specs.Linear.{lin_value, lin_values}
use Rattle.acc_base.specs.Actions.{action_numbers, stores_small}
use Rattle.acc_store.specs.Rows.{row_of}
use Rattle.acc_step.specs.declared.changes.RowKey.{RowKey}
use Rattle.acc_step.specs.declared.changes.RowChange.{RowChange}
use Rattle.acc_step.specs.declared.changes.RowChange.TheVariants.{Put as Puts, Drop as Drops, Set as Sets, Add as Adds}
use Rattle.acc_step.specs.Overlay.{may_store}

-- whether an action may be done: its numbers are in range, and so is what a forward `add` stores
abbrev pub may_act : Side → List ℤ → Action → List Row → Bool
may_act side env a db = list_all is_small (action_numbers env a) && stores_small side env a db

-- the change that an action makes, by the values of the variables
abbrev pub change_of : List ℤ → Action → RowChange
change_of env (Put t k vs) = Puts (record { table = t; parts = lin_values env k }) (lin_values env vs)
change_of env (Del t k) = Drops (record { table = t; parts = lin_values env k })
change_of env (Set t k c v) = Sets (record { table = t; parts = lin_values env k }) c (lin_value env v)
change_of env (Add t k c v) = Adds (record { table = t; parts = lin_values env k }) c (lin_value env v)

-- and the same where the action's numbers are in range
abbrev pub change_if_small : List ℤ → Action → Option RowChange
change_if_small env a = if list_all is_small (action_numbers env a) then Some (change_of env a) else None

abbrev pub place_at : RowKey → Place
place_at k = (k.table, k.parts)

-- the rows after a change
abbrev pub changed : RowChange → List Row → List Row
changed (Puts k cols) db = put (row_of (place_at k) cols) db
changed (Drops k) db = drop_row k.table k.parts db
changed (Sets k c v) db = change_row k.table k.parts (set_cell c v) db
changed (Adds k c v) db = change_row k.table k.parts (λ r. set_cell c (cell c r +ℤ v) r) db

-- whether a change may be made: what an `add` stores may be barred
abbrev pub may_change : Side → RowChange → List Row → Bool
may_change side (Puts k cols) db = true
may_change side (Drops k) db = true
may_change side (Sets k c v) db = true
may_change side (Adds k c v) db = not (list_any (is_at k.table k.parts) db) || may_store side (column_of db k.table k.parts c +ℤ v)
