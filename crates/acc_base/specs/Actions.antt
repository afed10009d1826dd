-- What the actions of a path do with the rows.
use Rattle.std.specs.Prelude.{ℕ, Bool, true, not, ◌&&◌, ◌||◌, if◌then◌else◌, List, [], ◌∷◌, ◌++◌, Option, Some, None, ℤ, ◌+ℤ◌}
use Rattle.std.specs.List.{list_all, list_any}
use Rattle.acc_base.specs.declared.tables.Row.{Row}
use Rattle.acc_base.specs.declared.steps.Action.{Action}
use Rattle.acc_base.specs.declared.steps.Action.TheVariants.{Put, Del, Set, Add}
use Rattle.acc_base.specs.declared.designs.Side.{Side}
use Rattle.acc_base.specs.declared.designs.Side.TheVariants.{Next, Undo}
use Rattle.acc_base.specs.Numbers.{is_small}
use Rattle.acc_base.specs.Tables.{column_of, is_at, put, drop_row, change_row, set_cell, cell}
use Rattle.acc_base.specs.Linear.{lin_value, lin_values}

-- the table of the row that an action changes
abbrev pub acted_table : Action → ℕ
acted_table (Put t k vs) = t
acted_table (Del t k) = t
acted_table (Set t k c v) = t
acted_table (Add t k c v) = t

-- the numbers of an action that have to be in range: its key's, and then its operands
abbrev pub action_numbers : List ℤ → Action → List ℤ
action_numbers env (Put t k vs) = lin_values env k ++ lin_values env vs
action_numbers env (Del t k) = lin_values env k
action_numbers env (Set t k c v) = lin_values env k ++ lin_value env v ∷ []
action_numbers env (Add t k c v) = lin_values env k ++ lin_value env v ∷ []

-- one action on the rows: `put` makes or replaces a row, `del` drops it, and `set` and `add` change a column
-- and do nothing where the row is absent
abbrev pub after_action : List ℤ → Action → List Row → List Row
after_action env (Put t k vs) db =
    put (record { table = t; key = record { parts = lin_values env k }; cols = lin_values env vs }) db
after_action env (Del t k) db = drop_row t (lin_values env k) db
after_action env (Set t k c v) db = change_row t (lin_values env k) (set_cell c (lin_value env v)) db
after_action env (Add t k c v) db =
    change_row t (lin_values env k) (λ r. set_cell c (cell c r +ℤ lin_value env v) r) db

-- whether the number that an `add` stores is in range; on the undo side it needn't be
abbrev pub stores_small : Side → List ℤ → Action → List Row → Bool
stores_small Undo env a db = true
stores_small Next env (Put t k vs) db = true
stores_small Next env (Del t k) db = true
stores_small Next env (Set t k c v) db = true
stores_small Next env (Add t k c v) db =
    not (list_any (is_at t (lin_values env k)) db) || is_small (column_of db t (lin_values env k) c +ℤ lin_value env v)

-- the actions one after the other, or none where a number leaves the range
abbrev pub after_actions : Side → List ℤ → List Action → List Row → Option (List Row)
after_actions side env [] db = Some db
after_actions side env (a ∷ rest) db =
    if list_all is_small (action_numbers env a) && stores_small side env a db then after_actions side env rest
    (after_action env a db) else None
