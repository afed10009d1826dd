-- Rows after the actions of a path.
use Rattle.std.proofs.Common.{◌≡◌, ◌+◌, ◌≤◌, Bool, true, false, List, [], ◌∷◌, length, subst, refl, if◌then◌else◌, arith, Some, None, ℤ}
use Rattle.std.proofs.Common.{◌+ℤ◌}
use Rattle.std.specs.Prelude.{◌&&◌}
use Rattle.std.specs.List.{list_all}
use Rattle.std.proofs.lemmas.Option.{same_Some, none-some}
use Rattle.acc_base.specs.declared.tables.Row.{Row}
use Rattle.acc_base.specs.declared.steps.Action.{Action}
use Rattle.acc_base.specs.declared.steps.Action.TheVariants.{Put, Del, Set, Add}
use Rattle.acc_base.specs.declared.designs.Side.{Side}
use Rattle.acc_base.specs.Numbers.{is_small}
use Rattle.acc_base.specs.Tables.{IsInOrder, set_cell, cell}
use Rattle.acc_base.specs.Linear.{lin_value, lin_values}
use Rattle.acc_base.specs.Actions.{action_numbers, after_action, stores_small, after_actions}
use Rattle.acc_base.proofs.RowChanges.{length-put, length-drop_row, length-change_row}
use Rattle.acc_base.proofs.RowOrder.{put_in_order, drop_in_order, change_in_order}

module _ (side : Side) (env : List ℤ) where
  -- what one action asks, and what is left to do
  pub record GoesOn (a : Action) (rest : List Action) (db after : List Row) : Type 0 where
    pub small : list_all is_small (action_numbers env a) ≡ true
    pub stores : stores_small side env a db ≡ true
    pub rest_goes : after_actions side env rest (after_action env a db) ≡ Some after

  pub goes_on : (a : Action) (rest : List Action) (db after : List Row) → after_actions side env (a ∷ rest) db ≡ Some after
      → GoesOn a rest db after
  goes_on a rest db after e = by (list_all is_small (action_numbers env a)) (stores_small side env a db) refl refl e
    where
      by : (b c : Bool) → list_all is_small (action_numbers env a) ≡ b → stores_small side env a db ≡ c
          → (if b && c then after_actions side env rest (after_action env a db) else None) ≡ Some after → GoesOn a rest db after
      by true true s t h = record { small = s; stores = t; rest_goes = h }
      by true false s t h = absurd (none-some after h)
      by false c s t h = absurd (none-some after h)

  -- what holds of the rows and of the actions that are left, where each action keeps it
  module _ (Q : List Action → List Row → Type 0) (more : (a : Action) (rest : List Action) (db : List Row)
      → list_all is_small (action_numbers env a) ≡ true → stores_small side env a db ≡ true → Q (a ∷ rest) db
      → Q rest (after_action env a db)) where
    pub along : (acts : List Action) (db after : List Row) → after_actions side env acts db ≡ Some after → Q acts db → Q [] after
    along [] db after e q = subst (Q []) (same_Some db after e) q
    along (a ∷ rest) db after e q =
        let g = goes_on a rest db after e in
        along rest (after_action env a db) after g.rest_goes (more a rest db g.small g.stores q)

  action_in_order : (a : Action) (db : List Row) → IsInOrder db → IsInOrder (after_action env a db)
  action_in_order (Put t k vs) db h = put_in_order
      (record { table = t; key = record { parts = lin_values env k }; cols = lin_values env vs }) db h
  action_in_order (Del t k) db h = drop_in_order t (lin_values env k) db h
  action_in_order (Set t k c v) db h = change_in_order t (lin_values env k) (set_cell c (lin_value env v)) (λ r. refl) db h
  action_in_order (Add t k c v) db h = change_in_order t (lin_values env k) (λ r. set_cell c (cell c r +ℤ lin_value env v) r)
      (λ r. refl) db h

  pub actions_in_order : (acts : List Action) (db after : List Row) → after_actions side env acts db ≡ Some after → IsInOrder db
      → IsInOrder after
  actions_in_order acts db after e h = along (λ rest rows. IsInOrder rows) (λ a rest rows s t q. action_in_order a rows q) acts db after e h

  length-action : (a : Action) (db : List Row) → length (after_action env a db) ≤ length db + 1
  length-action (Put t k vs) db = length-put (record { table = t; key = record { parts = lin_values env k }; cols = lin_values env vs }) db
  length-action (Del t k) db = let l = length-drop_row t (lin_values env k) db in omega arith
  length-action (Set t k c v) db = let l = length-change_row t (lin_values env k) (set_cell c (lin_value env v)) db in omega arith
  length-action (Add t k c v) db = let l = length-change_row t (lin_values env k)
      (λ r. set_cell c (cell c r +ℤ lin_value env v) r) db in omega arith

  -- each action makes one row at most
  pub length-actions : (acts : List Action) (db after : List Row) → after_actions side env acts db ≡ Some after
      → length after ≤ length db + length acts
  length-actions acts db after e =
      let h = along (λ rest rows. length rows + length rest ≤ length db + length acts)
      (λ a rest rows s t q. let l = length-action a rows in omega arith) acts db after e (omega arith) in
      omega arith
