-- The rows, and the columns at a place, as actions go on.
use Rattle.std.proofs.Common.{◌≡◌, ◌&&◌, Bool, true, false, List, [], ◌∷◌, ◌++◌, ap, ◌∙◌, refl, ℤ, Option, Some, None, if◌then◌else◌}
use Rattle.std.specs.List.{list_all}
use Rattle.acc_base.specs.declared.tables.Row.{Row}
use Rattle.acc_base.specs.declared.designs.Side.{Side}
use Rattle.acc_base.specs.declared.steps.Action.{Action}
use Rattle.acc_base.specs.Numbers.{is_small}
use Rattle.acc_base.specs.Tables.{Place, IsInOrder}
use Rattle.acc_base.specs.Actions.{action_numbers, stores_small, after_action}
use Rattle.acc_step.specs.declared.changes.RowChange.{RowChange}
use Rattle.acc_step.specs.Overlay.{columns_at}
use Rattle.acc_step.specs.Changing.{change_of, change_if_small, may_act}
use Rattle.acc_step.specs.RowColumns.{columns_acted, columns_through, may_follow}
use Rattle.acc_step.proofs.ActionSteps.{changed_is, may_change_is}
use Rattle.acc_step.proofs.ColumnChanges.{moved_at, made_by}

-- the rows after actions, whatever their numbers
abbrev pub rows_through : List ℤ → List Action → List Row → List Row
rows_through env [] db = db
rows_through env (a ∷ rest) db = rows_through env rest (after_action env a db)

module _ (env : List ℤ) (a : Action) where
  pub rows_more : (before : List Action) (db : List Row) →
      rows_through env (before ++ a ∷ []) db ≡ after_action env a (rows_through env before db)
  rows_more [] db = refl
  rows_more (b ∷ before) db = rows_more before (after_action env b db)

  pub columns_more : (p : Place) (before : List Action) (old : Option (List ℤ)) →
      columns_through env p (before ++ a ∷ []) old ≡ columns_acted p (change_if_small env a) (columns_through env p before old)
  columns_more p [] old = refl
  columns_more p (b ∷ before) old = columns_more p before (columns_acted p (change_if_small env b) old)

  -- an action whose numbers are in range leaves these columns
  pub acted_at : (p : Place) (db : List Row) → IsInOrder db → list_all is_small (action_numbers env a) ≡ true →
      columns_acted p (change_if_small env a) (columns_at p db) ≡ columns_at p (after_action env a db)
  acted_at p db order small =
      ap (λ b. columns_acted p (if b then Some (change_of env a) else None) (columns_at p db)) small ∙ moved_at p (change_of env a) db order
      ∙ ap (columns_at p) (changed_is env a db)

  module _ (side : Side) where
    follows : (db : List Row) → may_follow side (change_if_small env a) (λ p. columns_at p db) ≡ may_act side env a db
    follows db = by (list_all is_small (action_numbers env a))
      where
        by : (b : Bool) → may_follow side (if b then Some (change_of env a) else None) (λ p. columns_at p db) ≡
            (b && stores_small side env a db)
        by true = made_by side (change_of env a) db ∙ may_change_is side env a db
        by false = refl

    same_columns : (o : Option RowChange) (f g : Place → Option (List ℤ)) → ((p : Place) → f p ≡ g p) →
        may_follow side o f ≡ may_follow side o g
    same_columns None f g h = refl
    same_columns (Some change) f g h = λ i. may_follow side (Some change) (λ p. h p i)

    -- whether an action may be done is told by the columns
    pub follows_by : (columns : Place → Option (List ℤ)) (db : List Row) → ((p : Place) → columns p ≡ columns_at p db) →
        may_follow side (change_if_small env a) columns ≡ may_act side env a db
    follows_by columns db h = same_columns (change_if_small env a) columns (λ p. columns_at p db) h ∙ follows db
