-- Rows keep the shapes of tables after an action.
use Rattle.std.proofs.Common.{◌≡◌, ◌<◌, ℕ, true, false, List, length, refl, ap, sym, ◌∙◌, subst, arith, Option, Some, None, ℤ, ◌+ℤ◌}
use Rattle.std.specs.Prelude.{find, slice_get, slice_set}
use Rattle.std.specs.List.{AllByRecursion, list_any}
use Rattle.std.proofs.lemmas.List.{length-map, length-set}
use Rattle.acc_base.specs.declared.tables.Table.{Table}
use Rattle.acc_base.specs.declared.tables.Row.{Row}
use Rattle.acc_base.specs.declared.steps.Action.{Action}
use Rattle.acc_base.specs.declared.steps.Action.TheVariants as action
use Rattle.acc_base.specs.Tables.{IsInOrder, is_at, cell}
use Rattle.acc_base.specs.Linear.{lin_value, lin_values}
use Rattle.acc_base.specs.Actions.{after_action}
use Rattle.acc_base.proofs.RowChanges.{put_all, drop_all, change_all}
use Rattle.acc_base.proofs.RowOrder.{put_in_order, drop_in_order, change_in_order}
use Rattle.acc_base.proofs.Lookups.{found_at, any_none}
use Rattle.acc_base.specs.Shapes.{IsFullKey, IsColumn, AreColumns, ActionFits, RowFits}
use Rattle.acc_base.specs.RowsAfter.{IsThere}
use Rattle.acc_preconditions.proofs.RowTurns.{put_row, with_set, with_added}
use Rattle.acc_preconditions.proofs.Growths.{IsReady, HasColumn}
use Rattle.acc_instanced.proofs.RowPlaces.{found_holds}

module _ (tables : List Table) (env : List ℤ) where
  set_fits : (c : ℕ) (x : Row → ℤ) (r : Row) → RowFits tables r → RowFits tables (record r { cols = slice_set r.cols c (x r) })
  set_fits c x r h =
      (h.0, subst (λ (n : ℕ). AreColumns (slice_get tables r.table) n) (sym (length-set r.cols c (x r))) h.1)

  pub rows_fit : (a : Action) (db : List Row) → ActionFits tables a → AllByRecursion (RowFits tables) db →
      AllByRecursion (RowFits tables) (after_action env a db)
  rows_fit (action.Put t k vs) db fits h =
      put_all (RowFits tables) (put_row env t k vs) db (
        subst (λ (n : ℕ). IsFullKey (slice_get tables t) n) (sym (length-map k (lin_value env))) fits.0,
        subst (λ (n : ℕ). AreColumns (slice_get tables t) n) (sym (length-map vs (lin_value env))) fits.1,
      ) h
  rows_fit (action.Del t k) db fits h = drop_all (RowFits tables) t (lin_values env k) db h
  rows_fit (action.Set t k c v) db fits h =
      change_all (RowFits tables) (RowFits tables) t (lin_values env k) (with_set env c v) (λ r x. x) db
      (λ r e g x. set_fits c (λ y. lin_value env v) r x) h
  rows_fit (action.Add t k c v) db fits h =
      change_all (RowFits tables) (RowFits tables) t (lin_values env k) (with_added env c v) (λ r x. x) db
      (λ r e g x. set_fits c (λ y. cell c y +ℤ lin_value env v) r x) h

  pub stays_in_order : (a : Action) (db : List Row) → IsInOrder db → IsInOrder (after_action env a db)
  stays_in_order (action.Put t k vs) db h = put_in_order (put_row env t k vs) db h
  stays_in_order (action.Del t k) db h = drop_in_order t (lin_values env k) db h
  stays_in_order (action.Set t k c v) db h = change_in_order t (lin_values env k) (with_set env c v) (λ r. refl) db h
  stays_in_order (action.Add t k c v) db h = change_in_order t (lin_values env k) (with_added env c v) (λ r. refl) db h

  -- the row of a `set` or an `add` has the column
  column_there : (o : Option Table) (c n : ℕ) → IsColumn o c → AreColumns o n → c < n
  column_there None c n h g = absurd h
  column_there (Some t) c n h g = omega (arith, h, g)

  finds : (t : ℕ) (k : List ℤ) (c : ℕ) (db : List Row) → list_any (is_at t k) db ≡ true → IsColumn (slice_get tables t) c →
      AllByRecursion (RowFits tables) db → HasColumn c (find (is_at t k) db)
  finds t k c db there column fits = by (find (is_at t k) db) refl
    where
      by : (o : Option Row) → find (is_at t k) db ≡ o → HasColumn c o
      by None e = absurd (let f : true ≡ false = sym there ∙ any_none (is_at t k) db e in cc)
      by (Some r) e =
          let at : t ≡ r.table = ap (λ (p : ℕ × List ℤ). p.0) (found_at (t, k) db r e) in
          let own = found_holds (RowFits tables) (is_at t k) db r e fits in (
            r,
            refl,
            column_there (slice_get tables r.table) c (length r.cols) (subst (λ (z : ℕ). IsColumn (slice_get tables z) c) at column)
                own.1,
          )

  pub is_ready : (a : Action) (db : List Row) → ActionFits tables a → AllByRecursion (RowFits tables) db → IsThere env a db →
      IsReady env a db
  is_ready (action.Put t k vs) db fits rows there = tt
  is_ready (action.Del t k) db fits rows there = tt
  is_ready (action.Set t k c v) db fits rows there = finds t (lin_values env k) c db there fits.1 rows
  is_ready (action.Add t k c v) db fits rows there = finds t (lin_values env k) c db there fits.1 rows
