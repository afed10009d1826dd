-- Idle rows of the shipped design meet the conditions.
use Rattle.std.proofs.Common.{◌≡◌, ℕ, Bool, true, false, List, [], ◌∷◌, map, Some, refl, ap, sym, ◌∙◌, subst, All}
use Rattle.std.proofs.Common.{ℤ, pos, ◌+ℤ◌, ◌-ℤ◌, ◌==◌}
use Rattle.std.specs.Prelude.{count_by, not, ◌&&◌, ◌||◌}
use Rattle.std.specs.List.{list_any, AllByRecursion}
use Rattle.std.specs.Ordering.{int_eq}
use Rattle.std.specs.Cmp.Lexicographic.{pointwise}
use Rattle.std.proofs.lemmas.Bool.Decides.{Decides-eqb}
use Rattle.acc_base.specs.declared.tables.Row.{Row}
use Rattle.acc_base.specs.declared.designs.Design.{Design}
use Rattle.acc_base.specs.Fits.{RowsFit}
use Rattle.acc_base.specs.Annotated.{IsIdle}
use Rattle.acc_base.specs.Tables.{is_at, cell, column_of, count_of, sum_of, least_of, greatest_of}
use Rattle.tpcc_tables.specs.declared.tables.TableSet.{TableSet}
use Rattle.tpcc_tables.specs.Conditions.{IsTrueOf, order_key, same}
use Rattle.tpcc_tables.proofs.RowFacts.{Among, all_among, has_here, column_here}
use Rattle.tpcc_tables.specs.declared.kinds.TheConstants.{CONDITIONS}
use Rattle.tpcc_tables.specs.declared.tables.TheConstants.{SCHEMA}
use Rattle.tpcc_tables.specs.Schema.{IsSchemaOf, number_in}
use Rattle.tpcc_tables.proofs.SchemaFacts.{same_numbers}
use Rattle.tpcc_steps.specs.Shipped.{HasShipped, shipped_tables}
use Rattle.tpcc_steps.specs.Law.{KeepsConditions}
use Rattle.tpcc_steps.proofs.Facts.{IsShippedIdle, shipped_idle}
use Rattle.tpcc_steps.proofs.Holding as holding

-- the numbers of the schema's tables in the shipped design
abbrev schema_tables : List ℕ
schema_tables = 0 ∷ 1 ∷ 2 ∷ 3 ∷ 4 ∷ 5 ∷ 6 ∷ 7 ∷ 8 ∷ 9 ∷ 10 ∷ []

-- a test that each row of a table passes
each : (db : List Row) (t : ℕ) (passes : Row → Bool) → ((r : Row) → Among r db → r.table ≡ t → passes r ≡ true)
    → All (λ (r : Row). ((r.table == t) && not (passes r)) ≡ false) db
each db t passes f = all_among (λ (r : Row). ((r.table == t) && not (passes r)) ≡ false) db (λ r m. by r m (r.table == t) refl)
  where
    by : (r : Row) → Among r db → (b : Bool) → (r.table == t) ≡ b → (b && not (passes r)) ≡ false
    by r m true e = ap not (f r m ((Decides-eqb r.table t).0 e))
    by r m false e = refl

module _ (db : List Row) (f : IsShippedIdle db) where
  -- by a column of the row at its key
  column : (t c : ℕ) (r : Row) (test : ℤ → Bool) → Among r db → r.table ≡ t → test (column_of db t r.key.parts c) ≡ true
      → test (cell c r) ≡ true
  column t c r test m e h = subst (λ v. test v ≡ true) (column_here db r t r.key.parts c f.order m e refl) h

  all_true : AllByRecursion (IsTrueOf (record { tables = schema_tables }) db) CONDITIONS
  all_true = (
    each db 0 (λ r. int_eq (cell 0 r) (sum_of db 1 r.key.parts 0))
        (λ r m e. column 0 0 r (λ v. int_eq v (sum_of db 1 r.key.parts 0)) m e
        (holding.warehouse_districts db f r.key.parts (f.width r m 0 e))),
    (
      each db 1 (λ r. int_eq (cell 2 r -ℤ pos 1) (greatest_of db 6 r.key.parts)
          && (int_eq (count_of db 5 r.key.parts) (pos 0) || int_eq (cell 2 r -ℤ pos 1) (greatest_of db 5 r.key.parts)))
          (λ r m e. column 1 2 r (λ v. int_eq (v -ℤ pos 1) (greatest_of db 6 r.key.parts)
          && (int_eq (count_of db 5 r.key.parts) (pos 0) || int_eq (v -ℤ pos 1) (greatest_of db 5 r.key.parts))) m e
          (holding.last_orders db f r.key.parts (f.width r m 1 e) (has_here db r 1 r.key.parts f.order m e refl))),
      (
        each db 1 (λ r. int_eq (count_of db 5 r.key.parts) (pos 0)
            || int_eq ((greatest_of db 5 r.key.parts -ℤ least_of db 5 r.key.parts) +ℤ pos 1) (count_of db 5 r.key.parts))
            (λ r m e. holding.waiting_orders db f r.key.parts (f.width r m 1 e)),
        (
          each db 1 (λ r. int_eq (sum_of db 6 r.key.parts 2) (count_of db 8 r.key.parts))
              (λ r m e. holding.district_lines db f r.key.parts (f.width r m 1 e)),
          (
            each db 6 (λ r. same (int_eq (cell 1 r) (pos 0)) (list_any (is_at 5 r.key.parts) db))
                (λ r m e. column 6 1 r (λ v. same (int_eq v (pos 0)) (list_any (is_at 5 r.key.parts) db)) m e
                (holding.carriers db f r.key.parts (f.width r m 6 e) (has_here db r 6 r.key.parts f.order m e refl))),
            (
              each db 6 (λ r. int_eq (cell 2 r)
                  (pos (count_by (λ (x : Row). (x.table == 8) && pointwise int_eq r.key.parts (order_key x.key.parts)) db)))
                  (λ r m e. column 6 2 r (λ v. int_eq v
                  (pos (count_by (λ (x : Row). (x.table == 8) && pointwise int_eq r.key.parts (order_key x.key.parts)) db))) m e
                  (holding.order_lines db f r.key.parts (f.width r m 6 e))),
              (
                each db 8 (λ r. same (int_eq (cell 4 r) (pos 0)) (int_eq (column_of db 6 (order_key r.key.parts) 1) (pos 0)))
                    (λ r m e. column 8 4 r (λ v. same (int_eq v (pos 0)) (int_eq (column_of db 6 (order_key r.key.parts) 1) (pos 0))) m e
                    (holding.dates db f r m e r.key.parts refl (f.width r m 8 e))),
                (
                  each db 0 (λ r. int_eq (cell 0 r) (sum_of db 3 r.key.parts 0))
                      (λ r m e. column 0 0 r (λ v. int_eq v (sum_of db 3 r.key.parts 0)) m e
                      (holding.warehouse_payments db f r.key.parts (f.width r m 0 e))),
                  (
                    each db 1 (λ r. int_eq (cell 0 r) (sum_of db 3 r.key.parts 0))
                        (λ r m e. column 1 0 r (λ v. int_eq v (sum_of db 3 r.key.parts 0)) m e
                        (holding.district_payments db f r.key.parts (f.width r m 1 e))),
                    tt,
                  ),
                ),
              ),
            ),
          ),
        ),
      ),
    ),
  )

-- the schema's tables are the first ones
schema_found : map (number_in shipped_tables) SCHEMA ≡ map Some schema_tables
schema_found = refl

pub keeps : (d : Design) → HasShipped d → KeepsConditions d
keeps d has s db schema fit idle =
    let found : map Some s.tables ≡ map Some schema_tables = schema ∙ (ap (λ ts. map (number_in ts) SCHEMA) has.tables ∙ schema_found) in
    let tables = same_numbers s.tables schema_tables found in
    subst (λ ts. AllByRecursion (IsTrueOf (record { tables = ts }) db) CONDITIONS) (sym tables)
    (all_true db (shipped_idle d db has fit idle))
