-- The lowest consistency condition that is false of rows.
use Rattle.std.specs.Prelude.{◌≡◌, ◌≤◌, ◌<◌, ◌+◌, ℕ, List, length, Option, None, Some}
use Rattle.acc_base.specs.declared.tables.Row.{Row}
use Rattle.tpcc_tables.specs.declared.kinds.TheConstants.{CONDITIONS}
use Rattle.tpcc_tables.specs.declared.tables.TableSet.{TableSet}
use Rattle.acc_journalled.specs.Conditions.{false_key, AreConsistent}
use Rattle.acc_bench.specs.declared.results.FalseCondition.{FalseCondition}

-- the condition is false of the rows, by this key, and each with a lower number is true of them
pub record IsLowestFalse (s : TableSet) (db : List Row) (f : FalseCondition) : Type 0 where
  pub from : 1 ≤ f.number
  pub to : f.number ≤ length CONDITIONS
  pub here : false_key s db f.number ≡ Some f.key
  pub lower : (n : ℕ) → n + 1 < f.number → false_key s db (n + 1) ≡ None

-- the lowest that is false; or none, and each is true of the rows
abbrev pub IsLowest : TableSet → List Row → Option FalseCondition → Type 0
IsLowest s db None = AreConsistent s db
IsLowest s db (Some f) = IsLowestFalse s db f
