-- How many lines each order has, as a map has it.
use Rattle.std.specs.Prelude.{◌≡◌, ℕ, List, count_by, unwrap_or, ℤ}
use Rattle.std.specs.Ordering.{int_cmp}
use Rattle.std.specs.Cmp.Lexicographic.{slice_cmp}
use Rattle.std.specs.BTreeMap.{BTreeMap, get}
use Rattle.acc_base.specs.declared.tables.Row.{Row}
use Rattle.tpcc_tables.specs.Conditions.{is_line_of}

abbrev pub lines_in : BTreeMap (List ℤ) ℕ → List ℤ → ℕ
lines_in counts k = unwrap_or (get (slice_cmp int_cmp) counts k) 0

-- the map has, at each key, how many of the rows are lines of the order with that key
abbrev pub CountsLines : ℕ → List Row → BTreeMap (List ℤ) ℕ → Type 0
CountsLines line db counts = (k : List ℤ) → lines_in counts k ≡ count_by (is_line_of line k) db
