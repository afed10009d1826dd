-- Which consistency conditions of TPC-C are true of rows, and what is told of each.
use Rattle.std.specs.Prelude.{◌≡◌, ◌⊎◌, ◌++◌, ◌-◌, ℕ, Bool, true, false, List, length, find, All, get_or, Option, Some, None, option_map, codes}
use Rattle.std.specs.List.{flat_map, range_with_len}
use Rattle.std.specs.Fmt.{decimal}
use Rattle.acc_base.specs.Lines.{line, spaced}
use Rattle.acc_base.specs.declared.tables.Key.{Key}
use Rattle.acc_base.specs.declared.tables.Row.{Row}
use Rattle.tpcc_tables.specs.Conditions.{is_wrong, IsTrueOf}
use Rattle.tpcc_tables.specs.declared.kinds.Condition.TheVariants.{WarehouseDistricts}
use Rattle.tpcc_tables.specs.declared.kinds.TheConstants.{CONDITIONS}
use Rattle.tpcc_tables.specs.declared.tables.TableSet.{TableSet}
use Rattle.acc_journalled.specs.declared.answers.Ending.{Ending}
use Rattle.acc_journalled.specs.declared.answers.Ending.TheVariants.{Done, ConditionFalse}

-- the least key of the rows that show the n-th condition, counted from 1, to be false; none where it is true of the rows
abbrev pub false_key : TableSet → List Row → ℕ → Option Key
false_key s db n = option_map (λ r. r.key) (find (is_wrong (get_or CONDITIONS (n - 1) WarehouseDistricts) s db) db)

-- that a condition is true, or else the parts of the key that shows it to be false
abbrev pub verdict_text : Option Key → List ℕ
verdict_text None = codes " true"
verdict_text (Some key) = codes " false" ++ flat_map spaced key.parts

-- the line of the n-th condition
abbrev pub condition_line : ℕ → Option Key → List ℕ
condition_line n found = line (codes "condition " ++ (decimal n ++ verdict_text found))

-- a line for each condition, in the standard's order
unfoldable pub conditions_text : TableSet → List Row → List ℕ
conditions_text s db = flat_map (λ n. condition_line n (false_key s db n)) (range_with_len 1 (length CONDITIONS))

-- each condition is true of the rows
abbrev pub AreConsistent : TableSet → List Row → Type 0
AreConsistent s db = All (IsTrueOf s db) CONDITIONS

-- how it ends, by whether each condition is true
abbrev pub ending_by : Bool → Ending
ending_by true = Done
ending_by false = ConditionFalse

-- it ends as done where each condition is true of the rows, and else so that one is false
abbrev pub EndsByRows : TableSet → List Row → Ending → Type 0
EndsByRows s db ending = ((ending ≡ Done) × AreConsistent s db) ⊎ ((ending ≡ ConditionFalse) × ¬ AreConsistent s db)
