-- What is printed of a load and a mix, and how it ends.
use Rattle.std.specs.Prelude.{◌++◌, ◌&&◌, ℕ, Bool, true, false, List, length, Option, None, Some, codes}
use Rattle.std.specs.Fmt.{decimal}
use Rattle.acc_base.specs.Lines.{line}
use Rattle.acc_journalled.specs.declared.answers.Ending.{Ending}
use Rattle.acc_journalled.specs.declared.answers.Ending.TheVariants.{Done, Unbegun, ConditionFalse}
use Rattle.acc_journalled.specs.Conditions.{condition_line}
use Rattle.acc_bench.specs.declared.results.Benched.{Benched}
use Rattle.acc_bench.specs.declared.results.FalseCondition.{FalseCondition}
use Rattle.acc_bench.specs.declared.results.Loaded.{Loaded}
use Rattle.acc_bench.specs.declared.results.Mixed.{Mixed}

-- how many calls the load has, and how many events there were behind it
abbrev pub load_line : Loaded → List ℕ
load_line l = line (codes "load places " ++ (decimal l.places ++ (codes " events " ++ decimal l.events)))

-- how the mix's calls ended, what the order's turns came to, and how many events there were at the end
abbrev pub mix_line : Mixed → ℕ → List ℕ
mix_line m events =
    line (codes "mix committed " ++ (decimal m.committed ++ (codes " compensated " ++ (decimal m.compensated ++ (codes " blocked "
    ++ (decimal m.blocked ++ (codes " victims " ++ (decimal m.victims ++ (codes " events " ++ decimal events)))))))))

-- that each condition is true, or the lowest that is false and the key that shows it
abbrev pub conditions_line : Option FalseCondition → List ℕ
conditions_line None = line (codes "conditions true")
conditions_line (Some f) = condition_line f.number (Some f.key)

-- the counts of a load and a mix, and how many events there were at the end
abbrev pub counts_text : Loaded → Mixed → ℕ → List ℕ
counts_text l m events = load_line l ++ mix_line m events

abbrev pub bench_text : Benched → List ℕ
bench_text b = counts_text b.loaded b.mixed (length b.history) ++ conditions_line b.against

-- it ends so that a condition is false, where one is; else so that a call couldn't begin, where one couldn't; and else as done
abbrev pub ending_by : Option FalseCondition → Bool → Ending
ending_by (Some f) all_begun = ConditionFalse
ending_by None true = Done
ending_by None false = Unbegun

abbrev pub bench_ending : Benched → Ending
bench_ending b = ending_by b.against (b.loaded.all_begun && b.mixed.all_begun)
