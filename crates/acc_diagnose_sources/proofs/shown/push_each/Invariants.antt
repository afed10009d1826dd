-- what is written, with what is left to write, is all of it
use Rattle.std.proofs.Common.{◌≡◌, ◌++◌, drop}
use Rattle.acc_diagnose_sources.specs.Shown.{each_shown}
use Rattle.acc_diagnose_sources.proofs.shown.push_each.Given as goal

abbrev pub invariant-loop : goal.invariant-loop
invariant-loop g l = l.shown.items ++ each_shown (drop l.index l.items) ≡ l.fn.shown.items ++ each_shown l.items
