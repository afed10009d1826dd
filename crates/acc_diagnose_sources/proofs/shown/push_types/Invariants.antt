-- what is written, with what is left to write, is all of it
use Rattle.std.proofs.Common.{◌≡◌, ◌++◌, length}
use Rattle.acc_diagnose_sources.specs.Shown.{beside, shown_type}
use Rattle.acc_diagnose_sources.proofs.shown.push_types.Given as goal

abbrev pub invariant-loop-tree : goal.invariant-loop-tree
invariant-loop-tree l =
    l.shown.items ++ beside shown_type l.trees_left l.types_left ≡ l.initial.shown.items ++ beside shown_type l.trees l.types

abbrev pub decreases-loop-tree : goal.decreases-loop-tree
decreases-loop-tree l = length l.trees_left
