-- what is written, with what is left to write, is all of it
use Rattle.std.proofs.Common.{◌≡◌, ◌++◌, length}
use Rattle.acc_diagnose_sources.specs.Shown.{beside, shown_point}
use Rattle.acc_diagnose_sources.proofs.shown.push_points.Given as goal

abbrev pub invariant-loop-tree : goal.invariant-loop-tree
invariant-loop-tree l =
    l.shown.items ++ beside shown_point l.trees_left l.points_left ≡ l.initial.shown.items ++ beside shown_point l.trees l.points

abbrev pub decreases-loop-tree : goal.decreases-loop-tree
decreases-loop-tree l = length l.trees_left
