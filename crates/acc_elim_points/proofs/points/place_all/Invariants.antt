use Rattle.std.proofs.Common.{◌≡◌, ◌≤◌, length, take}
use Rattle.std.specs.Prelude.{reverse}
use Rattle.acc_base.specs.Computing.{steps}
use Rattle.acc_elim_points.specs.Points.{placed}
use Rattle.acc_elim_points.proofs.points.place_all.Given as goal

abbrev pub invariant-loop-left : goal.invariant-loop-left
invariant-loop-left l = record {
  within : l.left ≤ length l.bounds;
  so_far : steps placed l.point.items (reverse (take l.left l.bounds))
      ≡ steps placed l.fn.point.items (reverse l.bounds);
}

abbrev pub decreases-loop-left : goal.decreases-loop-left
decreases-loop-left l = l.left
