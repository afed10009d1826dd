use Rattle.std.proofs.Common.{◌≡◌, ◌≤◌, length, take}
use Rattle.std.specs.Prelude.{reverse}
use Rattle.acc_base.specs.Computing.{steps}
use Rattle.acc_elim_points.specs.Points.{placed_by}
use Rattle.acc_elim_points.proofs.points.place_all_by.Given as goal

abbrev pub invariant-loop-left : goal.invariant-loop-left
invariant-loop-left l = record {
  within : l.left ≤ length l.aside;
  so_far : steps placed_by l.point.items (reverse (take l.left l.aside))
      ≡ steps placed_by l.fn.point.items (reverse l.aside);
}

abbrev pub decreases-loop-left : goal.decreases-loop-left
decreases-loop-left l = l.left
