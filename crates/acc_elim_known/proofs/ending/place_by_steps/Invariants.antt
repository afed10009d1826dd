use Rattle.std.proofs.Common.{◌≡◌, ◌≤◌, length, take}
use Rattle.std.specs.Prelude.{reverse}
use Rattle.acc_base.specs.Computing.{steps}
use Rattle.acc_elim_known.specs.Ends.{placed_at}
use Rattle.acc_elim_known.proofs.ending.place_by_steps.Given as goal

abbrev pub invariant-loop-left : goal.invariant-loop-left
invariant-loop-left l = record {
  within : l.left ≤ length l.walked;
  so_far : steps placed_at l.point.items (reverse (take l.left l.walked)) ≡ steps placed_at l.fn.point.items (reverse l.walked);
}

abbrev pub decreases-loop-left : goal.decreases-loop-left
decreases-loop-left l = l.left
