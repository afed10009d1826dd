use Rattle.std.proofs.Common.{◌≡◌, ◌≤◌, length, take}
use Rattle.std.specs.Prelude.{reverse}
use Rattle.acc_elim_stages.specs.Followed.{told}
use Rattle.acc_elim_stages.proofs.following.is_told.Given as goal

abbrev pub invariant-loop-left : goal.invariant-loop-left
invariant-loop-left l = record {
  within : l.left ≤ length l.steps;
  so_far : told l.first (reverse (take l.left l.steps)) l.row ≡ told l.first (reverse l.steps) l.row;
}

abbrev pub decreases-loop-left : goal.decreases-loop-left
decreases-loop-left l = l.left
