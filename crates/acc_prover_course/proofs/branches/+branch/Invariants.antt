use Rattle.std.proofs.Common.{◌+◌, ◌*◌, length}
use Rattle.acc_prover_course.proofs.branches.+branch.Given as goal

abbrev pub decreases-branch_under : goal.decreases-branch_under
decreases-branch_under l = 3 * length l.rest.now + 1

abbrev pub decreases-three : goal.decreases-three
decreases-three l = 3 * length l.rest.now + 2

abbrev pub decreases-branch : goal.decreases-branch
decreases-branch l = 3 * length l.splits.now
