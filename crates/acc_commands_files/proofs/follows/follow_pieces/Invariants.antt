-- What is left stands behind what was fed, which is followed by the same design.
use Rattle.std.proofs.Common.{◌≡◌, length}
use Rattle.acc_commands_files.proofs.Following.{IsFedUpTo}
use Rattle.acc_commands_files.proofs.follows.follow_pieces.Given as goal

abbrev pub invariant-loop-rest : goal.invariant-loop-rest
invariant-loop-rest g l = record {
  fed : IsFedUpTo l.copy l.rest l.replica;
  design : l.replica.design ≡ l.fn.replica.design;
}

abbrev pub decreases-loop-rest : goal.decreases-loop-rest
decreases-loop-rest g l = length l.rest
