use Rattle.std.proofs.Common.{length}
use Rattle.acc_cases_replica.proofs.followers.push_items.Given as goal

abbrev pub decreases-loop-out : goal.decreases-loop-out
decreases-loop-out g l = length l.replica.stream.waiting
