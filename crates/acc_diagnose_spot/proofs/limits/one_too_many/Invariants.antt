use Rattle.std.proofs.Common.{length}
use Rattle.acc_diagnose_spot.proofs.limits.one_too_many.Given as goal

abbrev pub decreases-loop-statement : goal.decreases-loop-statement
decreases-loop-statement l = length l.rest
