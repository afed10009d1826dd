use Rattle.std.proofs.Common.{◌-◌, length}
use Rattle.acc_stream.proofs.BodyReads.{ReadsTo}
use Rattle.acc_stream.proofs.bodies.body_of.Given as goal

abbrev pub invariant-loop-at : goal.invariant-loop-at
invariant-loop-at l = ReadsTo l.version l.body l.at l.items

abbrev pub decreases-loop-at : goal.decreases-loop-at
decreases-loop-at l = length l.body - l.at
