use Rattle.std.proofs.Common.{◌-◌, length}
use Rattle.acc_stream.specs.Reading.{BeginsBatches}
use Rattle.acc_stream.proofs.batches.batches_of.Given as goal

abbrev pub invariant-loop-count : goal.invariant-loop-count
invariant-loop-count l = BeginsBatches l.version l.bytes l.long l.items

abbrev pub decreases-loop-count : goal.decreases-loop-count
decreases-loop-count l = length l.bytes - l.long
