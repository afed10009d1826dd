use Rattle.std.proofs.Common.{◌-◌, length}
use Rattle.acc_wal.specs.Attaching.{ReadsTo}
use Rattle.acc_wal.proofs.contents.contents_of.Given as goal

abbrev pub invariant-loop-alloc : goal.invariant-loop-alloc
invariant-loop-alloc l = ReadsTo l.bytes l.base.items l.version l.events.items l.seals.items l.place

abbrev pub decreases-loop-alloc : goal.decreases-loop-alloc
decreases-loop-alloc l = length l.bytes - l.place
