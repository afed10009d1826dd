use Rattle.std.proofs.Common.{◌≡◌, ◌<◌, [], take, vec_len, vec_capacity}
use Rattle.acc_wal.specs.Wals.{IsRecord}
use Rattle.acc_wal.proofs.filled.recorded.Given as goal

abbrev pub invariant-loop-event : goal.invariant-loop-event
invariant-loop-event l = record {
  record_is : IsRecord l.staged.items 0 2 l.made.items [];
  made_are : l.made.items ≡ take l.event-index l.events;
  room : vec_len l.staged < vec_capacity l.staged;
}
