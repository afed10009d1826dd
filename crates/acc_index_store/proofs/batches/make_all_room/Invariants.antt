use Rattle.std.proofs.Common.{take}
use Rattle.acc_index_store.specs.Indexes.{StayIndexes, HaveAllRoom}
use Rattle.acc_index_store.proofs.batches.make_all_room.Given as goal

abbrev pub invariant-loop-index : goal.invariant-loop-index
invariant-loop-index l =
    record {
      same : StayIndexes l.fn.indexes l.indexes;
      room : HaveAllRoom l.writes (take l.index-index l.indexes);
    }
