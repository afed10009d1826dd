use Rattle.std.proofs.Common.{take}
use Rattle.acc_index_store.specs.Totals.{IsSame}
use Rattle.acc_index_store.specs.Indexes.{HaveRoom}
use Rattle.acc_index_store.proofs.indexes.make_room.Given as goal

abbrev pub invariant-loop-write : goal.invariant-loop-write
invariant-loop-write l =
    record {
      same : IsSame l.fn.totals.entries l.totals.entries;
      room : HaveRoom l.kept (take l.write-index l.writes) l.totals.entries;
    }
