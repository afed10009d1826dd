use Rattle.std.proofs.Common.{take, drop}
use Rattle.acc_index_store.specs.Indexes.{AreIndexes, HaveAllRoom, before, behind}
use Rattle.acc_index_store.proofs.batches.count_in_all.Given as goal

abbrev pub invariant-loop-index : goal.invariant-loop-index
invariant-loop-index l =
    record {
      done : AreIndexes (behind l.way l.writes l.rows) (take l.index-index l.indexes);
      left : AreIndexes (before l.way l.writes l.rows) (drop l.index-index l.indexes);
      room : HaveAllRoom l.writes l.indexes;
    }
