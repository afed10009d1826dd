use Rattle.std.proofs.Common.{drop}
use Rattle.acc_index_store.specs.Indexes.{StayIndexes, HaveNone}
use Rattle.acc_index_store.proofs.batches.forget_in_all.Given as goal

abbrev pub invariant-loop-index : goal.invariant-loop-index
invariant-loop-index l =
    record {
      same : StayIndexes l.fn.indexes l.indexes;
      none : HaveNone (drop l.index-index l.indexes);
    }
