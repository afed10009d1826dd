use Rattle.std.proofs.Common.{◌≡◌, [], map, take}
use Rattle.acc_index_store.specs.declared.indexes.Index.{Index}
use Rattle.acc_index_store.specs.Indexes.{AreIndexes}
use Rattle.acc_index_store.proofs.answers.empty_indexes.Given as goal

abbrev pub invariant-loop-prefixes : goal.invariant-loop-prefixes
invariant-loop-prefixes l =
    record {
      kept : map (λ (x : Index). x.kept) l.indexes.items ≡ take l.prefixes-index l.kept;
      totals : AreIndexes [] l.indexes.items;
    }
