use Rattle.std.proofs.Common.{sym, subst}
use Rattle.acc_index_store.specs.Indexes.{AreIndexes}
use Rattle.acc_index_store.proofs.stores.IndexStoreStore.count.Goals as goal

pub count_under-requires : goal.count_under-requires
count_under-requires c = record { totals = subst (AreIndexes c.self.inside.rows) (sym c.deref.ensures.value) c.self.invariant.2 }
