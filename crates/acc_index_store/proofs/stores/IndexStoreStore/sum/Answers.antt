use Rattle.std.proofs.Common.{sym, subst}
use Rattle.acc_index_store.specs.Indexes.{AreIndexes}
use Rattle.acc_index_store.proofs.stores.IndexStoreStore.sum.Goals as goal

pub sum_under-requires : goal.sum_under-requires
sum_under-requires c = record { totals = subst (AreIndexes c.self.inside.rows) (sym c.deref.ensures.value) c.self.invariant.2 }
