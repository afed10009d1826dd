use Rattle.acc_index_store.proofs.Empties.{none_sound}
use Rattle.acc_index_store.proofs.stores.IndexStore.keeping.Goals as goal

pub invariant_of-result : goal.invariant_of-result
invariant_of-result c =
    none_sound c.compact.result c.in_ok-empty_indexes.field-0.items c.compact.ensures c.in_ok-empty_indexes.ensures.totals
