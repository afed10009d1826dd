use Rattle.std.proofs.Common.{[]}
use Rattle.acc_index_store.proofs.Empties.{none_sound, no_indexes}
use Rattle.acc_index_store.proofs.stores.IndexStore.new.Goals as goal

pub invariant_of-result : goal.invariant_of-result
invariant_of-result c =
    none_sound c.compact.result c.new.result.items c.compact.ensures (no_indexes [] c.new.result.items c.new.ensures.items)
