use Rattle.acc_index_store.proofs.Rooms.{none_same}
use Rattle.acc_index_store.proofs.indexes.forget.Goals as goal

pub forget_for-requires : goal.forget_for-requires
forget_for-requires c =
    record { none = none_same c.args.kept c.args.totals.now.entries c.loop-write.totals.entries c.loop-write.invariant c.requires.none }
