use Rattle.std.proofs.Common.{sym, subst}
use Rattle.acc_index_store.specs.Indexes.{AreIndexes}
use Rattle.acc_index_store.proofs.Written.{order_done, sums_done, others_done}
use Rattle.acc_index_store.proofs.batches.write_all.Goals as goal

pub count_in_all-requires-2 : goal.count_in_all-requires-2
count_in_all-requires-2 c =
    let ws = c.args.writes.now in
    let old = c.args.rows.now in
    let new = c.apply-done.new.self in
    let done = c.apply-done.ensures in
    record {
      order = order_done ws old new c.apply-done.result done.ok done.err c.requires.order;
      sums = sums_done ws old new c.apply-done.result done.ok done.err c.requires.written c.requires.sums;
      room = c.count_in_all.ensures.room;
      totals = subst (λ rows. AreIndexes rows c.count_in_all.new.indexes)
          (sym (others_done ws old new c.apply-done.result done.ok done.err)) c.count_in_all.ensures.totals;
    }
