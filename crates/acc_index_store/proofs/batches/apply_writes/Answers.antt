use Rattle.std.proofs.lemmas.List.Elements.{All-weaker}
use Rattle.acc_index_store.specs.declared.indexes.Index.{Index}
use Rattle.acc_index_store.specs.Indexes.{IsIndexOf, AreNone}
use Rattle.acc_index_store.proofs.Rooms.{totals_none}
use Rattle.acc_index_store.proofs.Written.{order_done, sums_done}
use Rattle.acc_index_store.proofs.batches.apply_writes.Goals as goal

pub forget_in_all-requires : goal.forget_in_all-requires
forget_in_all-requires c =
    let rows = c.make_room_and_write-done.new.rows in
    let xs = c.make_room_and_write-done.new.indexes in
    record {
      none = All-weaker (IsIndexOf rows) (λ (x : Index). AreNone x.kept x.totals.entries) (λ x h. totals_none x.kept rows x.totals.entries
          h) xs
          c.make_room_and_write-done.ensures.totals;
    }

pub returns : goal.returns
returns c =
    let ws = c.args.writes.now in
    let old = c.args.rows.now in
    let new = c.make_room_and_write-done.new.rows in
    let done = c.make_room_and_write-done.ensures in
    let r = c.make_room_and_write-done.result in
    record {
      ok = done.ok;
      err = done.err;
      order = order_done ws old new r done.ok done.err c.requires.order;
      sums = sums_done ws old new r done.ok done.err c.requires.written c.requires.sums;
      totals = c.forget_in_all.ensures.same new done.totals;
    }
