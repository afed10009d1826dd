use Rattle.std.proofs.Common.{◌∙◌, take}
use Rattle.acc_index_store.proofs.Rooms.{rooms_kept, rooms_more}
use Rattle.acc_index_store.proofs.indexes.make_room.Goals as goal

pub loop-write-preserved : goal.loop-write-preserved
loop-write-preserved c =
    let k = c.args.kept in
    let ws = c.args.writes.now in
    let i = c.loop-write.write-index in
    let es = c.loop-write.totals.entries in
    let fs = c.make_room_for.new.totals.entries in
    let made = c.in_ok-make_room_for.ensures in
    record {
      same = λ p. made.same p ∙ c.loop-write.invariant.same p;
      room = rooms_more k fs ws i c.write-item.result c.loop-write-test.true c.write-item.is
          (rooms_kept k es fs made.kept (take i ws) c.loop-write.invariant.room) made.room;
    }
