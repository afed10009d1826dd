use Rattle.acc_store.specs.Rows.{has_room}
use Rattle.acc_store.proofs.Room.{room_kept, passes_at}
use Rattle.acc_store.proofs.changes.write_all.Goals as goal

pub write_one-requires-clause-room : goal.write_one-requires-clause-room
write_one-requires-clause-room c =
    let old = c.args.entries.now.entries in
    room_kept old c.loop-write.entries.entries c.loop-write.invariant.kept c.write-item.result
    (passes_at (has_room old) c.args.writes.now c.loop-write.write-index c.write-item.result c.requires.room c.loop-write-test.true
    c.write-item.is)
