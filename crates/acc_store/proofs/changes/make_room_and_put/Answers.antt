use Rattle.acc_store.proofs.Laid.{on_ok}
use Rattle.acc_store.proofs.Room.{rooms_kept}
use Rattle.acc_store.proofs.changes.make_room_and_put.Goals as goal

pub returns-clause-room : goal.returns-clause-room
returns-clause-room c =
    on_ok c.write_row.result
    (λ put. rooms_kept c.make_room.new.entries.entries c.write_row.new.entries.entries c.write_row.ensures.kept c.args.rest.now
    c.in_ok-make_room.ensures.room) c.write_row.ensures.ok
