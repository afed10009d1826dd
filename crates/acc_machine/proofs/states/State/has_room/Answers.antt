use Rattle.acc_machine.proofs.Rooms.{room_told}
use Rattle.acc_machine.proofs.states.State.has_room.Goals as goal

pub returns : goal.returns
returns g c = rw c.is_ok.ensures.value (room_told c.args.self.now.world c.room.result c.room.ensures)
