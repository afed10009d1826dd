use Rattle.std.proofs.Common.{◌≤◌, ◌-◌, length, subst}
use Rattle.acc_machine.specs.Begun.{HasRoom}
use Rattle.acc_engine.specs.Keeping.{Journalled}
use Rattle.acc_engine.proofs.Standing.{sound_unmoved, sound_begun}
use Rattle.acc_engine.proofs.engines.Engine.begin_at.Goals as goal

pub returns-in_err-begin_with_room-in-Ok-clause-sound : goal.returns-in_err-begin_with_room-in-Ok-clause-sound
returns-in_err-begin_with_room-in-Ok-clause-sound g c =
    sound_unmoved g.D.Disk.told c.args.self.now c.begin_with_room.new.self c.begin_with_room.ensures.stays c.standing.ensures
    c.in_err-begin_with_room-in-Ok.ensures.err

pub returns-in_ok-begin_with_room-in-Ok-clause-sound : goal.returns-in_ok-begin_with_room-in-Ok-clause-sound
returns-in_ok-begin_with_room-in-Ok-clause-sound g c =
    let within = subst (λ (j : Journalled g.row.D.Denot). j.found ≤ length j.state.events) c.self.view_is c.self.invariant.0.within in
    let room = subst (λ (j : Journalled g.row.D.Denot). HasRoom j.state) c.self.view_is c.in-Ok.ensures in
    sound_begun g.D.Disk.told c.args.self.now c.begin_with_room.new.self c.begin_with_room.ensures.stays c.standing.ensures
    (c.args.place - 1) c.in_ok-begin_with_room-in-Ok.field-0 within c.requires.fresh room c.in_ok-begin_with_room-in-Ok.ensures.ok
