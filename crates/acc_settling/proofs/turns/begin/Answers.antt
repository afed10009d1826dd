use Rattle.std.proofs.Common.{◌<◌, ◌-◌, arith}
use Rattle.acc_settling.proofs.Beginning.{draws_begin, draws_others, draws_none, draws_leave, refuses_leave, room_to_start}
use Rattle.acc_settling.proofs.turns.begin.Goals as goal

pub returns-in-Ok-clause-begins : goal.returns-in-Ok-clause-begins
returns-in-Ok-clause-begins g c =
    let above : 0 < c.args.place = omega (arith, c.requires.place.0) in
    rw c.number_in.ensures
    (draws_begin c.args.engine.now c.begin_at.new.self c.args.place above c.in-Ok.drawn c.requires.place.1 c.in-Ok.ensures.ok)

pub returns-in-Ok-clause-others : goal.returns-in-Ok-clause-others
returns-in-Ok-clause-others g c =
    let above : 0 < c.args.place = omega (arith, c.requires.place.0) in
    draws_others c.args.engine.now c.begin_at.new.self c.args.place above c.in-Ok.drawn c.in-Ok.ensures.ok

pub returns-in-Ok-clause-unmoved : goal.returns-in-Ok-clause-unmoved
returns-in-Ok-clause-unmoved g c =
    let above : 0 < c.args.place = omega (arith, c.requires.place.0) in
    rw c.number_in.ensures (draws_none c.args.engine.now c.begin_at.new.self c.args.place above c.in-Ok.drawn c.in-Ok.ensures.ok)

pub returns-in-Ok-clause-done : goal.returns-in-Ok-clause-done
returns-in-Ok-clause-done g c =
    draws_leave g.D.Disk.clock g.D.Disk.left_since g.D.Disk.told g.D.Disk.may_leave g.D.Disk.faults g.met.D.Disk.only_now
    c.args.engine.now c.begin_at.new.self c.begin_at.ensures.stays c.begin_at.ensures.waiting c.requires.unfailed c.requires.sound.within
    (c.args.place - 1)
    c.in-Ok.drawn c.in-Ok.ensures.ok

pub returns-in-Err-clause-stops : goal.returns-in-Err-clause-stops
returns-in-Err-clause-stops g c =
    rw c.stop_of.ensures
    (refuses_leave g.D.Disk.clock g.D.Disk.left_since g.D.Disk.told g.D.Disk.may_leave g.D.Disk.faults g.met.D.Disk.only_now
    c.args.engine.now c.begin_at.new.self c.begin_at.ensures.stays c.begin_at.ensures.waiting c.requires.unfailed c.requires.sound.within
    c.in-Err.error
    c.in-Err.ensures.why c.in-Err.ensures.err.state)

pub returns-in-Err-clause-room : goal.returns-in-Err-clause-room
returns-in-Err-clause-room g c =
    rw c.stop_of.ensures (room_to_start c.args.engine.now c.args.place c.in-Err.error c.in-Err.ensures.memory)
