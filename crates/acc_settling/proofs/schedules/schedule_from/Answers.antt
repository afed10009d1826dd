use Rattle.std.proofs.Common.{refl}
use Rattle.acc_player.specs.Boards.{play_of}
use Rattle.acc_player.proofs.Wholes.{front_of_schedule, whole_is_front}
use Rattle.acc_lock_rules.specs.LockRules.{with_locks}
use Rattle.acc_lock_rules.proofs.Orderly.{locks_are_orderly}
use Rattle.acc_settling.proofs.Telling.{tells_stop}
use Rattle.acc_settling.proofs.schedules.schedule_from.Goals as goal

-- ---- it has played out

pub returns-in-Ok-clause-front : goal.returns-in-Ok-clause-front
returns-in-Ok-clause-front g c =
    let d = c.args.d.now in
    let e = c.args.player.now in
    let tells = c.in-Ok.ensures.tells in
    whole_is_front (with_locks d) (locks_are_orderly d) e.calls c.args.order.now (play_of e.state c.args.board) tells.mentions tells.ended
    c.play_and_seal.new.player.state.events tells.schedules tells.history_is

pub returns-in-Ok-clause-runs : goal.returns-in-Ok-clause-runs
returns-in-Ok-clause-runs g c = c.in-Ok.ensures.done.0

-- ---- it has stopped

pub returns-in-Err-clause-front : goal.returns-in-Err-clause-front
returns-in-Err-clause-front g c =
    let d = c.args.d.now in
    let e = c.args.player.now in
    front_of_schedule (with_locks d) (locks_are_orderly d) e.calls c.args.order.now (play_of e.state c.args.board)
    (play_of c.play_and_seal.new.player.state c.play_and_seal.new.board) c.in-Err.ensures.front

pub returns-in-Err-clause-stops : goal.returns-in-Err-clause-stops
returns-in-Err-clause-stops g c =
    let new = c.play_and_seal.new.player in
    tells_stop g.D.Disk.faults c.in-Err.stop c.told_of.result c.args.player.now new (play_of new.state c.play_and_seal.new.board) refl
    c.in-Err.ensures.stops.1 c.told_of.ensures.so

pub returns-in-Err-clause-runs : goal.returns-in-Err-clause-runs
returns-in-Err-clause-runs g c = c.in-Err.ensures.stops.0
