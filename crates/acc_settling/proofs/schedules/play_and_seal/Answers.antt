use Rattle.std.proofs.Common.{None, Some, refl, sym, subst}
use Rattle.acc_base.specs.Machine.{World}
use Rattle.acc_player.specs.Boards.{play_of}
use Rattle.acc_player.specs.Ways.{PlayPrecedesEach}
use Rattle.acc_player.proofs.Items.{if_handed}
use Rattle.acc_schedule.specs.Schedules.{TellsScheduleFrom}
use Rattle.acc_settling.specs.Leaving.{LeavesEngine, leaves_more}
use Rattle.acc_settling.specs.Wholes.{IsAfterSchedule}
use Rattle.acc_settling.proofs.Boards.{board_stays}
use Rattle.acc_settling.proofs.schedules.play_and_seal.Goals as goal

-- no state waits behind the play
pub seal-requires-clause-quiet : goal.seal-requires-clause-quiet
seal-requires-clause-quiet g c =
    let done = c.in_ok-begun.ensures.done in
    done.0.survives.waiting c.requires.quiet done.1.unfailed

-- ---- it isn't put

pub returns-in_err-seal-clause-stops : goal.returns-in_err-seal-clause-stops
returns-in_err-seal-clause-stops g c =
    let old = c.args.player.now in
    let mid = c.play_out.new.player in
    let new = c.seal.new.self in
    let stop = c.in_err-seal.field-0.0 in
    if_handed
    (λ s. LeavesEngine g.D.Disk.clock g.D.Disk.left_since g.D.Disk.told g.D.Disk.may_leave g.D.Disk.faults (Some s) old new)
    c.from_residual-in_err-seal.result stop c.from_residual-in_err-seal.ensures.1
    (leaves_more g.D.Disk.clock g.D.Disk.left_since g.D.Disk.told g.D.Disk.may_leave g.D.Disk.faults g.met.D.Disk.only_now (Some stop)
    old mid new c.in_ok-begun.ensures.done c.in_err-seal.ensures.stops)

pub returns-in_err-seal-clause-board : goal.returns-in_err-seal-clause-board
returns-in_err-seal-clause-board g c =
    let b = c.play_out.new.board in
    board_stays c.play_out.new.player c.seal.new.self b b c.seal.ensures.calls c.seal.ensures.begun refl c.play_out.ensures.board

pub returns-in_err-seal-clause-front : goal.returns-in_err-seal-clause-front
returns-in_err-seal-clause-front g c =
    let old = c.args.player.now in
    subst (λ (w : World). PlayPrecedesEach (play_of w c.play_out.new.board)
    (IsAfterSchedule c.args.d.now old.calls c.args.order.now (play_of old.state c.args.board.now))) (sym c.seal.ensures.state)
    c.play_out.ensures.front

-- ---- it is

pub returns-clause-done : goal.returns-clause-done
returns-clause-done g c =
    leaves_more g.D.Disk.clock g.D.Disk.left_since g.D.Disk.told g.D.Disk.may_leave g.D.Disk.faults g.met.D.Disk.only_now None
    c.args.player.now c.play_out.new.player c.seal.new.self c.in_ok-begun.ensures.done c.in_ok-seal.ensures.done

pub returns-clause-board : goal.returns-clause-board
returns-clause-board g c =
    let b = c.play_out.new.board in
    board_stays c.play_out.new.player c.seal.new.self b b c.seal.ensures.calls c.seal.ensures.begun refl c.play_out.ensures.board

pub returns-clause-front : goal.returns-clause-front
returns-clause-front g c =
    let old = c.args.player.now in
    subst (λ (w : World). PlayPrecedesEach (play_of w c.play_out.new.board)
    (IsAfterSchedule c.args.d.now old.calls c.args.order.now (play_of old.state c.args.board.now))) (sym c.seal.ensures.state)
    c.play_out.ensures.front

pub returns-clause-tells : goal.returns-clause-tells
returns-clause-tells g c =
    let old = c.args.player.now in
    subst (λ (w : World). TellsScheduleFrom c.args.d.now old.calls (play_of old.state c.args.board.now) c.args.order.now
    c.play_out.new.board.text.items w.events c.in_ok-begun.begun) (sym c.seal.ensures.state) c.in_ok-begun.ensures.tells
