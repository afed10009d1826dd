use Rattle.std.proofs.Common.{◌∙◌, Some, None, length, refl, sym, ap}
use Rattle.acc_player.specs.declared.stops.Stop.TheVariants.{Memory}
use Rattle.acc_player.specs.Boards.{play_of}
use Rattle.acc_player.proofs.Items.{if_handed}
use Rattle.acc_player.proofs.Wholes.{behind_whole}
use Rattle.acc_lock_rules.specs.LockRules.{with_locks}
use Rattle.acc_lock_rules.proofs.Orderly.{locks_are_orderly}
use Rattle.acc_settling.specs.Leaving.{LeavesEngine, leaves_more, leaves_want}
use Rattle.acc_settling.proofs.Boards.{board_stays}
use Rattle.acc_settling.proofs.Telling.{tells_from}
use Rattle.acc_settling.proofs.schedules.play_out.Goals as goal

-- ---- the run is settled

pub returns-in_err-settle-clause-stops : goal.returns-in_err-settle-clause-stops
returns-in_err-settle-clause-stops g c =
    let old = c.args.player.now in
    let mid = c.run.new.player in
    let new = c.settle.new.self in
    let stop = c.in_err-settle.field-0.0 in
    if_handed
    (λ s. LeavesEngine g.D.Disk.clock g.D.Disk.left_since g.D.Disk.told g.D.Disk.may_leave g.D.Disk.faults (Some s) old new)
    c.from_residual-in_err-settle.result stop c.from_residual-in_err-settle.ensures.1
    (leaves_more g.D.Disk.clock g.D.Disk.left_since g.D.Disk.told g.D.Disk.may_leave g.D.Disk.faults g.met.D.Disk.only_now (Some stop)
    old mid new c.in_ok-run.ensures.done c.in_err-settle.ensures.stops)

pub returns-in_err-settle-clause-board : goal.returns-in_err-settle-clause-board
returns-in_err-settle-clause-board g c =
    let b = c.run.new.board in
    board_stays c.run.new.player c.settle.new.self b b c.settle.ensures.calls c.settle.ensures.begun refl c.run.ensures.board

pub returns-in_err-settle-clause-front : goal.returns-in_err-settle-clause-front
returns-in_err-settle-clause-front g c =
    let d = c.args.d.now in
    let old = c.args.player.now in
    let b = c.run.new.board in
    let run = c.in_ok-run.ensures.runs in
    behind_whole (with_locks d) (locks_are_orderly d) old.calls c.args.order.now (play_of old.state c.args.board.now) run.mentions
    (play_of c.run.new.player.state b) (play_of c.settle.new.self.state b) run.schedules (sym c.settle.ensures.state) refl

-- ---- and closed

pub returns-in_err-close-clause-stops : goal.returns-in_err-close-clause-stops
returns-in_err-close-clause-stops g c =
    let old = c.args.player.now in
    let mid = c.run.new.player in
    let new = c.settle.new.self in
    if_handed
    (λ s. LeavesEngine g.D.Disk.clock g.D.Disk.left_since g.D.Disk.told g.D.Disk.may_leave g.D.Disk.faults (Some s) old new)
    c.from_residual-in_err-close.result Memory c.from_residual-in_err-close.ensures.1
    (leaves_want g.D.Disk.clock g.D.Disk.left_since g.D.Disk.told g.D.Disk.may_leave g.D.Disk.faults old new
    (leaves_more g.D.Disk.clock g.D.Disk.left_since g.D.Disk.told g.D.Disk.may_leave g.D.Disk.faults g.met.D.Disk.only_now None old mid
    new c.in_ok-run.ensures.done c.in_ok-settle.ensures.done))

pub returns-in_err-close-clause-board : goal.returns-in_err-close-clause-board
returns-in_err-close-clause-board g c =
    board_stays c.run.new.player c.settle.new.self c.run.new.board c.close.new.board c.settle.ensures.calls c.settle.ensures.begun
    c.close.ensures.numbers c.run.ensures.board

pub returns-in_err-close-clause-front : goal.returns-in_err-close-clause-front
returns-in_err-close-clause-front g c =
    let d = c.args.d.now in
    let old = c.args.player.now in
    let run = c.in_ok-run.ensures.runs in
    behind_whole (with_locks d) (locks_are_orderly d) old.calls c.args.order.now (play_of old.state c.args.board.now) run.mentions
    (play_of c.run.new.player.state c.run.new.board) (play_of c.settle.new.self.state c.close.new.board) run.schedules
    (sym c.settle.ensures.state) (sym c.close.ensures.numbers)

pub returns-clause-front : goal.returns-clause-front
returns-clause-front g c =
    let d = c.args.d.now in
    let old = c.args.player.now in
    let run = c.in_ok-run.ensures.runs in
    behind_whole (with_locks d) (locks_are_orderly d) old.calls c.args.order.now (play_of old.state c.args.board.now) run.mentions
    (play_of c.run.new.player.state c.run.new.board) (play_of c.settle.new.self.state c.close.new.board) run.schedules
    (sym c.settle.ensures.state) (sym c.close.ensures.numbers)

pub returns-clause-done : goal.returns-clause-done
returns-clause-done g c =
    leaves_more g.D.Disk.clock g.D.Disk.left_since g.D.Disk.told g.D.Disk.may_leave g.D.Disk.faults g.met.D.Disk.only_now None
    c.args.player.now c.run.new.player c.settle.new.self c.in_ok-run.ensures.done c.in_ok-settle.ensures.done

pub returns-clause-board : goal.returns-clause-board
returns-clause-board g c =
    board_stays c.run.new.player c.settle.new.self c.run.new.board c.close.new.board c.settle.ensures.calls c.settle.ensures.begun
    c.close.ensures.numbers c.run.ensures.board

pub returns-clause-tells : goal.returns-clause-tells
returns-clause-tells g c =
    let d = c.args.d.now in
    let old = c.args.player.now in
    let new = c.settle.new.self in
    let b = c.run.new.board in
    tells_from d old.calls c.args.order.now (play_of old.state c.args.board.now) c.run.new.player.state new b c.close.new.board
    c.in_ok-close.field-0 (c.settle.ensures.design ∙ c.run.ensures.design ∙ c.requires.design) c.settle.ensures.state
    (c.run.ensures.board.numbers ∙ ap length c.run.ensures.calls) c.in_ok-run.ensures.runs c.in_ok-close.ensures.closed
