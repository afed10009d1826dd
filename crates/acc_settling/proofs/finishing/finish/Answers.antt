use Rattle.std.proofs.Common.{[], sym, subst}
use Rattle.std.proofs.lemmas.Result.{IfOk-weaker, IfErr-weaker}
use Rattle.acc_base.specs.Plays.{Play}
use Rattle.acc_player.specs.Boards.{play_of}
use Rattle.acc_player.specs.Ways.{PlayPrecedes}
use Rattle.acc_schedule.specs.Schedules.{TellsScheduleFrom}
use Rattle.acc_engine.proofs.Surviving.{survives_none}
use Rattle.acc_settling.specs.declared.schedules.Scheduled.{Scheduled}
use Rattle.acc_settling.specs.declared.schedules.Stopped.{Stopped}
use Rattle.acc_settling.specs.Schedules.{TellsPartOfSchedule}
use Rattle.acc_settling.specs.Wholes.{IsFrontOfSchedule}
use Rattle.acc_settling.specs.Workers.{IsWorked}
use Rattle.acc_settling.proofs.Working.{worked_front, worked_precedes}
use Rattle.acc_settling.proofs.finishing.finish.Goals as goal

-- ---- no memory for the board

pub returns-in-Err-clause-front : goal.returns-in-Err-clause-front
returns-in-Err-clause-front g c = λ p worked. worked_front c.args.d.now c.args.before c.args.player.now p worked

pub returns-in-Err-clause-survives : goal.returns-in-Err-clause-survives
returns-in-Err-clause-survives g c =
    survives_none g.D.Disk.clock g.D.Disk.left_since g.D.Disk.told g.D.Disk.may_leave g.D.Disk.faults g.met.D.Disk.only_now
    c.args.player.now

-- ---- the engine had failed

pub returns-then-has_failed-clause-front : goal.returns-then-has_failed-clause-front
returns-then-has_failed-clause-front g c = λ p worked. worked_front c.args.d.now c.args.before c.args.player.now p worked

pub returns-then-has_failed-clause-unsettled : goal.returns-then-has_failed-clause-unsettled
returns-then-has_failed-clause-unsettled g c = λ p worked ended after.
    c.told_of.ensures.part ended
    (subst (λ (q : Play). PlayPrecedes q ended) (sym (c.in-Ok.ensures.worked p worked))
    (worked_precedes c.args.d.now c.args.before c.args.player.now p worked ended after))

pub returns-then-has_failed-clause-survives : goal.returns-then-has_failed-clause-survives
returns-then-has_failed-clause-survives g c =
    survives_none g.D.Disk.clock g.D.Disk.left_since g.D.Disk.told g.D.Disk.may_leave g.D.Disk.faults g.met.D.Disk.only_now
    c.args.player.now

-- ---- from the board on

pub returns-clause-tells : goal.returns-clause-tells
returns-clause-tells g c =
    let old = c.args.player.now in
    let events = c.schedule_from.new.player.state.events in
    IfOk-weaker c.schedule_from.result
    (λ (s : Scheduled). TellsScheduleFrom c.args.d.now old.calls (play_of old.state c.in-Ok.board) [] s.text.items events s.all_begun)
    (λ (s : Scheduled). (p : Play) → IsWorked c.args.before old p
    → TellsScheduleFrom c.args.d.now old.calls p [] s.text.items events s.all_begun)
    (λ s told p worked.
    subst (λ (q : Play). TellsScheduleFrom c.args.d.now old.calls q [] s.text.items events s.all_begun)
    (c.in-Ok.ensures.worked p worked) told)
    c.schedule_from.ensures.tells

pub returns-clause-front : goal.returns-clause-front
returns-clause-front g c = λ p worked.
    let old = c.args.player.now in
    subst (λ (q : Play). IsFrontOfSchedule c.args.d.now old.calls [] q c.schedule_from.new.player.state.events)
    (c.in-Ok.ensures.worked p worked) c.schedule_from.ensures.front

pub returns-clause-unsettled : goal.returns-clause-unsettled
returns-clause-unsettled g c =
    let old = c.args.player.now in
    let new = c.schedule_from.new.player in
    IfErr-weaker c.schedule_from.result
    (TellsPartOfSchedule c.args.d.now old.calls [] (play_of old.state c.in-Ok.board) new)
    (λ (stop : Stopped). (p : Play) → IsWorked c.args.before old p → TellsPartOfSchedule c.args.d.now old.calls [] p new stop)
    (λ stop part p worked.
    subst (λ (q : Play). TellsPartOfSchedule c.args.d.now old.calls [] q new stop) (c.in-Ok.ensures.worked p worked) part)
    c.schedule_from.ensures.unsettled
