use Rattle.std.proofs.Common.{subst}
use Rattle.acc_base.specs.Plays.{Play}
use Rattle.acc_player.proofs.Wholes.{before_schedule, front_of_schedule}
use Rattle.acc_lock_rules.specs.LockRules.{with_locks}
use Rattle.acc_lock_rules.proofs.Orderly.{locks_are_orderly}
use Rattle.acc_settling.specs.Chains.{but_one, runs_none}
use Rattle.acc_settling.specs.Openings.{opening_at}
use Rattle.acc_settling.specs.Wholes.{IsFrontOfSchedule}
use Rattle.acc_settling.proofs.schedules.schedule.Goals as goal

-- ---- no memory for the board

pub returns-in-Err-clause-front : goal.returns-in-Err-clause-front
returns-in-Err-clause-front g c =
    let d = c.args.d.now in
    let e = c.args.player.now in
    let order = c.args.order.now in
    let first = opening_at e.state e.calls in
    front_of_schedule (with_locks d) (locks_are_orderly d) e.calls order first first
    (before_schedule (with_locks d) (locks_are_orderly d) e.calls order first)

pub returns-in-Err-clause-runs : goal.returns-in-Err-clause-runs
returns-in-Err-clause-runs g c =
    runs_none g.D.Disk.clock g.D.Disk.left_since g.D.Disk.told g.D.Disk.may_leave g.D.Disk.faults g.met.D.Disk.only_now c.args.player.now

pub returns-in-Err-clause-one_end : goal.returns-in-Err-clause-one_end
returns-in-Err-clause-one_end g c = but_one c.args.player.now c.opening.ensures.acked

-- ---- from the board on

pub returns-in-Ok-clause-front : goal.returns-in-Ok-clause-front
returns-in-Ok-clause-front g c =
    let e = c.args.player.now in
    subst (λ (p : Play). IsFrontOfSchedule c.args.d.now e.calls c.args.order.now p c.schedule_from.new.player.state.events)
    c.in-Ok.ensures.opens c.schedule_from.ensures.front

pub returns-in-Ok-clause-one_end : goal.returns-in-Ok-clause-one_end
returns-in-Ok-clause-one_end g c = c.schedule_from.ensures.runs.ends c.opening.ensures.acked
