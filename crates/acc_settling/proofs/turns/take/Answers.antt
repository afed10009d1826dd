use Rattle.std.proofs.Common.{Some, inl, inr, ap, subst, sym, arith}
use Rattle.acc_base.specs.Machine.{World}
use Rattle.acc_machine.specs.Turns.{IsTurn}
use Rattle.acc_player.proofs.Items.{if_stopped, if_handed}
use Rattle.acc_engine.proofs.Surviving.{ready_stays}
use Rattle.acc_engine.proofs.Turned.{turn_adds}
use Rattle.acc_settling.specs.Chains.{again_stays, runs_stays, runs_behind}
use Rattle.acc_settling.specs.Leaving.{LeavesEngine, stops_since}
use Rattle.acc_settling.proofs.Acks.{acked_turned, acked_unended, unended}
use Rattle.acc_settling.proofs.Beginning.{refuses_leave}
use Rattle.acc_settling.proofs.turns.take.Goals as goal

pub returns-in-Err-clause-stops : goal.returns-in-Err-clause-stops
returns-in-Err-clause-stops g c =
    rw c.stop_of.ensures
    (refuses_leave g.D.Disk.clock g.D.Disk.left_since g.D.Disk.told g.D.Disk.may_leave g.D.Disk.faults g.met.D.Disk.only_now
    c.args.engine.now c.turn.new.self c.turn.ensures.stays c.turn.ensures.waiting c.requires.unfailed c.requires.sound.within c.in-Err.error
    c.in-Err.ensures.why
    c.in-Err.ensures.err)

pub returns-in-Err-clause-err : goal.returns-in-Err-clause-err
returns-in-Err-clause-err g c = inl c.in-Err.ensures.err

pub returns-in-Stepped-clause-done : goal.returns-in-Stepped-clause-done
returns-in-Stepped-clause-done g c =
    let old = c.args.engine.now in
    let mid = c.turn.new.self in
    let stays = c.turn.ensures.stays in
    let t = c.args.t in
    let x = c.in-Ok.turn in
    let turned = c.in-Ok.ensures.turn in
    let within = c.requires.sound.within in
    let more = turn_adds old.state mid.state t x c.in-Ok.ensures.adds in (
      runs_stays g.D.Disk.clock g.D.Disk.left_since g.D.Disk.told g.D.Disk.may_leave g.D.Disk.faults g.met.D.Disk.only_now old mid more.0
          stays c.turn.ensures.waiting more.1
          (acked_turned old mid more.0 stays.design stays.settled more.1 within t x c.requires.unfinished turned),
      again_stays g.D.Disk.told g.D.Disk.may_leave old mid more.0 stays more.1 c.requires.unfailed
          (acked_unended old mid more.0 stays.design stays.settled more.1 within t x c.requires.unfinished turned
          (unended x c.in-Stepped.is)),
    )

pub returns-in_ok-settle-in-Ended-clause-done : goal.returns-in_ok-settle-in-Ended-clause-done
returns-in_ok-settle-in-Ended-clause-done g c =
    let old = c.args.engine.now in
    let mid = c.turn.new.self in
    let new = c.settle.new.engine in
    let stays = c.turn.ensures.stays in
    let t = c.args.t in
    let x = c.in-Ok.turn in
    let more = turn_adds old.state mid.state t x c.in-Ok.ensures.adds in
    let ends =
    acked_turned old mid more.0 stays.design stays.settled more.1 c.requires.sound.within t x c.requires.unfinished
    c.in-Ok.ensures.turn in
    let settled = c.in_ok-settle-in-Ended.ensures in
    let ready_again = ready_stays g.D.Disk.told g.D.Disk.may_leave old mid more.0 stays more.1 in (
      runs_behind g.D.Disk.clock g.D.Disk.left_since g.D.Disk.told g.D.Disk.may_leave g.D.Disk.faults g.met.D.Disk.only_now old mid new
          (runs_stays g.D.Disk.clock g.D.Disk.left_since g.D.Disk.told g.D.Disk.may_leave g.D.Disk.faults g.met.D.Disk.only_now old mid
          more.0 stays c.turn.ensures.waiting more.1 ends) ready_again (λ acked. c.settle.ensures.one (ends acked)) settled.done.0,
      record {
        unfailed = settled.done.1.unfailed;
        ready = λ ready. settled.done.1.ready (ready_again ready);
        acked = λ _. settled.all.1;
      },
    )

pub returns-in_err-settle-in-Ended-clause-stops : goal.returns-in_err-settle-in-Ended-clause-stops
returns-in_err-settle-in-Ended-clause-stops g c =
    let old = c.args.engine.now in
    let mid = c.turn.new.self in
    let new = c.settle.new.engine in
    let stays = c.turn.ensures.stays in
    let t = c.args.t in
    let x = c.in-Ok.turn in
    let more = turn_adds old.state mid.state t x c.in-Ok.ensures.adds in
    let ends =
    acked_turned old mid more.0 stays.design stays.settled more.1 c.requires.sound.within t x c.requires.unfinished
    c.in-Ok.ensures.turn in
    let stop = c.in_err-settle-in-Ended.field-0.0 in
    let left = c.in_err-settle-in-Ended.ensures.stops in
    let same = ap g.D.Disk.faults stays.disk in
    if_handed
    (λ s. LeavesEngine g.D.Disk.clock g.D.Disk.left_since g.D.Disk.told g.D.Disk.may_leave g.D.Disk.faults (Some s) old new)
    c.from_residual.result stop c.from_residual.ensures.1 (
      runs_behind g.D.Disk.clock g.D.Disk.left_since g.D.Disk.told g.D.Disk.may_leave g.D.Disk.faults g.met.D.Disk.only_now old mid new
          (runs_stays g.D.Disk.clock g.D.Disk.left_since g.D.Disk.told g.D.Disk.may_leave g.D.Disk.faults g.met.D.Disk.only_now old mid
          more.0 stays c.turn.ensures.waiting more.1 ends) (ready_stays g.D.Disk.told g.D.Disk.may_leave old mid more.0 stays more.1)
          (λ acked. c.settle.ensures.one (ends acked)) left.0,
      stops_since g.D.Disk.faults stop old mid new (omega (arith, same)) left.1,
    )

pub returns-in_err-settle-in-Ended-clause-err : goal.returns-in_err-settle-in-Ended-clause-err
returns-in_err-settle-in-Ended-clause-err g c =
    let old = c.args.engine.now in
    if_stopped c.from_residual.result (inr (
      c.in-Ok.turn,
      subst (λ (w : World). IsTurn old.design old.state w c.args.t c.in-Ok.turn) (sym c.settle.ensures.state) c.in-Ok.ensures.turn,
    ))
