use Rattle.std.proofs.Common.{length, arith, ap, subst}
use Rattle.std.specs.Prelude.{Ok}
use Rattle.acc_base.specs.Machine.{World}
use Rattle.acc_audit.specs.Events.{TellsEvent}
use Rattle.acc_audit.proofs.Telling.{nothing_walked, walked_on, some_tells, error_tells, handed_on, clear_now}
use Rattle.acc_audit.proofs.audits.walk.Goals as goal

pub loop-place-init : goal.loop-place-init
loop-place-init g c =
    let none = ap (λ (w : World). length w.events) c.requires.start in
    record {
      design = c.requires.design;
      walked = nothing_walked c.args.d.now c.args.events.now c.args.machine.now.world c.requires.start;
      count = omega (arith, none);
    }

pub loop-place-preserved : goal.loop-place-preserved
loop-place-preserved g c =
    let d = c.args.d.now in
    let w = c.loop-place.machine.world in
    let e = c.index-events-place.result in
    let i = c.loop-place.place in
    let after = c.take_event.new.machine.world in
    let many = c.in_ok-found.ensures.count in
    let before = c.loop-place.invariant.count in
    record {
      design = c.in_ok-found.ensures.design;
      walked = walked_on d c.args.events.now i e e c.loop-place-test.true c.index-events-place.is w c.loop-place.invariant.walked after
          (subst (λ o. TellsEvent d w e i after (Ok o)) c.in-None.is c.in_ok-found.ensures.told);
      count = omega (arith, many, before);
    }

pub returns-in-Some : goal.returns-in-Some
returns-in-Some g c =
    let d = c.args.d.now in
    let w = c.loop-place.machine.world in
    let e = c.index-events-place.result in
    let i = c.loop-place.place in
    let after = c.take_event.new.machine.world in
    some_tells d c.args.events.now i e e c.loop-place-test.true c.index-events-place.is w c.loop-place.invariant.walked after
    c.in-Some.finding (subst (λ o. TellsEvent d w e i after (Ok o)) c.in-Some.is c.in_ok-found.ensures.told)

pub returns-in_err-found : goal.returns-in_err-found
returns-in_err-found g c =
    let d = c.args.d.now in
    let w = c.loop-place.machine.world in
    let e = c.index-events-place.result in
    let i = c.loop-place.place in
    let after = c.take_event.new.machine.world in
    handed_on d c.args.events.now _ _ c.from_residual.ensures.1
    (error_tells d c.args.events.now i e e c.loop-place-test.true c.index-events-place.is w c.loop-place.invariant.walked after
    _ c.in_err-found.ensures.told)

pub take_event-requires-clause-clear : goal.take_event-requires-clause-clear
take_event-requires-clause-clear g c =
    clear_now c.args.d.now c.args.events.now c.loop-place.place c.loop-place.machine.world c.loop-place.invariant.walked
