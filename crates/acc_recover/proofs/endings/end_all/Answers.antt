use Rattle.std.proofs.Common.{◌∙◌, subst}
use Rattle.acc_base.specs.declared.designs.Design.{Design}
use Rattle.acc_base.specs.Lawful.{IsLawful}
use Rattle.acc_machine.proofs.Keeping.{kept_after}
use Rattle.acc_recover.proofs.NextEvents.{next_is, falls}
use Rattle.acc_recover.proofs.Ways.{goes_more}
use Rattle.acc_recover.proofs.InSteps.{tail_more}
use Rattle.acc_recover.proofs.endings.end_all.Goals as goal

pub end_next-requires-clause-next : goal.end_next-requires-clause-next
end_next-requires-clause-next g c =
    let now = c.loop-event.state in
    next_is now.design now.world c.loop-event.invariant.kept.good.steady c.unfinished.result.now c.in-Some.event c.unfinished.ensures.frames
    c.in-Some.ensures

pub loop-event-smaller : goal.loop-event-smaller
loop-event-smaller g c =
    let now = c.loop-event.state in
    let kept = c.loop-event.invariant.kept in
    let next = next_is now.design now.world kept.good.steady c.unfinished.result.now c.in-Some.event c.unfinished.ensures.frames
    c.in-Some.ensures in
    falls now.design now.world kept.good.steady kept.accepted c.in-Some.event c.end_next.new.state.design c.end_next.new.state.world next
    c.end_next.ensures.design c.in_ok-end_next.ensures.ok

pub loop-event-preserved : goal.loop-event-preserved
loop-event-preserved g c =
    let now = c.loop-event.state in
    let after = c.end_next.new.state in
    let i = c.loop-event.invariant in
    let next = next_is now.design now.world i.kept.good.steady c.unfinished.result.now c.in-Some.event c.unfinished.ensures.frames
    c.in-Some.ensures in
    let lawful = subst (λ (d : Design). IsLawful d now.world c.in-Some.event after.world) i.design c.in_ok-end_next.ensures.ok in
    record {
      goes = goes_more c.args.state.now.design c.args.state.now.world now.world after.world c.in-Some.event i.goes next lawful;
      kept = kept_after now.design after.design now.world after.world c.in-Some.event i.kept c.end_next.ensures.design
          c.in_ok-end_next.ensures.ok;
      design = c.end_next.ensures.design ∙ i.design;
      in_step = c.end_next.ensures.in_step;
      tail = tail_more c.args.wal.now c.loop-event.wal c.end_next.new.wal i.tail c.end_next.ensures.tail;
    }
