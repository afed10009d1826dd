use Rattle.acc_lift.proofs.Theorem.{event_logged}
use Rattle.acc_recover.proofs.NextEvents.{next_comes, is_brief, few}
use Rattle.acc_recover.proofs.InSteps.{tail_short, still_in_step, in_step_same}
use Rattle.acc_recover.proofs.endings.end_next.Goals as goal

pub take_ending-requires : goal.take_ending-requires
take_ending-requires g c =
    let was = c.args.state.now in
    record { comes = next_comes was.design was.world c.requires.kept.good.steady c.requires.kept.accepted c.args.event c.requires.next }

pub put-requires-clause-fits : goal.put-requires-clause-fits
put-requires-clause-fits g c =
    let was = c.args.state.now in
    (is_brief was.design was.world c.requires.kept.good.steady c.args.event c.requires.next).0

pub put-requires-clause-brief : goal.put-requires-clause-brief
put-requires-clause-brief g c =
    let was = c.args.state.now in
    (is_brief was.design was.world c.requires.kept.good.steady c.args.event c.requires.next).1

pub put-requires-clause-quiet : goal.put-requires-clause-quiet
put-requires-clause-quiet g c =
    let was = c.args.state.now in
    (in_step_same was.world.events c.args.wal.now c.reserve.new.self c.requires.in_step c.reserve.ensures.same).quiet

pub put-requires-clause-short : goal.put-requires-clause-short
put-requires-clause-short g c =
    let was = c.args.state.now in
    let before = in_step_same was.world.events c.args.wal.now c.reserve.new.self c.requires.in_step c.reserve.ensures.same in
    tail_short was.world.events c.reserve.new.self before (few was.design was.world c.requires.kept.good.steady)

pub returns-clause-in_step : goal.returns-clause-in_step
returns-clause-in_step g c =
    let was = c.args.state.now in
    let now = c.take_ending.new.state in
    let before = in_step_same was.world.events c.args.wal.now c.reserve.new.self c.requires.in_step c.reserve.ensures.same in
    let brief = is_brief was.design was.world c.requires.kept.good.steady c.args.event c.requires.next in
    still_in_step was.world.events now.world.events c.reserve.new.self c.put.new.wal c.args.event before c.put.ensures brief.1
    (event_logged was.design was.world c.args.event now.world c.in_ok-take_ending.ensures.ok.event)
