use Rattle.acc_base.proofs.Items.{got}
use Rattle.acc_cases_lock_states.proofs.Going.{going}
use Rattle.acc_cases_lock_states.proofs.turns.is_going.Goals as goal

pub returns-then-is_forward : goal.returns-then-is_forward
returns-then-is_forward c _ =
    let state = c.args.state.now in
    let frames = c.unfinished-frames.result.now in
    let frame = c.index-frames-i.result in
    going state.design state.world frames c.loop-i.i c.args.t frame c.events-events.ensures.good c.unfinished-frames.ensures.frames
    (got frames c.loop-i.i frame c.loop-i-test.true c.index-frames-i.is) c.if-f-t.true (c.is_forward.ensures c.if-is_forward.true)
