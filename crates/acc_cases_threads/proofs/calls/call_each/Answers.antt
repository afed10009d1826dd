use Rattle.std.proofs.Common.{Ok, ap, ◌∙◌}
use Rattle.acc_cases_threads.proofs.Meeting.{begun_and_met}
use Rattle.acc_cases_threads.proofs.calls.call_each.Goals as goal

pub call_for-one-requires : goal.call_for-one-requires
call_for-one-requires g c = record {
  may =
      begun_and_met g.B.Run.script g.B.Room.start c.split-one.result.0 c.draw-one.result.0 c.split-one.result.1 c.draw-other.result.0
      c.meet-one.result.0 c.draw-one.result.1 c.draw-other.result.1 c.in-Begun.t c.knows.ensures c.knows-2.ensures c.knows-3.ensures
      c.draw-one.ensures.draws c.draw-other.ensures.draws (c.in-Ok.is ∙ ap Ok c.in-Begun.is)
      c.meet-one.ensures.seen.0 c.meet-one.ensures.mine.0 c.meet-one.ensures.first.0;
}
