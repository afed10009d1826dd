use Rattle.acc_cases_threads.proofs.Meeting.{may_on}
use Rattle.acc_cases_threads.proofs.calls.call_for.Goals as goal

pub turn-pass-requires : goal.turn-pass-requires
turn-pass-requires g c = record {
  may =
      may_on g.B.Run.script g.B.Room.start c.args.pass c.ack-pass.result.0 c.ack-pass.result.1 c.args.t c.knows.ensures c.knows-2.ensures
      c.ack-pass.ensures.acks c.requires.may;
}
