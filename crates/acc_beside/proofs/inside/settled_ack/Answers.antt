use Rattle.acc_beside.proofs.Settling.{acks_as}
use Rattle.acc_beside.proofs.inside.settled_ack.Goals as goal

pub returns-in-Ok-clause-acks : goal.returns-in-Ok-clause-acks
returns-in-Ok-clause-acks g c =
    let s = c.settle_in-joined.ensures in
    acks_as g.B.Run.script.design c.args.t c.args.joined c.settle_in-joined.result.0 c.settle_in-joined.new.engine
    c.settle_in-joined.result.1 c.in-Ok.field-0 c.reply_of.result c.in-Ok.is s.settles s.all s.tied s.serves.kept s.serves.design
    c.reply_of.ensures.ok c.reply_of.ensures.err
