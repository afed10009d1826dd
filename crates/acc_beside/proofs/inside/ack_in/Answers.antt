use Rattle.std.proofs.Common.{◌∙◌, sym}
use Rattle.acc_beside.proofs.Settling.{acks_durable}
use Rattle.acc_beside.proofs.inside.ack_in.Goals as goal

pub returns-in-Ok-Some-clause-acks : goal.returns-in-Ok-Some-clause-acks
returns-in-Ok-Some-clause-acks g c =
    let serves = c.requires.serves in
    acks_durable g.B.Run.script.design c.args.t c.args.joined c.args.engine.now c.in-Ok-Some.reply c.requires.tied serves.kept serves.design
    (sym c.in-Ok-Some.ensures.ok ∙ c.in-Ok-Some.field-0-is)
