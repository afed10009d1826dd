use Rattle.acc_cert_prove.proofs.Opened.{line_added}
use Rattle.acc_cert_prove.proofs.lines.push_ended.Goals as goal

pub returns : goal.returns
returns c =
    line_added c.args.d.now c.args.origin.now c.args.end.now c.args.out.now c.push_opened.new.out c.push.new.self c.push-2.new.self
    c.push_opened.ensures c.push.ensures c.push-2.ensures
