use Rattle.acc_cert_prove.proofs.Adding.{all_proves}
use Rattle.acc_cert_prove.proofs.proving.prove_all.Goals as goal

pub returns-in-Some : goal.returns-in-Some
returns-in-Some g c =
    all_proves c.args.d.now c.args.sequents.now c.new-proofs.result.items c.prove_each.new.proofs.items c.new-lines.result
    c.prove_each.new.lines c.in-Some.lines.items c.ended.result c.new-proofs.ensures.items c.new-lines.ensures.empty
    c.in_ok-prove_each.ensures.proofs c.in_ok-prove_each.ensures.lines c.in-Some.ensures.whole c.in-Some.ensures.text c.ended.ensures
