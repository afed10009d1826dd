use Rattle.acc_cert_prove.proofs.Adding.{found_lines, found_all}
use Rattle.acc_cert_prove.proofs.proving.prove_at_once.Goals as goal

pub returns-clause-lines : goal.returns-clause-lines
returns-clause-lines g c =
    found_lines c.args.d.now c.args.sequents.now c.in_ok-findings.findings c.add_all.result c.args.lines.now c.add_all.new.lines
    c.in_ok-findings.ensures c.add_all.ensures.lines c.add_all.ensures.ended

pub returns-clause-proofs : goal.returns-clause-proofs
returns-clause-proofs g c =
    found_all c.args.d.now c.args.sequents.now c.in_ok-findings.findings c.add_all.result c.args.proofs.now.items
    c.add_all.new.proofs.items c.in_ok-findings.ensures c.add_all.ensures.proofs c.add_all.ensures.ended
