use Rattle.acc_cert_prove.proofs.Adding.{next_lines, next_proofs, next_ended}
use Rattle.acc_cert_prove.proofs.proving.add_all.Goals as goal

pub loop-finding-preserved : goal.loop-finding-preserved
loop-finding-preserved c =
    let before = c.loop-finding.invariant in
    let now = c.in_ok-add_found.ensures in
    let fs = c.loop-finding.yielded in
    let f = c.in-Some.finding in
    record {
      can = tt;
      finite = tt;
      lines = next_lines c.args.d.now c.args.lines.now c.loop-finding.lines c.add_found.new.lines fs f before.lines now.lines;
      proofs =
          next_proofs c.args.proofs.now.items c.loop-finding.proofs.items c.add_found.new.proofs.items fs f before.proofs now.proofs;
      ended = next_ended fs f before.ended now.ended;
    }
