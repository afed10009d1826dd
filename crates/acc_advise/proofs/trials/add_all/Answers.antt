use Rattle.acc_cert_prove.proofs.Adding.{next_proofs, next_ended}
use Rattle.acc_advise.proofs.Trying.{next_stop}
use Rattle.acc_advise.proofs.trials.add_all.Goals as goal

pub loop-finding-preserved : goal.loop-finding-preserved
loop-finding-preserved c =
    let before = c.loop-finding.invariant in
    let now = c.in_ok-add_found.ensures in
    let fs = c.loop-finding.yielded in
    let f = c.in-Some.finding in
    record {
      can = tt;
      finite = tt;
      proofs =
          next_proofs c.args.proofs.now.items c.loop-finding.proofs.items c.add_found.new.proofs.items fs f before.proofs now.proofs;
      stop = next_stop fs f c.loop-finding.stop c.add_found.new.stop before.stop now.stop;
      ended = next_ended fs f before.ended now.ended;
    }
