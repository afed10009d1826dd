use Rattle.acc_cert_prove.proofs.Adding.{one_more}
use Rattle.acc_cert_prove.proofs.searchers.InTurnSearchers.search_all.Goals as goal

pub loop-q-preserved : goal.loop-q-preserved
loop-q-preserved c =
    one_more c.args.d.now c.args.sequents.now c.loop-q.q-index c.q-item.result c.finding_of.result c.loop-q.findings c.push.new.self
    c.loop-q-test.true c.q-item.is c.in_ok-push.ensures.ok c.finding_of.ensures c.loop-q.invariant
