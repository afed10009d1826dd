use Rattle.acc_advise.proofs.Trying.{tries_if}
use Rattle.acc_advise.proofs.trials.searched.Goals as goal

pub returns : goal.returns
returns g c = tries_if c.args.d.now c.args.sequents.now c.in_ok-findings.findings c.ended.result c.in_ok-findings.ensures c.ended.ensures
