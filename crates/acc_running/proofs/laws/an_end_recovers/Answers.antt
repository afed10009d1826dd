use Rattle.acc_running.proofs.Again.{end_recovers}
use Rattle.acc_running.proofs.laws.an_end_recovers.Goals as goal

pub returns : goal.returns
returns c = end_recovers
