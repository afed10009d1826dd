use Rattle.acc_running.proofs.Again.{crash_recovers}
use Rattle.acc_running.proofs.laws.a_crash_recovers.Goals as goal

pub returns : goal.returns
returns c = crash_recovers
