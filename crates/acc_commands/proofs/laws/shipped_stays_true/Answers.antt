use Rattle.acc_commands.proofs.OneVerifying.{shipped_stays_true}
use Rattle.acc_commands.proofs.laws.shipped_stays_true.Goals as goal

pub returns : goal.returns
returns c = shipped_stays_true
