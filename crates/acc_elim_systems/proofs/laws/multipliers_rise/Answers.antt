use Rattle.acc_elim_systems.proofs.FalseConstants.{rising}
use Rattle.acc_elim_systems.proofs.laws.multipliers_rise.Goals as goal

pub returns : goal.returns
returns c = rising
