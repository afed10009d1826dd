use Rattle.acc_elim_systems.proofs.FalseConstants.{signed}
use Rattle.acc_elim_systems.proofs.laws.multipliers_are_signed.Goals as goal

pub returns : goal.returns
returns c = signed
