use Rattle.acc_elim_systems.proofs.FalseConstants.{a_sum}
use Rattle.acc_elim_systems.proofs.laws.a_false_constant_is_a_sum.Goals as goal

pub returns : goal.returns
returns c = a_sum
