use Rattle.acc_base.proofs.SumLaws.{form_sum-worth}
use Rattle.acc_base.proofs.laws.sums_add_up.Goals as goal

pub returns : goal.returns
returns c = form_sum-worth
