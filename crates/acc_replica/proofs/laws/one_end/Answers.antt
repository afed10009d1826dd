use Rattle.acc_replica.proofs.OneEnd.{one_end}
use Rattle.acc_replica.proofs.laws.one_end.Goals as goal

pub returns : goal.returns
returns c d fed x y a b p q = one_end d fed x y a b p q
