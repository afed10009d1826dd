use Rattle.acc_advise.proofs.Owned.{tries_own}
use Rattle.acc_advise.proofs.laws.own_obligations.Goals as goal

pub returns : goal.returns
returns c = tries_own
