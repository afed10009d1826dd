use Rattle.acc_accept.proofs.OneRefusal.{none_is_both}
use Rattle.acc_accept.proofs.laws.none_is_both.Goals as goal

pub returns : goal.returns
returns c = none_is_both
