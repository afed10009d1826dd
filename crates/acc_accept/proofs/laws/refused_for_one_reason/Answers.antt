use Rattle.acc_accept.proofs.OneRefusal.{refused_for_one_reason}
use Rattle.acc_accept.proofs.laws.refused_for_one_reason.Goals as goal

pub returns : goal.returns
returns c = refused_for_one_reason
