use Rattle.acc_audit.proofs.OneTelling.{one_telling}
use Rattle.acc_audit.proofs.laws.audits_tell_one.Goals as goal

pub returns : goal.returns
returns c = one_telling
