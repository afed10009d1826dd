use Rattle.acc_cli.proofs.Completeness.{accepted_is_answered}
use Rattle.acc_cli.proofs.laws.accepted_is_answered.Goals as goal

pub returns : goal.returns
returns c = accepted_is_answered
