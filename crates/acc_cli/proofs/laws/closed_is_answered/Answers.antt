use Rattle.acc_cli.proofs.Completeness.{closed_is_answered}
use Rattle.acc_cli.proofs.laws.closed_is_answered.Goals as goal

pub returns : goal.returns
returns c = closed_is_answered
