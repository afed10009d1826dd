use Rattle.acc_commands.proofs.Completeness.{closed_is_told}
use Rattle.acc_commands.proofs.laws.closed_is_told.Goals as goal

pub returns : goal.returns
returns c = closed_is_told
