use Rattle.acc_commands.proofs.Completeness.{accepted_is_told}
use Rattle.acc_commands.proofs.laws.accepted_is_told.Goals as goal

pub returns : goal.returns
returns c = accepted_is_told
