use Rattle.acc_commands.proofs.ProvedAccepted.{accepted_when_proved}
use Rattle.acc_commands.proofs.laws.proved_is_accepted.Goals as goal

pub returns : goal.returns
returns c = accepted_when_proved
