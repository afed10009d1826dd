use Rattle.acc_commands.proofs.OneMeaning.{one_meaning}
use Rattle.acc_commands.proofs.laws.commands_mean_one.Goals as goal

pub returns : goal.returns
returns c = one_meaning
