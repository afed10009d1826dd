use Rattle.acc_commands_inputs.proofs.VerbLemmas.{help}
use Rattle.acc_commands_inputs.proofs.laws.commands_have_help.Goals as goal

pub returns : goal.returns
returns c = help
