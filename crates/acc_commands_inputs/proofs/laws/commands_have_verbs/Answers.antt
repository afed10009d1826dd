use Rattle.acc_commands_inputs.proofs.VerbLemmas.{verbs}
use Rattle.acc_commands_inputs.proofs.laws.commands_have_verbs.Goals as goal

pub returns : goal.returns
returns c = verbs
