use Rattle.acc_cli.proofs.OneAnswer.{one_answer}
use Rattle.acc_cli.proofs.laws.lines_mean_one.Goals as goal

pub returns : goal.returns
returns c = one_answer
