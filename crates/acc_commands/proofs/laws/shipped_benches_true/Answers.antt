use Rattle.acc_commands.proofs.BenchTruths.{shipped_benches_true}
use Rattle.acc_commands.proofs.laws.shipped_benches_true.Goals as goal

pub returns : goal.returns
returns c = shipped_benches_true
