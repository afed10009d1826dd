use Rattle.std.specs.Prelude.{sum_by}
use Rattle.std.proofs.Common.{arith}
use Rattle.acc_base.specs.Invariant.{rest_of}
use Rattle.acc_lift.proofs.Recovering.{recovery}
use Rattle.acc_lift.proofs.FormRules.{run_rules}
use Rattle.acc_lift.proofs.laws.recovery_comes.Goals as goal

pub returns : goal.returns
returns c = λ d w sound form good. recovery d sound (run_rules d form) (sum_by (rest_of d) w.transactions) w good.steady (omega arith)
