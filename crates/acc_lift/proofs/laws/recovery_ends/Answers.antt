use Rattle.acc_lift.proofs.Recovering.{recovers_lawfully}
use Rattle.acc_lift.proofs.Theorem.{idle}
use Rattle.acc_lift.proofs.FormRules.{run_rules}
use Rattle.acc_lift.proofs.laws.recovery_ends.Goals as goal

pub returns : goal.returns
returns c =
    λ d w after events sound form good r. let k = recovers_lawfully d sound (run_rules d form) events w after good.steady r in
    (k.0, idle d after k.2 k.3, k.1)
