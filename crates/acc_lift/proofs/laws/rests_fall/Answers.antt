use Rattle.acc_lift.proofs.FormRules.{run_rules}
use Rattle.acc_lift.proofs.Recovering.{rests_fall}
use Rattle.acc_lift.proofs.laws.rests_fall.Goals as goal

pub returns : goal.returns
returns c = λ d w after e sound form good back h. rests_fall d sound (run_rules d form) w after e good.steady back h
