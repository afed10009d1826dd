use Rattle.acc_lift.proofs.Undoing.{few_undos}
use Rattle.acc_lift.proofs.FormRules.{run_rules}
use Rattle.acc_lift.proofs.laws.undo_ends.Goals as goal

pub returns : goal.returns
returns c =
    λ d w after t f cause events sound form good at l. few_undos d sound (run_rules d form) t cause events w after f good.steady at l
