use Rattle.std.proofs.Common.{◌≡◌, take, true}
use Rattle.std.specs.List.{list_all}
use Rattle.acc_base.specs.Linear.{lin_rel_true}
use Rattle.acc_step.specs.Variables.{values_of}
use Rattle.acc_step.proofs.paths.are_true.Given as goal

abbrev pub invariant-loop-r : goal.invariant-loop-r
invariant-loop-r l = list_all (lin_rel_true (values_of l.variables)) (take l.r-index l.guard) ≡ true
