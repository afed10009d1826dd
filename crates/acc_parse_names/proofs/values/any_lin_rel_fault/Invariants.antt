use Rattle.std.proofs.Common.{◌≡◌, false, take}
use Rattle.std.specs.List.{list_any}
use Rattle.acc_parse_names.specs.Views.{variables_in}
use Rattle.acc_parse_names.specs.Faults.{lin_rel_fault}
use Rattle.acc_parse_names.proofs.values.any_lin_rel_fault.Given as goal

abbrev pub invariant-loop-relation : goal.invariant-loop-relation
invariant-loop-relation l = list_any (lin_rel_fault (variables_in l.variables)) (take l.relation-index l.relations) ≡ false
