use Rattle.std.proofs.Common.{◌≡◌, false, take}
use Rattle.std.specs.List.{list_any}
use Rattle.acc_parse_names.specs.Views.{variables_in}
use Rattle.acc_parse_names.specs.Faults.{sum_fault}
use Rattle.acc_parse_names.proofs.values.any_sum_fault.Given as goal

abbrev pub invariant-loop-sum : goal.invariant-loop-sum
invariant-loop-sum l = list_any (sum_fault (variables_in l.variables)) (take l.sum-index l.sums) ≡ false
