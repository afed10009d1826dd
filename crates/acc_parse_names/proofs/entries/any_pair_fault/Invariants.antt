use Rattle.std.proofs.Common.{◌≡◌, false, take}
use Rattle.std.specs.List.{list_any}
use Rattle.acc_parse_names.specs.Views.{variables_in}
use Rattle.acc_parse_names.specs.Faults.{pair_fault}
use Rattle.acc_parse_names.proofs.entries.any_pair_fault.Given as goal

abbrev pub invariant-loop-pair : goal.invariant-loop-pair
invariant-loop-pair l = list_any (pair_fault (variables_in l.held) (variables_in l.step)) (take l.pair-index l.pairs) ≡ false
