use Rattle.std.proofs.Common.{◌≡◌, false, take}
use Rattle.std.specs.List.{list_any}
use Rattle.acc_parse_names.specs.Views.{variables_in}
use Rattle.acc_parse_names.specs.Faults.{term_fault}
use Rattle.acc_parse_names.proofs.values.any_term_fault.Given as goal

abbrev pub invariant-loop-signed : goal.invariant-loop-signed
invariant-loop-signed l = list_any (λ t. term_fault (variables_in l.variables) t.term) (take l.signed-index l.terms) ≡ false
