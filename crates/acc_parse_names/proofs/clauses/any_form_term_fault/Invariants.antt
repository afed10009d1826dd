use Rattle.std.proofs.Common.{◌≡◌, false, take}
use Rattle.std.specs.List.{list_any}
use Rattle.acc_parse_names.specs.Views.{scope_in}
use Rattle.acc_parse_names.specs.Faults.{form_term_fault}
use Rattle.acc_parse_names.proofs.clauses.any_form_term_fault.Given as goal

abbrev pub invariant-loop-signed : goal.invariant-loop-signed
invariant-loop-signed l = list_any (λ t. form_term_fault (scope_in l.definitions) t.term) (take l.signed-index l.terms) ≡ false
