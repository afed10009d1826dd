use Rattle.std.proofs.Common.{◌≡◌, false, take}
use Rattle.std.specs.List.{list_any}
use Rattle.acc_parse_names.specs.Views.{scope_in}
use Rattle.acc_parse_names.specs.Faults.{form_rel_fault}
use Rattle.acc_parse_names.proofs.clauses.any_form_rel_fault.Given as goal

abbrev pub invariant-loop-relation : goal.invariant-loop-relation
invariant-loop-relation l = list_any (form_rel_fault (scope_in l.definitions)) (take l.relation-index l.relations) ≡ false
