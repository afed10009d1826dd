use Rattle.std.proofs.Common.{◌≡◌, false, take}
use Rattle.std.specs.Prelude.{not}
use Rattle.std.specs.List.{list_any}
use Rattle.acc_parse_names.specs.Names.{stands_in}
use Rattle.acc_parse_names.proofs.types.any_undefined.Given as goal

abbrev pub invariant-loop-name : goal.invariant-loop-name
invariant-loop-name l = list_any (λ x. not (stands_in x l.locals)) (take l.name-index l.names) ≡ false
