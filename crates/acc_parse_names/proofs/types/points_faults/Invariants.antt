use Rattle.std.proofs.Common.{◌≡◌, [], ◌++◌, drop}
use Rattle.acc_parse_names.specs.Scopes.{points_in}
use Rattle.acc_parse_names.specs.Views.{scope_in}
use Rattle.acc_parse_names.specs.Faults.{points_faults}
use Rattle.acc_parse_names.proofs.types.points_faults.Given as goal

-- what is written, with what is left to write, is all of it
abbrev pub invariant-loop-point : goal.invariant-loop-point
invariant-loop-point l =
    l.faults.items ++ points_faults (scope_in l.definitions) l.points l.earlier (drop l.point-index l.tree.others) ≡ l.fn.faults.items ++
    points_faults (scope_in l.definitions) l.points [] (points_in l.tree)
