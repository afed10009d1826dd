use Rattle.std.proofs.Common.{◌≡◌, ◌++◌, drop}
use Rattle.std.specs.Prelude.{flat_map}
use Rattle.acc_parse_names.specs.Views.{scope_in}
use Rattle.acc_parse_names.specs.Faults.{path_faults}
use Rattle.acc_parse_names.proofs.steps.paths_faults.Given as goal

-- what is written, with what is left to write, is all of it
abbrev pub invariant-loop-path : goal.invariant-loop-path
invariant-loop-path l = l.faults.items ++ flat_map (path_faults (scope_in l.definitions) l.points) (drop l.path-index l.paths) ≡
    l.fn.faults.items ++ flat_map (path_faults (scope_in l.definitions) l.points) l.paths
