-- What is written so far, and then the paths that are left, is all of it.
use Rattle.acc_page.specs.Written.{Owes}
use Rattle.std.proofs.Common.{drop}
use Rattle.std.specs.List.{flat_map}
use Rattle.acc_print.specs.Steps.{path_lines}
use Rattle.acc_print.proofs.steps.push_paths.Given as goal

abbrev pub invariant-loop-path : goal.invariant-loop-path
invariant-loop-path l =
    Owes l.fn.out l.out (flat_map (path_lines l.scope l.points) (drop l.path-index l.paths))
    (flat_map (path_lines l.scope l.points) (l.paths))
