-- what is written, with what is left to write, is all of it
use Rattle.std.proofs.Common.{◌≡◌, ◌++◌, drop}
use Rattle.std.specs.List.{flat_map}
use Rattle.acc_diagnose_sources.specs.Shown.{shown_path}
use Rattle.acc_diagnose_sources.proofs.shown.push_paths.Given as goal

abbrev pub invariant-loop-path : goal.invariant-loop-path
invariant-loop-path l = l.shown.items ++ flat_map shown_path (drop l.path-index l.paths) ≡ l.fn.shown.items ++ flat_map shown_path l.paths
