use Rattle.std.proofs.Common.{◌≡◌, ◌++◌, drop}
use Rattle.acc_oblig.specs.Settings.{all_untaken}
use Rattle.acc_oblig_assumptions.proofs.settings.add_all_untaken.Given as goal

abbrev pub invariant-loop-path : goal.invariant-loop-path
invariant-loop-path l = l.out ++ all_untaken l.n (drop l.path-index l.paths) ≡ l.fn.out ++ all_untaken l.n l.paths
