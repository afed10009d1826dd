use Rattle.std.proofs.Common.{◌≡◌, ◌++◌}
use Rattle.acc_oblig.specs.Settings.{all_bounds}
use Rattle.acc_oblig_assumptions.proofs.settings.add_all_bounds.Given as goal
use Rattle.acc_base.specs.Items.{numbers_from}

abbrev pub invariant-loop-i : goal.invariant-loop-i
invariant-loop-i l = l.out ≡ l.fn.out ++ all_bounds (numbers_from l.from l.i)
