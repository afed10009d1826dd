use Rattle.std.proofs.Common.{◌≡◌, ◌++◌}
use Rattle.acc_oblig.specs.PointRules.{zeros}
use Rattle.acc_oblig_points.proofs.begins.add_zeros.Given as goal
use Rattle.acc_base.specs.Items.{numbers_from}

abbrev pub invariant-loop-i : goal.invariant-loop-i
invariant-loop-i l = l.out ≡ l.fn.out ++ zeros (numbers_from l.from l.i)
