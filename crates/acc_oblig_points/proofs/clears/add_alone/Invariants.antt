use Rattle.std.proofs.Common.{◌≡◌, ◌++◌, map}
use Rattle.acc_oblig.specs.Relations.{alone}
use Rattle.acc_oblig_points.proofs.clears.add_alone.Given as goal
use Rattle.acc_base.specs.Items.{numbers_from}

abbrev pub invariant-loop-i : goal.invariant-loop-i
invariant-loop-i l = l.out ≡ l.fn.out ++ map alone (numbers_from l.from l.i)
