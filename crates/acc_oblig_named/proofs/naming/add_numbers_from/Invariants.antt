use Rattle.std.proofs.Common.{◌≡◌, ◌++◌}
use Rattle.acc_oblig_named.proofs.naming.add_numbers_from.Given as goal
use Rattle.acc_base.specs.Items.{numbers_from}

abbrev pub invariant-loop-i : goal.invariant-loop-i
invariant-loop-i l = l.out ≡ l.fn.out ++ numbers_from l.own l.i
