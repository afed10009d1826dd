use Rattle.std.proofs.Common.{◌≡◌}
use Rattle.acc_rows.specs.Divisors.{divisor}
use Rattle.acc_rows.proofs.divisors.divisor.Given as goal

abbrev pub invariant-loop-b : goal.invariant-loop-b
invariant-loop-b l = divisor l.a l.b ≡ divisor l.fn.a l.fn.b

abbrev pub decreases-loop-b : goal.decreases-loop-b
decreases-loop-b l = l.b
