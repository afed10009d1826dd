use Rattle.std.proofs.Common.{◌≡◌, take}
use Rattle.acc_rows.specs.Rows.{quotients}
use Rattle.acc_rows.proofs.divisors.quotients.Given as goal

abbrev pub invariant-loop-term : goal.invariant-loop-term
invariant-loop-term l = l.out ≡ quotients l.fn.by (take l.term-index l.list)
