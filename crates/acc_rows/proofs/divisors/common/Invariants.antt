use Rattle.std.proofs.Common.{◌≡◌, drop}
use Rattle.acc_rows.specs.Divisors.{common}
use Rattle.acc_rows.specs.Rows.{numbers}
use Rattle.acc_rows.proofs.divisors.common.Given as goal

abbrev pub invariant-loop-number : goal.invariant-loop-number
invariant-loop-number l = common l.so_far (numbers (drop l.number-index l.list)) ≡ common l.fn.first (numbers l.list)
