-- What is written so far, and then the terms that are left, is all of it.
use Rattle.acc_page.specs.Written.{Owes}
use Rattle.std.proofs.Common.{true, drop}
use Rattle.acc_print.specs.Sums.{terms}
use Rattle.acc_print.specs.Names.{name_at}
use Rattle.acc_print.proofs.values.push_terms.Given as goal

abbrev pub invariant-loop-variable : goal.invariant-loop-variable
invariant-loop-variable l =
    Owes l.fn.out l.out (terms (name_at l.scope.names) l.first (drop l.variable-index l.coeffs))
    (terms (name_at l.scope.names) true l.coeffs)
