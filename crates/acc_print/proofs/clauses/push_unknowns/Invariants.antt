-- What is written so far, and then the terms that are left, is all of it.
use Rattle.acc_page.specs.Written.{Owes}
use Rattle.std.proofs.Common.{true, drop}
use Rattle.acc_print.specs.Sums.{terms}
use Rattle.acc_print.specs.Clauses.{unknown_text}
use Rattle.acc_print.proofs.clauses.push_unknowns.Given as goal

abbrev pub invariant-loop-unknown : goal.invariant-loop-unknown
invariant-loop-unknown l =
    Owes l.fn.out l.out (terms (unknown_text l.scope) l.first (drop l.unknown-index l.sum)) (terms (unknown_text l.scope) true l.sum)
