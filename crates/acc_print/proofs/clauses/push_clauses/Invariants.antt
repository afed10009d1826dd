-- What is written so far, and then the clauses that are left, is all of it.
use Rattle.acc_page.specs.Written.{Owes}
use Rattle.std.proofs.Common.{drop}
use Rattle.std.specs.List.{flat_map}
use Rattle.acc_print.specs.Clauses.{clause_line}
use Rattle.acc_print.proofs.clauses.push_clauses.Given as goal

abbrev pub invariant-loop-clause : goal.invariant-loop-clause
invariant-loop-clause l =
    Owes l.fn.out l.out (flat_map (clause_line l.surroundings l.word) (drop l.clause-index l.clauses))
    (flat_map (clause_line l.surroundings l.word) l.clauses)
