use Rattle.std.proofs.Common.{◌≡◌, ◌++◌, map, drop}
use Rattle.acc_parse_names.specs.Views.{scope_in}
use Rattle.acc_parse_names.specs.Faults.{clause_fault}
use Rattle.acc_parse_names.proofs.clauses.clauses_faults.Given as goal

-- what is written, with what is left to write, is all of it
abbrev pub invariant-loop-clause : goal.invariant-loop-clause
invariant-loop-clause l = l.faults.items ++ map (clause_fault (scope_in l.definitions)) (drop l.clause-index l.clauses) ≡ l.fn.faults.items
    ++ map (clause_fault (scope_in l.definitions)) l.clauses
