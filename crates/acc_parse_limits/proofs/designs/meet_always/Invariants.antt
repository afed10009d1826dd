use Rattle.std.proofs.Common.{◌≡◌, take}
use Rattle.acc_base.specs.declared.limits.Limit.TheVariants as limit
use Rattle.acc_parse_limits.specs.Marks.{limited}
use Rattle.acc_parse_limits.specs.Statements.{clause_statement_marks}
use Rattle.acc_parse_limits.specs.Walks.{after}
use Rattle.acc_parse_limits.proofs.designs.meet_always.Given as goal

abbrev pub invariant-loop-i : goal.invariant-loop-i
invariant-loop-i l = l.walk ≡ after l.initial.walk (limited limit.AlwaysClauses 128 clause_statement_marks (take l.i l.clauses))
