use Rattle.std.proofs.Common.{length}
use Rattle.acc_parse_statements.proofs.Walks.{IsAt}
use Rattle.acc_parse_statements.proofs.statements.line_of.Given as goal

-- the lines so far, and how many statements end on them
abbrev pub invariant-loop-first : goal.invariant-loop-first
invariant-loop-first l = IsAt l.text l.rest l.number l.from l.n

abbrev pub decreases-loop-first : goal.decreases-loop-first
decreases-loop-first l = length l.rest
