use Rattle.std.proofs.Common.{length}
use Rattle.acc_parse.proofs.WrongLines.{IsAt}
use Rattle.acc_parse.proofs.lines.wrong_line.Given as goal

-- the lines so far are words, and all of them are good
abbrev pub invariant-loop-first : goal.invariant-loop-first
invariant-loop-first l = IsAt l.text l.rest l.line l.left l.good

abbrev pub decreases-loop-first : goal.decreases-loop-first
decreases-loop-first l = length l.rest
