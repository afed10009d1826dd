-- The lines that are read ask for the calls, and the others are left.
use Rattle.std.proofs.Common.{length}
use Rattle.acc_script.specs.Pieces.{lines_of}
use Rattle.acc_script.specs.CallLines.{SaysCall, most_calls}
use Rattle.acc_script.proofs.LineSteps.{SoFar}
use Rattle.acc_script.proofs.scripts.calls.Given as goal

abbrev pub invariant-loop-line : goal.invariant-loop-line
invariant-loop-line l = SoFar (SaysCall l.d) most_calls (lines_of l.text) l.lines l.count l.calls

abbrev pub decreases-loop-line : goal.decreases-loop-line
decreases-loop-line l = length l.lines
