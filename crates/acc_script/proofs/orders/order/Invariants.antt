-- The lines that are read say the numbers, and the others are left.
use Rattle.std.proofs.Common.{length}
use Rattle.acc_script.specs.Pieces.{lines_of}
use Rattle.acc_script.specs.OrderLines.{SaysPlaces, most_numbers}
use Rattle.acc_script.proofs.LineSteps.{SoFar}
use Rattle.acc_script.proofs.orders.order.Given as goal

abbrev pub invariant-loop-line : goal.invariant-loop-line
invariant-loop-line l = SoFar (SaysPlaces l.places) most_numbers (lines_of l.text) l.lines l.count l.numbers

abbrev pub decreases-loop-line : goal.decreases-loop-line
decreases-loop-line l = length l.lines
