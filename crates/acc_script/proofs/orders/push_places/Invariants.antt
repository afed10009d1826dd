-- The words that are read are numbers of places, and the others are left.
use Rattle.std.proofs.Common.{length}
use Rattle.acc_script.proofs.OrderSteps.{PlacesSoFar}
use Rattle.acc_script.proofs.orders.push_places.Given as goal

abbrev pub invariant-loop-word : goal.invariant-loop-word
invariant-loop-word l = PlacesSoFar l.places l.line l.words l.fn.numbers l.numbers

abbrev pub decreases-loop-word : goal.decreases-loop-word
decreases-loop-word l = length l.words
