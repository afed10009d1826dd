-- The words that are read are numbers of the tape, and the others are left.
use Rattle.std.proofs.Common.{length}
use Rattle.acc_script.proofs.TapeSteps.{TapeSoFar}
use Rattle.acc_script.proofs.tapes.numbers.Given as goal

abbrev pub invariant-loop-value : goal.invariant-loop-value
invariant-loop-value l = TapeSoFar l.fn.words l.words l.tape

abbrev pub decreases-loop-value : goal.decreases-loop-value
decreases-loop-value l = length l.words
