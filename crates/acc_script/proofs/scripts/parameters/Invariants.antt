-- The words that are read are values, and the others are left.
use Rattle.acc_script.proofs.CallSteps.{ValuesSoFar}
use Rattle.acc_script.proofs.scripts.parameters.Given as goal

abbrev pub invariant-loop : goal.invariant-loop
invariant-loop l = ValuesSoFar l.fn.words l.words l.counter l.values
