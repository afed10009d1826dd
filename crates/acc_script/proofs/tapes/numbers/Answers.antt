use Rattle.std.proofs.Common.{arith, subst}
use Rattle.acc_script.proofs.TapeSteps.{TapeSoFar, too_long}
use Rattle.acc_script.proofs.tapes.numbers.Goals as goal

pub returns-then-len-eq-LONGEST_TAPE-clause-refused :
    goal.returns-then-len-eq-LONGEST_TAPE-clause-refused
returns-then-len-eq-LONGEST_TAPE-clause-refused c = λ h.
    too_long c.args.words.now c.next_number.new.words c.loop-value.tape c.in-Some.value
    (subst (λ ws. TapeSoFar c.args.words.now ws c.loop-value.tape) c.in-Some.ensures.1 c.loop-value.invariant) c.in-Some.ensures.0
    (omega arith)
