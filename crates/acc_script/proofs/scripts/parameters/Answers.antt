use Rattle.acc_script.proofs.CallSteps.{no_value}
use Rattle.acc_script.proofs.scripts.parameters.Goals as goal

pub returns-in_default-integer-clause-refused : goal.returns-in_default-integer-clause-refused
returns-in_default-integer-clause-refused c = λ h.
    no_value c.args.words.now c.next.new.self c.in-Some.word.now c.loop.counter c.args.count c.loop.values
    (rw c.in-Some.ensures at c.loop.invariant) c.loop-test.true c.in_default-integer.ensures
