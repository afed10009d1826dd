use Rattle.std.proofs.Common.{arith}
use Rattle.acc_script.proofs.OrderSteps.{one_read, no_place, too_many}
use Rattle.acc_script.proofs.orders.push_places.Goals as goal

pub returns-in_default-place-clause-refused : goal.returns-in_default-place-clause-refused
returns-in_default-place-clause-refused c = λ h.
    no_place c.args.places c.args.line.now c.in-Some.word.now c.next.new.self c.args.numbers.now c.loop-word.numbers
    (rw c.in-Some.ensures at c.loop-word.invariant) c.in_default-place.ensures

pub returns-then-len-eq-MOST_TURNS-clause-refused :
    goal.returns-then-len-eq-MOST_TURNS-clause-refused
returns-then-len-eq-MOST_TURNS-clause-refused c = λ h.
    too_many c.args.places c.args.line.now c.in-Some.word.now c.next.new.self c.args.numbers.now c.loop-word.numbers
    (rw c.in-Some.ensures at c.loop-word.invariant) (omega arith)

pub loop-word-preserved : goal.loop-word-preserved
loop-word-preserved c =
    rw c.in_ok-push.ensures.ok (one_read c.args.places c.args.line.now c.in-Some.word.now c.next.new.self c.args.numbers.now
    c.loop-word.numbers c.in-Some-place.number (rw c.in-Some.ensures at c.loop-word.invariant) c.in-Some-place.ensures.0
    c.in-Some-place.ensures.1 (omega arith))
