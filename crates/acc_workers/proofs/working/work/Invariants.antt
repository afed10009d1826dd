use Rattle.acc_workers.specs.Turns.{NoneLeft}
use Rattle.acc_workers.proofs.working.work.Given as goal

abbrev pub invariant-loop : goal.invariant-loop
invariant-loop g l =
    (goal.iterator-loop g).can_next l.iterator' × (goal.iterator-loop g).is_finite l.iterator'
    × g.T.Turner.of l.turner l.token × NoneLeft g.T.Turner.may l.token
