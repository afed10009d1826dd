-- A pass was made over the pairs so far.
use Rattle.std.specs.List.{AllByRecursion}
use Rattle.acc_oblig_places.specs.Rooms.{HasFewLocals}
use Rattle.acc_advise.specs.Steps.{HasPassed, tried_pairs}
use Rattle.acc_advise.proofs.passes.pass.Given as goal

abbrev pub invariant-loop-known : goal.invariant-loop-known
invariant-loop-known g l = record {
  can : (goal.iterator-loop-known g).can_next l.known-iterator;
  finite : (goal.iterator-loop-known g).is_finite l.known-iterator;
  few : AllByRecursion HasFewLocals l.grown.pairs;
  passed : HasPassed l.case l.fn.grown (tried_pairs l.yielded) l.grown l.left;
}
