-- A pass was made over so many pairs, and what settles from there settles from nothing.
use Rattle.std.specs.List.{AllByRecursion}
use Rattle.acc_oblig_places.specs.Rooms.{HasFewLocals}
use Rattle.acc_advise.specs.Steps.{IsBacked, IsKnown, reasons, tried_pairs}
use Rattle.acc_advise.proofs.Growing.{Leads}
use Rattle.acc_advise.proofs.passes.settled.Given as goal

abbrev pub invariant-loop-passed : goal.invariant-loop-passed
invariant-loop-passed g l = record {
  few : AllByRecursion HasFewLocals l.grown.pairs;
  others : AllByRecursion HasFewLocals (tried_pairs l.left);
  known : AllByRecursion (IsKnown l.case l.grown.pairs) l.left;
  backed : IsBacked l.case l.grown;
  leads : Leads l.case l.candidates l.passed l.grown (reasons l.left);
}

abbrev pub decreases-loop-passed : goal.decreases-loop-passed
decreases-loop-passed g l = l.passed
