-- A pass was made over the candidates so far.
use Rattle.std.proofs.Common.{take}
use Rattle.std.specs.List.{AllByRecursion}
use Rattle.acc_oblig_places.specs.Rooms.{HasFewLocals}
use Rattle.acc_advise.specs.Steps.{HasPassed}
use Rattle.acc_advise.proofs.passes.first_pass.Given as goal

abbrev pub invariant-loop-pair : goal.invariant-loop-pair
invariant-loop-pair g l = record {
  few : AllByRecursion HasFewLocals l.grown.pairs;
  passed : HasPassed l.case l.fn.grown (take l.pair-index l.candidates) l.grown l.left;
}
