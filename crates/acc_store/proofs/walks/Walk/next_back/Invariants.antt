use Rattle.std.proofs.Common.{◌≡◌, length}
use Rattle.acc_store.specs.Runs.{left_behind, IsForward, KeepsEnds}
use Rattle.acc_store.proofs.walks.Walk.next_back.Given as goal

abbrev pub invariant-loop-entry : goal.invariant-loop-entry
invariant-loop-entry l =
    record {
      left : left_behind l.self ≡ left_behind l.fn.self;
      forward : IsForward l.self;
      ends : KeepsEnds l.fn.self l.self;
    }

abbrev pub decreases-loop-entry : goal.decreases-loop-entry
decreases-loop-entry l = length l.self.runs
