use Rattle.std.proofs.Common.{◌≡◌, length}
use Rattle.acc_store.specs.Runs.{left, IsForward, KeepsEnds}
use Rattle.acc_store.proofs.walks.Walk.next.Given as goal

abbrev pub invariant-loop-entry : goal.invariant-loop-entry
invariant-loop-entry l =
    record {
      left : left l.self ≡ left l.fn.self;
      forward : IsForward l.self;
      ends : KeepsEnds l.fn.self l.self;
    }

abbrev pub decreases-loop-entry : goal.decreases-loop-entry
decreases-loop-entry l = length l.self.runs
