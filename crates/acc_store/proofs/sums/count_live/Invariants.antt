use Rattle.std.proofs.Common.{◌≡◌, ◌≤◌, ◌+◌, length}
use Rattle.acc_store.specs.Rows.{live}
use Rattle.acc_store.specs.Runs.{left, IsForward}
use Rattle.acc_store.proofs.sums.count_live.Given as goal

abbrev pub invariant-loop-slot : goal.invariant-loop-slot
invariant-loop-slot l =
    record {
      count : l.count + length (live (left l.rest)) ≡ length (live (left l.fn.entries));
      few : l.count + length (left l.rest) ≤ length (left l.fn.entries);
      forward : IsForward l.rest;
    }

abbrev pub decreases-loop-slot : goal.decreases-loop-slot
decreases-loop-slot l = length (left l.rest)
