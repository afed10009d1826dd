use Rattle.std.proofs.Common.{◌≡◌, ◌≤◌, ◌+◌, ◌^◌, map, ◌+ℤ◌, length}
use Rattle.std.specs.Prelude.{unsigned_abs}
use Rattle.std.specs.List.{sum_by}
use Rattle.acc_base.specs.Numbers.{total}
use Rattle.acc_base.specs.Tables.{cell}
use Rattle.acc_store.specs.Rows.{live}
use Rattle.acc_store.specs.Runs.{left, IsForward}
use Rattle.acc_store.proofs.sums.sum_live.Given as goal

abbrev pub invariant-loop-slot : goal.invariant-loop-slot
invariant-loop-slot l =
    record {
      sum : l.sum +ℤ total (map (cell l.col) (live (left l.rest))) ≡ total (map (cell l.col) (live (left l.fn.entries)));
      bound : unsigned_abs l.sum + sum_by (λ r. unsigned_abs (cell l.col r)) (live (left l.rest)) ≤ 2 ^ 120;
      forward : IsForward l.rest;
    }

abbrev pub decreases-loop-slot : goal.decreases-loop-slot
decreases-loop-slot l = length (left l.rest)
