use Rattle.std.proofs.Common.{◌≡◌, length}
use Rattle.acc_store.specs.Rows.{live}
use Rattle.acc_store.specs.Runs.{left, IsForward}
use Rattle.acc_base.specs.Tables.{parts_at}
use Rattle.acc_store.proofs.sums.least_live.Given as goal

-- what is left has the same parts
abbrev pub invariant-loop-place : goal.invariant-loop-place
invariant-loop-place l =
    record {
      parts : parts_at l.at (live (left l.fn.entries)) ≡ parts_at l.at (live (left l.rest));
      forward : IsForward l.rest;
    }

abbrev pub decreases-loop-place : goal.decreases-loop-place
decreases-loop-place l = length (left l.rest)
