use Rattle.std.proofs.Common.{◌≡◌, ◌≤◌, ◌+◌, map, drop, ◌+ℤ◌}
use Rattle.std.specs.Prelude.{unsigned_abs}
use Rattle.std.specs.List.{sum_by}
use Rattle.acc_base.specs.declared.bounds.TheConstants.{LARGEST_SUM}
use Rattle.acc_base.specs.Numbers.{total}
use Rattle.acc_base.specs.Tables.{cell}
use Rattle.tpcc_tables.proofs.amounts.sum.Given as goal

abbrev pub invariant-loop-row : goal.invariant-loop-row
invariant-loop-row l =
    record {
      sum : l.sum +ℤ total (map (cell l.col) (drop l.row-index l.rows)) ≡ total (map (cell l.col) l.rows);
      bound : unsigned_abs l.sum + sum_by (λ r. unsigned_abs (cell l.col r)) (drop l.row-index l.rows) ≤ LARGEST_SUM;
    }
