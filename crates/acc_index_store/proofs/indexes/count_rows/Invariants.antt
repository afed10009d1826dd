use Rattle.std.proofs.Common.{take}
use Rattle.std.specs.Prelude.{filter}
use Rattle.acc_index_store.specs.Indexes.{AreTotals, HaveRoom, is_counted}
use Rattle.acc_index_store.proofs.indexes.count_rows.Given as goal

abbrev pub invariant-loop-i : goal.invariant-loop-i
invariant-loop-i l =
    record {
      totals : AreTotals l.kept (filter (is_counted l.way l.writes (take l.i l.writes)) l.rows) l.totals.entries;
      room : HaveRoom l.kept l.writes l.totals.entries;
    }
