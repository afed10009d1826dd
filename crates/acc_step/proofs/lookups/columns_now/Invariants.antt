use Rattle.std.proofs.Common.{◌≡◌, drop}
use Rattle.std.specs.Prelude.{option_copied}
use Rattle.acc_step.specs.Overlay.{columns_at, columns_after, AreFew}
use Rattle.acc_step.proofs.lookups.columns_now.Given as goal

-- the writes that are left, from the columns as they are, leave what all leave
abbrev pub invariant-loop-write : goal.invariant-loop-write
invariant-loop-write g l =
    record {
      rest : columns_after (l.table, l.key) (drop l.write-index l.writes) (option_copied l.cols) ≡ columns_after (l.table, l.key) l.writes
          (columns_at (l.table, l.key) (g.S.Store.rows l.s));
      few : AreFew (option_copied l.cols);
    }
