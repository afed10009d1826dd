use Rattle.std.proofs.Common.{◌≡◌, ◌+◌, ◌*◌, ◌^◌, take}
use Rattle.acc_step.specs.Variables.{values_of}
use Rattle.acc_step.specs.Overlay.{columns_at}
use Rattle.acc_step.specs.RowColumns.{columns_through, AreNear}
use Rattle.acc_step.proofs.walks.columns_past.Given as goal

-- the columns after the actions that were gone over, each of which takes them at most 2^45 farther from 0
abbrev pub invariant-loop-action : goal.invariant-loop-action
invariant-loop-action g l =
    record {
      so_far : columns_through (values_of l.variables) (l.table, l.key) (take l.action-index l.actions)
          (columns_at (l.table, l.key) (g.S.Store.rows l.s)) ≡ l.cols;
      near : AreNear (2 ^ 120 + l.action-index * 2 ^ 45) l.cols;
    }
