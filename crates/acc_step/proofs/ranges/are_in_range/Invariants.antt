use Rattle.std.proofs.Common.{◌≡◌, take, drop}
use Rattle.acc_step.specs.Variables.{values_of}
use Rattle.acc_base.specs.Actions.{after_actions}
use Rattle.acc_base.specs.Tables.{Place, IsInOrder}
use Rattle.acc_step.specs.Overlay.{columns_at}
use Rattle.acc_step.specs.RowColumns.{columns_through}
use Rattle.acc_step.proofs.RowWalks.{rows_through}
use Rattle.acc_step.proofs.ranges.are_in_range.Given as goal

-- what is left, from the rows that the actions so far leave, gives what all give; and the columns so far are those of these rows
abbrev pub invariant-loop-i : goal.invariant-loop-i
invariant-loop-i g l =
    let db = g.S.Store.rows l.s in
    let env = values_of l.variables in
    record {
      rest : after_actions l.side env (drop l.i l.actions) (rows_through env (take l.i l.actions) db) ≡ after_actions l.side env l.actions
          db;
      columns : (p : Place) → columns_through env p (take l.i l.actions) (columns_at p db) ≡ columns_at p
          (rows_through env (take l.i l.actions) db);
      order : IsInOrder (rows_through env (take l.i l.actions) db);
    }
