use Rattle.std.proofs.Common.{◌≡◌, ◌+◌, ◌*◌, ◌^◌, drop}
use Rattle.std.specs.Prelude.{All}
use Rattle.acc_step.specs.Variables.{values_of}
use Rattle.acc_base.specs.Actions.{after_actions}
use Rattle.acc_store.specs.Bounds.{AreWithin}
use Rattle.acc_store.specs.Rows.{written, IsNarrow}
use Rattle.acc_step.proofs.actions.act_all.Given as goal

-- what is left, from the rows that the writes leave, gives what all give; and the values are not far from 0
abbrev pub invariant-loop-action : goal.invariant-loop-action
invariant-loop-action g l =
    let db = g.S.Store.rows l.s in
    let env = values_of l.variables in
    record {
      rest : after_actions l.side env (drop l.action-index l.actions) (written l.writes.items db) ≡ after_actions l.side env l.actions db;
      narrow : All IsNarrow l.writes.items;
      within : AreWithin (2 ^ 120 + l.action-index * 2 ^ 45) (written l.writes.items db);
    }
