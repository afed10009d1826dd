use Rattle.std.proofs.Common.{◌∙◌, ap, sym, subst, ◌+◌, ◌*◌, ◌^◌, drop, arith}
use Rattle.std.specs.List.{list_all}
use Rattle.std.specs.Cmp.{first_so}
use Rattle.acc_base.specs.Numbers.{is_small}
use Rattle.acc_step.specs.Variables.{values_of}
use Rattle.acc_base.specs.Actions.{action_numbers, after_action, after_actions, stores_small}
use Rattle.acc_store.specs.Bounds.{AreWithin}
use Rattle.acc_store.specs.Rows.{written}
use Rattle.acc_step.proofs.ActionSteps.{next_goes}
use Rattle.acc_step.proofs.Bounds.{action_within, within_weaker}
use Rattle.acc_step.proofs.actions.act_all.Goals as goal

pub loop-action-preserved : goal.loop-action-preserved
loop-action-preserved g c =
    let env = values_of c.args.variables.now in
    let a = c.action-item.result in
    let i = c.loop-action.action-index in
    let rows = written c.loop-action.writes.items (g.S.Store.rows c.args.s.now) in
    let e = c.in_ok-act.ensures in
    let small = first_so (list_all is_small (action_numbers env a)) (stores_small c.args.side env a rows) e.in_range in
    let within = action_within env (2 ^ 120 + i * 2 ^ 45) (omega arith) a rows small c.loop-action.invariant.within in
    record {
      rest = ap (after_actions c.args.side env (drop (i + 1) c.args.actions.now)) e.rows ∙ sym
          (next_goes c.args.side env c.args.actions.now i a rows c.loop-action-test.true c.action-item.is e.in_range) ∙
          c.loop-action.invariant.rest;
      narrow = e.narrow;
      within = subst (AreWithin (2 ^ 120 + (i + 1) * 2 ^ 45)) (sym e.rows)
          (within_weaker (2 ^ 120 + i * 2 ^ 45 + 2 ^ 45) (2 ^ 120 + (i + 1) * 2 ^ 45) (omega arith) (after_action env a rows) within);
    }
