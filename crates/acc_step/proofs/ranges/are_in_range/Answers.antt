use Rattle.std.proofs.Common.{◌≡◌, ◌∙◌, ap, sym, subst, ◌+◌, ◌∷◌, [], ◌++◌, take, drop, true, false, Some, None, if◌then◌else◌}
use Rattle.std.specs.Prelude.{is_some}
use Rattle.std.specs.List.{list_all}
use Rattle.std.specs.Cmp.{first_so}
use Rattle.std.proofs.lemmas.List.{take_more}
use Rattle.acc_base.specs.Numbers.{is_small}
use Rattle.acc_step.specs.Variables.{values_of}
use Rattle.acc_base.specs.Tables.{IsInOrder}
use Rattle.acc_base.specs.Actions.{action_numbers, stores_small, after_action, after_actions}
use Rattle.acc_base.proofs.ActionRuns.{actions_in_order}
use Rattle.acc_step.specs.Overlay.{columns_at}
use Rattle.acc_step.specs.Changing.{change_if_small, may_act}
use Rattle.acc_step.specs.RowColumns.{columns_acted, columns_through}
use Rattle.acc_step.proofs.ActionSteps.{next_goes, next_fails}
use Rattle.acc_step.proofs.RowWalks.{rows_through, rows_more, columns_more, acted_at, follows_by}
use Rattle.acc_step.proofs.ranges.are_in_range.Goals as goal

pub returns-then-not-is_action_in_range : goal.returns-then-not-is_action_in_range
returns-then-not-is_action_in_range g c =
    let db = g.S.Store.rows c.args.s.now in
    let env = values_of c.args.variables.now in
    let acts = c.args.actions.now in
    let i = c.loop-i.i in
    let a = c.index-actions-i.result in
    let inv = c.loop-i.invariant in
    let rows = rows_through env (take i acts) db in
    let barred : may_act c.args.side env a rows ≡ false =
    sym (c.if-not-is_action_in_range.ensures ∙ follows_by env a c.args.side (λ p. columns_through env p (take i acts) (columns_at p db))
    rows inv.columns) in
    sym (ap is_some (sym inv.rest ∙ next_fails c.args.side env acts i a rows c.loop-i-test.true c.index-actions-i.is barred))

pub loop-i-preserved : goal.loop-i-preserved
loop-i-preserved g c =
    let db = g.S.Store.rows c.args.s.now in
    let env = values_of c.args.variables.now in
    let acts = c.args.actions.now in
    let i = c.loop-i.i in
    let a = c.index-actions-i.result in
    let inv = c.loop-i.invariant in
    let rows = rows_through env (take i acts) db in
    let may : may_act c.args.side env a rows ≡ true =
    sym (c.if-not-is_action_in_range.ensures ∙ follows_by env a c.args.side (λ p. columns_through env p (take i acts) (columns_at p db))
    rows inv.columns) in
    let small = first_so (list_all is_small (action_numbers env a)) (stores_small c.args.side env a rows) may in
    let more : take (i + 1) acts ≡ take i acts ++ a ∷ [] =
    take_more acts i a c.loop-i-test.true ∙ ap (λ x. take i acts ++ x ∷ []) (sym c.index-actions-i.is) in
    let next : rows_through env (take (i + 1) acts) db ≡ after_action env a rows =
    ap (λ xs. rows_through env xs db) more ∙ rows_more env a (take i acts) db in
    record {
      rest = ap (after_actions c.args.side env (drop (i + 1) acts)) next ∙ sym
          (next_goes c.args.side env acts i a rows c.loop-i-test.true c.index-actions-i.is may) ∙ inv.rest;
      columns = λ p. ap (λ xs. columns_through env p xs (columns_at p db)) more ∙ columns_more env a p (take i acts) (columns_at p db) ∙ ap
          (columns_acted p (change_if_small env a)) (inv.columns p) ∙ acted_at env a p rows inv.order small ∙ ap (columns_at p) (sym next);
      order = subst IsInOrder (sym next) (actions_in_order c.args.side env (a ∷ []) rows (after_action env a rows)
          (ap (λ b. if b then Some (after_action env a rows) else None) may) inv.order);
    }
