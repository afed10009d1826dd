use Rattle.std.proofs.Common.{◌∙◌, ap, sym, subst, ◌+◌, ◌*◌, ◌^◌, ◌∷◌, [], ◌++◌, take, arith}
use Rattle.std.proofs.lemmas.List.{take_more}
use Rattle.acc_step.specs.Variables.{values_of}
use Rattle.acc_base.specs.Tables.{Place, is_at}
use Rattle.acc_step.specs.Overlay.{columns_at}
use Rattle.acc_step.specs.Changing.{change_if_small}
use Rattle.acc_step.specs.RowColumns.{columns_acted, columns_through, AreNear}
use Rattle.acc_step.proofs.NearColumns.{nearer, acted_near, found_near}
use Rattle.acc_step.proofs.RowWalks.{columns_more}
use Rattle.acc_step.proofs.walks.columns_past.Goals as goal

pub loop-action-init : goal.loop-action-init
loop-action-init g c =
    let p : Place = (c.args.table, c.args.key.now) in
    let e = sym c.columns_stored-cols.ensures in
    record {
      so_far = e;
      near = subst (AreNear (2 ^ 120)) e (found_near (2 ^ 120) (is_at p.0 p.1) (g.S.Store.rows c.args.s.now) c.requires.within);
    }

pub loop-action-preserved : goal.loop-action-preserved
loop-action-preserved g c =
    let p : Place = (c.args.table, c.args.key.now) in
    let env = values_of c.args.variables.now in
    let old = columns_at p (g.S.Store.rows c.args.s.now) in
    let acts = c.args.actions.now in
    let i = c.loop-action.action-index in
    let a = c.action-item.result in
    let inv = c.loop-action.invariant in
    let e = sym c.columns_with_action-cols.ensures in
    let m = 2 ^ 120 + i * 2 ^ 45 in
    let near = acted_near env m (omega arith) p a c.loop-action.cols inv.near in
    record {
      so_far = ap (λ xs. columns_through env p xs old)
          (take_more acts i a c.loop-action-test.true ∙ ap (λ x. take i acts ++ x ∷ []) (sym c.action-item.is)) ∙ columns_more env a p
          (take i acts) old ∙ ap (columns_acted p (change_if_small env a)) inv.so_far ∙ e;
      near = subst (AreNear (2 ^ 120 + (i + 1) * 2 ^ 45)) e
          (nearer (m + 2 ^ 45) (2 ^ 120 + (i + 1) * 2 ^ 45) (columns_acted p (change_if_small env a) c.loop-action.cols) (omega arith)
          near);
    }
