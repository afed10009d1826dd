use Rattle.acc_base.specs.declared.forms.Form.{Form}
use Rattle.acc_oblig.specs.Settings.{Setting, step_vars}
use Rattle.acc_oblig.specs.Drafts.{setting_of}
use Rattle.acc_oblig.specs.PointRules.{fall_in}
use Rattle.acc_oblig_clauses.specs.Seen.{seen}
use Rattle.acc_oblig_places.specs.SeenPlaces.{path_place}
use Rattle.acc_oblig_points.specs.Bounds.{is_fall_wide}
use Rattle.acc_oblig_points.proofs.Assembled.{fall_added, fall_wide, clause_refused}
use Rattle.acc_oblig_points.proofs.variants.add_fall.Goals as goal

pub returns : goal.returns
returns c =
    let q = path_place c.args.q.now in
    let s : Setting = setting_of c.args.d.now q.x q.p q.step q.w.path q.path in
    fall_added c.add_goal.result c.args.out.now c.add_goal.new.out (seen c.path_setting-s.result) s q.w q.p.variant
    c.args.target.now.variant
    c.path_origin-origin.result c.step_vars-vars.result c.in_ok-step_hyps.field-0 c.in_ok-path_rels.field-0 c.in_ok-goal.goal
    c.path_origin-origin.ensures c.path_setting-s.ensures.seen c.step_vars-vars.ensures c.in_ok-step_hyps.ensures c.in_ok-path_rels.ensures
    c.in_ok-goal.ensures.goal c.in_ok-goal.ensures.wide c.add_goal.ensures

pub returns-in_err-goal : goal.returns-in_err-goal
returns-in_err-goal c =
    let q = path_place c.args.q.now in
    let s : Setting = setting_of c.args.d.now q.x q.p q.step q.w.path q.path in
    let behind = c.args.target.now.variant in
    clause_refused Form _ _ c.path_origin-origin.result (is_fall_wide (seen c.path_setting-s.result) q.p.variant behind) _ _
    (fall_in s q.w q.p.variant behind (step_vars s)) c.from_residual.ensures.1
    (fall_wide (seen c.path_setting-s.result) s q.w q.p.variant behind c.path_origin-origin.result c.path_setting-s.ensures.seen
    c.path_origin-origin.ensures) c.in_err-goal.ensures.wide
