use Rattle.std.proofs.Common.{ℕ, List, ap, ◌∙◌}
use Rattle.acc_base.specs.declared.forms.Lin.{Lin}
use Rattle.acc_oblig.specs.Naming.{named_lin}
use Rattle.acc_oblig.specs.Relations.{lin_form}
use Rattle.acc_oblig.specs.Settings.{step_naming}
use Rattle.acc_oblig.specs.PointRules.{resting, rest_origin}
use Rattle.acc_oblig_clauses.specs.Seen.{seen}
use Rattle.acc_oblig_points.specs.Bounds.{bound_goal}
use Rattle.acc_oblig_points.proofs.Assembled.{bound_added}
use Rattle.acc_oblig_points.proofs.variants.add_point_bound.Goals as goal

pub returns : goal.returns
returns c =
    let q = c.args.q.now in
    let b = c.args.bound in
    let s = seen c.resting-s.result in
    let l = q.point.now.variant in
    let vars = c.step_vars-vars.result in
    bound_added c.add_goal.result c.args.out.now c.add_goal.new.out b q.at.ty q.at.point s
    (resting c.args.d.now q.ty.now q.point.now.clauses) l
    c.rest_origin.result vars c.in_ok-step_hyps.field-0 c.in_ok-path_rels.field-0 c.in_ok-goal.goal
    (c.rest_origin.ensures ∙ ap (λ k. rest_origin k q.at.ty q.at.point 1) c.clause.ensures)
    (c.resting-s.ensures.seen ∙ ap (resting c.args.d.now q.ty.now) c.as_slice.ensures) c.step_vars-vars.ensures c.in_ok-step_hyps.ensures
    c.in_ok-path_rels.ensures
    (c.in_ok-goal.ensures ∙ ap (λ (z : Lin). bound_goal b (lin_form z))
    (c.in_ok-variant.ensures ∙ ap (λ (ns : List ℕ). named_lin (step_naming s ns vars) l) c.in_ok-now.ensures)) c.add_goal.ensures
