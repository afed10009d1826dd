use Rattle.std.proofs.Common.{◌≡◌, ℕ, List, ap, subst, ◌∙◌}
use Rattle.std.specs.Prelude.{pos, negsuc}
use Rattle.std.proofs.lemmas.Result.{IfOk-weaker}
use Rattle.acc_base.specs.Sums.{form_sum, is_sum_wide}
use Rattle.acc_base.specs.declared.forms.Form.{Form}
use Rattle.acc_base.specs.declared.forms.Lin.{Lin}
use Rattle.acc_oblig.specs.Naming.{named_lin}
use Rattle.acc_oblig.specs.Relations.{lin_form, plus_number}
use Rattle.acc_oblig.specs.Settings.{Setting, first_now, last_now, step_vars, step_naming}
use Rattle.acc_oblig_goals.specs.Causes.{TellsClause}
use Rattle.acc_oblig_clauses.specs.Seen.{seen}
use Rattle.acc_oblig_points.specs.Bounds.{fall_form}
use Rattle.acc_oblig_points.proofs.variants.path_fall.Goals as goal

-- a variant from the values that it was computed from
variant_is :
    (s : Setting) (l now_named : Lin) (ns now : List ℕ) (vars : ℕ) → now_named ≡ named_lin (step_naming s ns vars) l → ns ≡ now →
    vars ≡ step_vars s
    → now_named ≡ named_lin (step_naming s now (step_vars s)) l
variant_is s l now_named ns now vars e en ev =
    e ∙ (ap (λ (z : List ℕ). named_lin (step_naming s z vars) l) en ∙ ap (λ v. named_lin (step_naming s now v) l) ev)

pub returns-clause-goal : goal.returns-clause-goal
returns-clause-goal c =
    let s = seen c.args.s.now in
    let first = variant_is s c.args.before.now c.in_ok-first.first c.in_ok-numbers_from.field-0 (first_now s) c.step_vars-vars.result
    c.in_ok-first.ensures
    c.in_ok-numbers_from.ensures c.step_vars-vars.ensures in
    let last = variant_is s c.args.behind.now c.in_ok-last.last c.in_ok-last_names.field-0 (last_now s) c.step_vars-vars.result
    c.in_ok-last.ensures
    c.in_ok-last_names.ensures c.step_vars-vars.ensures in
    IfOk-weaker c.fall_goal.result
    (λ (f : Form). f ≡ plus_number (form_sum (lin_form c.in_ok-last.last) (negsuc 0) (lin_form c.in_ok-first.first)) (pos 1))
    (λ (f : Form). f ≡ fall_form s c.args.before.now c.args.behind.now)
    (λ f e. e ∙ (λ i. plus_number (form_sum (lin_form (last i)) (negsuc 0) (lin_form (first i))) (pos 1))) c.fall_goal.ensures.goal

pub returns-clause-wide : goal.returns-clause-wide
returns-clause-wide c =
    let s = seen c.args.s.now in
    let first = variant_is s c.args.before.now c.in_ok-first.first c.in_ok-numbers_from.field-0 (first_now s) c.step_vars-vars.result
    c.in_ok-first.ensures
    c.in_ok-numbers_from.ensures c.step_vars-vars.ensures in
    let last = variant_is s c.args.behind.now c.in_ok-last.last c.in_ok-last_names.field-0 (last_now s) c.step_vars-vars.result
    c.in_ok-last.ensures
    c.in_ok-last_names.ensures c.step_vars-vars.ensures in
    subst (TellsClause c.fall_goal.result c.args.origin.now)
    (λ i. is_sum_wide (lin_form (last i)) (negsuc 0) (lin_form (first i))) c.fall_goal.ensures.wide
