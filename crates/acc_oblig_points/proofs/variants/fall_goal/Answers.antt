use Rattle.std.proofs.Common.{rules, ◌∙◌}
use Rattle.std.specs.Prelude.{FitsSigned}
use Rattle.std.specs.Int.{w128}
use Rattle.std.proofs.lemmas.Int.{to_z-of_z}
use Rattle.acc_oblig_points.proofs.variants.fall_goal.Goals as goal

pub returns-in-Ok-clause-goal : goal.returns-in-Ok-clause-goal
returns-in-Ok-clause-goal c =
    let number = c.less_by_one.result in
    let fits : FitsSigned w128 number = search rules in
    let same = to_z-of_z w128 number fits in
    c.with_constant.ensures
    ∙ (λ i. record { terms = (c.in-Ok.ensures.value i).terms; constant = (same ∙ c.less_by_one.ensures) i })
