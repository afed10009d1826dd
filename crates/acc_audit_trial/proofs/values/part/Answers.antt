use Rattle.std.proofs.Common.{rules, sym, ap, ◌∙◌}
use Rattle.std.specs.Prelude.{FitsSigned}
use Rattle.std.specs.Int.{w128}
use Rattle.std.proofs.lemmas.Int.{to_z-of_z}
use Rattle.acc_step.specs.InRange.{if_small}
use Rattle.acc_audit_trial.proofs.Truths.{lin_is}
use Rattle.acc_audit_trial.proofs.values.part.Goals as goal

pub returns-in-Some : goal.returns-in-Some
returns-in-Some c =
    let fits : FitsSigned w128 c.in-Some.v = search rules in
    c.in_range.ensures
    ∙ ap if_small
    (to_z-of_z w128 c.in-Some.v fits ∙ lin_is c.args.values.now c.args.l.now c.in-Some.v (sym c.linear.ensures ∙ c.in-Some.is))
