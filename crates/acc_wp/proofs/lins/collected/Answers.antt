use Rattle.std.proofs.Common.{◌∙◌}
use Rattle.acc_base.proofs.HandedOn.{handed_on}
use Rattle.acc_preconditions.proofs.CoefficientLoops.{first_long, second_long, collected_is}
use Rattle.acc_wp.proofs.lins.collected.Goals as goal

pub returns-in_err-add_coefficients-clause-wide : goal.returns-in_err-add_coefficients-clause-wide
returns-in_err-add_coefficients-clause-wide c =
    handed_on _ (Unit {0}) _ _ _ _ c.from_residual.ensures.1
    (first_long c.args.a.now c.args.b.now _ _ c.new-sums.ensures.items c.as_slice.ensures) c.in_err-add_coefficients.ensures.wide

pub returns-in_err-take_coefficients-clause-wide : goal.returns-in_err-take_coefficients-clause-wide
returns-in_err-take_coefficients-clause-wide c =
    handed_on _ (Unit {0}) _ _ _ _ c.from_residual-in_err-take_coefficients.ensures.1
    (λ h. second_long c.args.a.now c.args.b.now _ _ c.new-sums.ensures.items c.as_slice.ensures _ _
    c.in_ok-add_coefficients.ensures.value c.as_slice-2.ensures c.in_ok-add_coefficients.ensures.wide ∙ h)
    c.in_err-take_coefficients.ensures.wide

pub returns-clause-value : goal.returns-clause-value
returns-clause-value c =
    collected_is c.args.a.now c.args.b.now _ _ c.new-sums.ensures.items c.as_slice.ensures _ _ c.in_ok-add_coefficients.ensures.value
    c.as_slice-2.ensures _ c.in_ok-take_coefficients.ensures.value

pub returns-clause-wide : goal.returns-clause-wide
returns-clause-wide c =
    second_long c.args.a.now c.args.b.now _ _ c.new-sums.ensures.items c.as_slice.ensures _ _ c.in_ok-add_coefficients.ensures.value
    c.as_slice-2.ensures c.in_ok-add_coefficients.ensures.wide ∙ c.in_ok-take_coefficients.ensures.wide
