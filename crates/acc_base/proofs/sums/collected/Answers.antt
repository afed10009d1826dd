use Rattle.std.proofs.Common.{◌∙◌}
use Rattle.std.specs.Int.{w128}
use Rattle.std.proofs.lemmas.Int.{to_z-of_z}
use Rattle.acc_base.proofs.HandedOn.{handed_on}
use Rattle.acc_base.proofs.SumLoops.{first_wide_is, second_wide_is, collected_is}
use Rattle.acc_base.proofs.sums.collected.Goals as goal

pub returns-in_err-add_terms-clause-wide : goal.returns-in_err-add_terms-clause-wide
returns-in_err-add_terms-clause-wide c =
    handed_on _ (Unit {0}) _ _ _ _ c.from_residual.ensures.1
    (first_wide_is c.args.form.now c.args.by c.args.other.now _ _ c.new-sums.ensures c.as_slice.ensures) c.in_err-add_terms.ensures.wide

pub returns-in_err-add_multiples-clause-wide : goal.returns-in_err-add_multiples-clause-wide
returns-in_err-add_multiples-clause-wide c =
    handed_on _ (Unit {0}) _ _ _ _ c.from_residual-in_err-add_multiples.ensures.1
    (λ h. second_wide_is c.args.form.now c.args.by c.args.other.now _ _ c.new-sums.ensures c.as_slice.ensures _ _ _
    c.in_ok-add_terms.ensures.value c.as_slice-2.ensures (to_z-of_z w128 c.args.by c.ranges.by) c.in_ok-add_terms.ensures.wide
    ∙ h) c.in_err-add_multiples.ensures.wide

pub returns-clause-value : goal.returns-clause-value
returns-clause-value c =
    collected_is c.args.form.now c.args.by c.args.other.now _ _ c.new-sums.ensures c.as_slice.ensures _ _ _
    c.in_ok-add_terms.ensures.value c.as_slice-2.ensures (to_z-of_z w128 c.args.by c.ranges.by) _ c.in_ok-add_multiples.ensures.value

pub returns-clause-wide : goal.returns-clause-wide
returns-clause-wide c =
    second_wide_is c.args.form.now c.args.by c.args.other.now _ _ c.new-sums.ensures c.as_slice.ensures _ _ _
    c.in_ok-add_terms.ensures.value c.as_slice-2.ensures (to_z-of_z w128 c.args.by c.ranges.by) c.in_ok-add_terms.ensures.wide
    ∙ c.in_ok-add_multiples.ensures.wide
