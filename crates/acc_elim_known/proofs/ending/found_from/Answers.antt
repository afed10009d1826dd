use Rattle.std.proofs.Common.{sym, ap, ◌∙◌}
use Rattle.std.specs.Prelude.{reverse}
use Rattle.acc_base.specs.Computing.{steps}
use Rattle.acc_rows.proofs.Chains.{answers_along}
use Rattle.acc_elim_points.specs.Points.{placed}
use Rattle.acc_elim_known.specs.Ends.{placed_at}
use Rattle.acc_elim_known.proofs.Ended.{found_to}
use Rattle.acc_elim_known.proofs.ending.found_from.Goals as goal

pub returns : goal.returns
returns c =
    let bounded = c.in_ok-bounds.field-0 in
    let bounds = c.as_slice.ensures in
    let point = (λ i. steps placed (sym c.in_ok-zeros.ensures i) (reverse (sym bounds i))) ∙ c.in_ok-point.ensures in
    answers_along c.place_by_steps.result _ _
    (ap (λ p. steps placed_at p (reverse c.args.walked.now)) c.into_vec.ensures
    ∙ sym (found_to c.args.unknowns c.args.rows c.args.walked.now c.args.left.now bounded c.in_ok-point.point c.in_ok-bounds.ensures point))
    c.place_by_steps.ensures
