use Rattle.std.proofs.Common.{rules, ◌≡◌, ◌∙◌, ap, ◌+ℤ◌}
use Rattle.std.specs.Prelude.{FitsSigned}
use Rattle.std.specs.Int.{w128}
use Rattle.std.proofs.lemmas.Int.{to_z-of_z}
use Rattle.acc_base.specs.Collecting.{sum_of, with_sum}
use Rattle.acc_base.specs.UnknownEquality.{unknown_eq}
use Rattle.acc_base.proofs.CollectedPlaces.{sum_grown}
use Rattle.acc_base.proofs.sums.add_term.Goals as goal

pub returns-clause-value : goal.returns-clause-value
returns-clause-value c =
    let unknown = c.args.unknown.now in
    let sums = c.args.sums.now in
    let sum : c.in_ok-sum.sum ≡ sum_of unknown_eq unknown sums +ℤ c.args.n = search rules in
    let fits : FitsSigned w128 c.in_ok-sum.sum = search rules in
    let same = to_z-of_z w128 c.in_ok-sum.sum fits in
    c.in_ok-put.ensures ∙ (ap (λ z. with_sum unknown_eq unknown z sums) (same ∙ sum) ∙ sum_grown unknown_eq unknown c.args.n sums)
