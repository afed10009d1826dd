use Rattle.std.proofs.Common.{◌∙◌, ◌+◌, ap, drop, rules}
use Rattle.std.specs.Prelude.{FitsSigned}
use Rattle.std.specs.Int.{w128}
use Rattle.std.proofs.lemmas.Int.{to_z-of_z}
use Rattle.acc_base.specs.Computing.{steps}
use Rattle.acc_elim_readings.specs.Readings.{read_number}
use Rattle.acc_rows.proofs.Chains.{step_on}
use Rattle.acc_elim_readings.proofs.readings.read_numbers.Goals as goal

pub loop-term-preserved : goal.loop-term-preserved
loop-term-preserved c =
    let i = c.loop-term.term-index in
    let terms = c.args.terms.now in
    let fits : FitsSigned w128 c.in_ok-constant.constant = search rules in
    ap (λ k. steps read_number k (drop (i + 1) terms)) (to_z-of_z w128 c.in_ok-constant.constant fits)
    ∙ (step_on read_number terms i _ _ _ c.loop-term-test.true c.term-item.is c.in_ok-constant.ensures ∙ c.loop-term.invariant)
