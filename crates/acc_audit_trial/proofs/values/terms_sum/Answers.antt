use Rattle.std.proofs.Common.{rules, ◌≤◌, ◌+◌, length, map, drop, arith, ap, refl, sym, ◌∙◌, pos}
use Rattle.std.specs.Prelude.{FitsSigned}
use Rattle.std.specs.Int.{w128}
use Rattle.std.proofs.lemmas.Int.{to_z-of_z}
use Rattle.acc_audit_trial.specs.Worths.{near_term, summed}
use Rattle.acc_audit_trial.proofs.Loops.{summed_more, summed_none, summed_end}
use Rattle.acc_audit_trial.proofs.values.terms_sum.Goals as goal

pub loop-term-preserved : goal.loop-term-preserved
loop-term-preserved c =
    let fits : FitsSigned w128 c.in-Some.more = search rules in
    ap (λ n. summed n (map (near_term c.args.values.now) (drop (c.loop-term.term-index + 1) c.args.terms.now)))
    (to_z-of_z w128 c.in-Some.more fits)
    ∙ summed_more (near_term c.args.values.now) c.args.terms.now c.loop-term.term-index _ (0, pos 0) c.loop-term-test.true
    refl _ _ c.with_term.result c.with_term.ensures c.in-Some.is ∙ c.loop-term.invariant

pub returns-in-None : goal.returns-in-None
returns-in-None c =
    sym (sym c.loop-term.invariant ∙ summed_none (near_term c.args.values.now) c.args.terms.now c.loop-term.term-index _ (0, pos 0)
    c.loop-term-test.true refl _ c.with_term.result c.with_term.ensures c.in-None.is)

pub returns : goal.returns
returns c =
    let past : length c.args.terms.now ≤ c.loop-term.term-index = omega arith in
    sym (summed_end (near_term c.args.values.now) c.args.terms.now _ c.loop-term.term-index past) ∙ c.loop-term.invariant
