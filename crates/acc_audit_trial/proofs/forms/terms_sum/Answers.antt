use Rattle.std.proofs.Common.{rules, ◌≤◌, ◌+◌, length, map, drop, arith, ap, sym, ◌∙◌}
use Rattle.std.specs.Prelude.{FitsSigned}
use Rattle.std.specs.Int.{w128}
use Rattle.std.proofs.lemmas.Int.{to_z-of_z}
use Rattle.acc_audit_trial.specs.Worths.{term_worth, summed}
use Rattle.acc_audit_trial.proofs.Loops.{summed_more, summed_none, summed_end}
use Rattle.acc_audit_trial.proofs.forms.terms_sum.Goals as goal

pub loop-term-preserved : goal.loop-term-preserved
loop-term-preserved g c =
    let worth = term_worth (g.S.Store.rows c.args.s.now) c.args.values.now in
    let fits : FitsSigned w128 c.in-Some.more = search rules in
    ap (λ n. summed n (map worth (drop (c.loop-term.term-index + 1) c.args.terms.now))) (to_z-of_z w128 c.in-Some.more fits)
    ∙ summed_more (term_worth (g.S.Store.rows c.args.s.now) c.args.values.now) c.args.terms.now c.loop-term.term-index c.term-item.result
    c.term-item.result c.loop-term-test.true c.term-item.is _ _ c.with_term.result c.with_term.ensures c.in-Some.is
    ∙ c.loop-term.invariant

pub returns-in-None : goal.returns-in-None
returns-in-None g c =
    sym (sym c.loop-term.invariant ∙ summed_none (term_worth (g.S.Store.rows c.args.s.now) c.args.values.now) c.args.terms.now
    c.loop-term.term-index c.term-item.result c.term-item.result c.loop-term-test.true c.term-item.is _ c.with_term.result
    c.with_term.ensures c.in-None.is)

pub returns : goal.returns
returns g c =
    let past : length c.args.terms.now ≤ c.loop-term.term-index = omega arith in
    sym (summed_end (term_worth (g.S.Store.rows c.args.s.now) c.args.values.now) c.args.terms.now _ c.loop-term.term-index past)
    ∙ c.loop-term.invariant
