use Rattle.std.proofs.Common.{rules, arith, sym, ◌∙◌, ◌≤◌, length}
use Rattle.std.specs.Prelude.{FitsSigned}
use Rattle.std.specs.Int.{w128}
use Rattle.std.proofs.lemmas.Int.{to_z-of_z}
use Rattle.acc_base.proofs.HandedOn.{handed_on}
use Rattle.acc_base.proofs.SumLoops.{term_wide, terms_step, terms_wide_step, added_all, none_wide}
use Rattle.acc_base.proofs.sums.add_terms.Goals as goal

pub loop-unknown-preserved : goal.loop-unknown-preserved
loop-unknown-preserved c =
    let i = c.loop-unknown.unknown-index in
    let terms = c.args.terms.now in
    let term = c.loop-unknown-item.result in
    let fits : FitsSigned w128 term.1 = search rules in
    let number = to_z-of_z w128 term.1 fits in
    let before = c.loop-unknown.invariant in
    let added = c.in_ok-add_term.ensures in
    let within = c.loop-unknown-test.true in
    let here = c.loop-unknown-item.is in
    let sums = c.loop-unknown.sums in
    record {
      value = terms_step terms i term within here _ number sums c.add_term.new.sums added.value ∙ before.value;
      wide = terms_wide_step terms i term within here _ number sums c.add_term.new.sums added.value added.wide ∙ before.wide;
    }

pub returns-in_err-add_term-clause-wide : goal.returns-in_err-add_term-clause-wide
returns-in_err-add_term-clause-wide c =
    let term = c.loop-unknown-item.result in
    let fits : FitsSigned w128 term.1 = search rules in
    let number = to_z-of_z w128 term.1 fits in
    handed_on _ (Unit {0}) _ _ _ _ c.from_residual.ensures.1 (λ h. sym c.loop-unknown.invariant.wide
    ∙ term_wide c.args.terms.now c.loop-unknown.unknown-index term c.loop-unknown-test.true c.loop-unknown-item.is _ number
    c.loop-unknown.sums h) c.in_err-add_term.ensures.wide

pub returns-clause-value : goal.returns-clause-value
returns-clause-value c =
    let past : length c.args.terms.now ≤ c.loop-unknown.unknown-index = omega arith in
    added_all c.args.terms.now c.loop-unknown.unknown-index past c.args.sums.now c.loop-unknown.sums c.loop-unknown.invariant.value

pub returns-clause-wide : goal.returns-clause-wide
returns-clause-wide c =
    let past : length c.args.terms.now ≤ c.loop-unknown.unknown-index = omega arith in
    none_wide c.args.terms.now c.loop-unknown.unknown-index past c.args.sums.now c.loop-unknown.sums c.loop-unknown.invariant.wide
