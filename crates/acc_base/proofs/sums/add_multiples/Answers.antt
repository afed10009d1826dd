use Rattle.std.proofs.Common.{rules, arith, refl, sym, ◌∙◌, ◌≤◌, length, ap}
use Rattle.std.specs.Prelude.{FitsSigned}
use Rattle.std.specs.Int.{w128}
use Rattle.std.proofs.lemmas.Int.{to_z-of_z}
use Rattle.acc_base.proofs.HandedOn.{handed_on}
use Rattle.acc_base.specs.Sums.{multiples_wide}
use Rattle.acc_base.proofs.SumLoops.{wide_here, multiples_step, wide_step, terms_end, wide_end}
use Rattle.acc_base.proofs.sums.add_multiples.Goals as goal

pub loop-unknown-preserved : goal.loop-unknown-preserved
loop-unknown-preserved c =
    let term = c.loop-unknown-item.result in
    let fits : FitsSigned w128 term.1 = search rules in
    let number = to_z-of_z w128 term.1 fits in
    let before = c.loop-unknown.invariant in
    let added = c.in_ok-add_multiple.ensures in
    record {
      value = multiples_step c.args.terms.now c.loop-unknown.unknown-index term c.loop-unknown-test.true c.loop-unknown-item.is _ _ _ refl
          number c.loop-unknown.sums c.add_multiple.new.sums added.value ∙ before.value;
      wide = wide_step c.args.terms.now c.loop-unknown.unknown-index term c.loop-unknown-test.true c.loop-unknown-item.is _ _ _ refl
          number c.loop-unknown.sums c.add_multiple.new.sums added.value added.wide ∙ before.wide;
    }

pub returns-in_err-add_multiple-clause-wide : goal.returns-in_err-add_multiple-clause-wide
returns-in_err-add_multiple-clause-wide c =
    let term = c.loop-unknown-item.result in
    let fits : FitsSigned w128 term.1 = search rules in
    let number = to_z-of_z w128 term.1 fits in
    let same = to_z-of_z w128 c.args.by c.ranges.by in
    handed_on _ (Unit {0}) _ _ _ _ c.from_residual.ensures.1 (λ h. ap (λ z. multiples_wide z c.args.sums.now c.args.terms.now) (sym same)
    ∙ (sym c.loop-unknown.invariant.wide
    ∙ wide_here c.args.terms.now c.loop-unknown.unknown-index term c.loop-unknown-test.true c.loop-unknown-item.is _ _ _ refl number
    c.loop-unknown.sums h)) c.in_err-add_multiple.ensures.wide

pub returns-clause-value : goal.returns-clause-value
returns-clause-value c =
    let past : length c.args.terms.now ≤ c.loop-unknown.unknown-index = omega arith in
    terms_end c.args.terms.now c.loop-unknown.unknown-index past _ _
    (to_z-of_z w128 c.args.by c.ranges.by) c.args.sums.now c.loop-unknown.sums c.loop-unknown.invariant.value

pub returns-clause-wide : goal.returns-clause-wide
returns-clause-wide c =
    let past : length c.args.terms.now ≤ c.loop-unknown.unknown-index = omega arith in
    wide_end c.args.terms.now c.loop-unknown.unknown-index past _ _
    (to_z-of_z w128 c.args.by c.ranges.by) c.args.sums.now c.loop-unknown.sums c.loop-unknown.invariant.wide
