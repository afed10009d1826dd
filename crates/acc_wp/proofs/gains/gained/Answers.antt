use Rattle.std.proofs.Common.{sym, ◌∙◌}
use Rattle.acc_base.proofs.HandedOn.{handed_on}
use Rattle.acc_wp.proofs.GainLoops.{gains_here, gains_step, gains_wide_step}
use Rattle.acc_wp.proofs.gains.gained.Goals as goal

pub loop-term-preserved : goal.loop-term-preserved
loop-term-preserved c =
    let terms = c.as_slice-term-items.result.now in
    let g = c.loop-term.gained in
    let before = c.loop-term.invariant in
    let added = c.in_ok-add_gains.ensures in
    record {
      items = before.items;
      value = gains_step c.args.action.now terms c.loop-term.term-index _ c.loop-term-test.true c.term-item.is g _ added.value
          ∙ before.value;
      wide = gains_wide_step c.args.action.now terms c.loop-term.term-index _ c.loop-term-test.true c.term-item.is g added.wide _ added.value
          ∙ before.wide;
    }

pub returns-in_err-add_gains-clause-wide : goal.returns-in_err-add_gains-clause-wide
returns-in_err-add_gains-clause-wide c =
    handed_on _ (Unit {0}) _ _ _ _ c.from_residual.ensures.1
    (λ h. sym c.loop-term.invariant.wide ∙ gains_here c.args.action.now c.as_slice-term-items.result.now c.loop-term.term-index _
    c.loop-term-test.true c.term-item.is c.loop-term.gained h)
    c.in_err-add_gains.ensures.wide
