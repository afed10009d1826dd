use Rattle.std.proofs.Common.{sym, ◌∙◌}
use Rattle.acc_elim_systems.specs.Systems.{crossed_once}
use Rattle.acc_rows.proofs.Chains.{leaves_handed, stopped_along, step_on, step_stopped, steps_over}
use Rattle.acc_elim_systems.proofs.systems.cross_lows.Goals as goal

pub loop-low-preserved : goal.loop-low-preserved
loop-low-preserved c =
    step_on (crossed_once c.args.unknown c.args.up.now) c.args.lows.now c.loop-low.low-index c.loop-low.kept.items c.low-item.result _
    c.loop-low-test.true c.low-item.is c.in_ok-cross.ensures ∙ c.loop-low.invariant

pub returns-in_err-cross : goal.returns-in_err-cross
returns-in_err-cross c =
    leaves_handed _ _ _ _ c.from_residual.ensures.1
    (stopped_along _ _ _ c.loop-low.invariant (step_stopped (crossed_once c.args.unknown c.args.up.now) c.args.lows.now
    c.loop-low.low-index c.loop-low.kept.items c.low-item.result _ c.loop-low-test.true c.low-item.is c.in_err-cross.ensures))

pub returns : goal.returns
returns c =
    sym c.loop-low.invariant ∙ steps_over (crossed_once c.args.unknown c.args.up.now) c.args.lows.now c.loop-low.low-index
    c.loop-low.kept.items c.loop-low-test.false
