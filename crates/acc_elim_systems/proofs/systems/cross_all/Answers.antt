use Rattle.std.proofs.Common.{Ok, ap, sym, ◌∙◌}
use Rattle.acc_elim_systems.specs.Systems.{crossed_with}
use Rattle.acc_rows.proofs.Chains.{answers_handed, stopped_along, step_on, step_stopped, steps_over}
use Rattle.acc_elim_systems.proofs.systems.cross_all.Goals as goal

pub loop-up-preserved : goal.loop-up-preserved
loop-up-preserved c =
    step_on (crossed_with c.args.unknown c.args.lows.now) c.args.ups.now c.loop-up.up-index c.loop-up.kept.items c.up-item.result _
    c.loop-up-test.true c.up-item.is c.in_ok-cross_lows.ensures ∙ c.loop-up.invariant

pub returns-in_err-cross_lows : goal.returns-in_err-cross_lows
returns-in_err-cross_lows c =
    answers_handed _ _ _ c.from_residual.ensures.1
    (stopped_along _ _ _ c.loop-up.invariant (step_stopped (crossed_with c.args.unknown c.args.lows.now) c.args.ups.now
    c.loop-up.up-index c.loop-up.kept.items c.up-item.result _ c.loop-up-test.true c.up-item.is c.in_err-cross_lows.ensures))

pub returns : goal.returns
returns c =
    sym c.loop-up.invariant ∙ (steps_over (crossed_with c.args.unknown c.args.lows.now) c.args.ups.now c.loop-up.up-index
    c.loop-up.kept.items c.loop-up-test.false ∙ ap Ok (sym c.from_vec.ensures))
