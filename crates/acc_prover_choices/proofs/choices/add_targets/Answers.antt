use Rattle.std.proofs.Common.{◌∙◌}
use Rattle.acc_prover_choices.specs.Walks.{with_target}
use Rattle.acc_prover_choices.proofs.Chains.{step_on, step_stopped, leaves_handed, stopped_along}
use Rattle.acc_prover_choices.proofs.choices.add_targets.Goals as goal

pub returns-in_err-add_target : goal.returns-in_err-add_target
returns-in_err-add_target c =
    leaves_handed _ _ _ _ c.from_residual.ensures.1
    (stopped_along _ _ _ c.loop-target.invariant
    (step_stopped (with_target c.args.pattern.now c.args.news.now c.args.so_far.now) c.args.targets.now c.loop-target.target-index
    c.loop-target.found.items _ _ c.loop-target-test.true c.target-item.is c.in_err-add_target.ensures))

pub loop-target-preserved : goal.loop-target-preserved
loop-target-preserved c =
    step_on (with_target c.args.pattern.now c.args.news.now c.args.so_far.now) c.args.targets.now c.loop-target.target-index c.loop-target.found.items _ _
    c.loop-target-test.true c.target-item.is c.in_ok-add_target.ensures ∙ c.loop-target.invariant
