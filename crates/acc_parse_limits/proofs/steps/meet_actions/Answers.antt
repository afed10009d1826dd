use Rattle.acc_base.specs.declared.limits.Limit.TheVariants as limit
use Rattle.acc_parse_limits.specs.Statements.{action_marks}
use Rattle.acc_parse_limits.proofs.Limited.{limited_next}
use Rattle.acc_parse_limits.proofs.steps.meet_actions.Goals as goal

pub loop-i-preserved : goal.loop-i-preserved
loop-i-preserved c =
    limited_next limit.Actions 16 action_marks c.args.actions.now c.loop-i.i _ _ _ _ _ c.loop-i.invariant c.pass_if.ensures
    c.meet_action.ensures c.loop-i-test.true c.index-actions-i.is
