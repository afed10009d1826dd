use Rattle.acc_form.specs.Statements.{action_marks}
use Rattle.acc_form.proofs.Numbered.{numbered_next}
use Rattle.acc_form.proofs.steps.meet_actions.Goals as goal

pub loop-i-preserved : goal.loop-i-preserved
loop-i-preserved c =
    numbered_next (action_marks c.args.around.now.tables.now c.args.around.now.ty.now c.args.around.now.is_bare) c.args.actions.now
    c.loop-i.i _ _ _ _ c.loop-i.invariant c.meet_action.ensures c.loop-i-test.true c.index-actions-i.is
