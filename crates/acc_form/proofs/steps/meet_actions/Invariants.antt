use Rattle.std.proofs.Common.{◌≡◌, take}
use Rattle.acc_form.specs.Marks.{numbered}
use Rattle.acc_form.specs.Statements.{action_marks}
use Rattle.acc_form.specs.Walks.{after}
use Rattle.acc_form.proofs.steps.meet_actions.Given as goal

abbrev pub invariant-loop-i : goal.invariant-loop-i
invariant-loop-i l = l.walk ≡ after l.initial.walk
    (numbered (action_marks l.around.tables.now l.around.ty.now l.around.is_bare) (take l.i l.actions))
