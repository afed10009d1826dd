-- What is written so far, and then the actions that are left, is all of it.
use Rattle.acc_page.specs.Written.{Owes}
use Rattle.std.proofs.Common.{drop}
use Rattle.std.specs.List.{flat_map}
use Rattle.acc_print.specs.Steps.{action_line}
use Rattle.acc_print.proofs.steps.push_actions.Given as goal

abbrev pub invariant-loop-action : goal.invariant-loop-action
invariant-loop-action l =
    Owes l.fn.out l.out (flat_map (action_line l.scope) (drop l.action-index l.actions)) (flat_map (action_line l.scope) (l.actions))
