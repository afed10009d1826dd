use Rattle.std.proofs.Common.{◌≡◌, ◌-◌, length, take}
use Rattle.acc_preconditions.specs.Preconditions.{before_actions, are_actions_wide}
use Rattle.acc_wp.proofs.preconditions.before_actions.Given as goal

abbrev pub invariant-loop-action : goal.invariant-loop-action
invariant-loop-action l =
    record {
      can : (goal.iterator-loop-action).can_next l.action-iterator;
      finite : (goal.iterator-loop-action).is_finite l.action-iterator;
      value : before_actions (take (length l.actions - length l.yielded) l.actions) l.before ≡ before_actions l.actions l.form;
      wide : are_actions_wide (take (length l.actions - length l.yielded) l.actions) l.before ≡ are_actions_wide l.actions l.form;
    }
