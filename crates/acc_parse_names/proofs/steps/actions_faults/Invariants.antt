use Rattle.std.proofs.Common.{◌≡◌, ◌++◌, map, drop}
use Rattle.acc_parse_names.specs.Views.{scope_in}
use Rattle.acc_parse_names.specs.Faults.{action_fault}
use Rattle.acc_parse_names.proofs.steps.actions_faults.Given as goal

-- what is written, with what is left to write, is all of it
abbrev pub invariant-loop-action : goal.invariant-loop-action
invariant-loop-action l = l.faults.items ++ map (action_fault (scope_in l.definitions)) (drop l.action-index l.actions) ≡ l.fn.faults.items
    ++ map (action_fault (scope_in l.definitions)) l.actions
