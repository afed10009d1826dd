use Rattle.std.proofs.Common.{◌≡◌}
use Rattle.acc_cases_lock_states.proofs.states.push_items.Given as goal

abbrev pub invariant-loop-item : goal.invariant-loop-item
invariant-loop-item l =
    (goal.iterator-loop-item).can_next l.item-iterator
    × (goal.iterator-loop-item).is_finite l.item-iterator
    × (l.state.design ≡ l.design)
