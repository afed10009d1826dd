use Rattle.std.proofs.Common.{◌≡◌}
use Rattle.acc_cases_lock_states.proofs.begins.spend.Given as goal

abbrev pub invariant-loop : goal.invariant-loop
invariant-loop l = l.state.design ≡ l.fn.state.design
