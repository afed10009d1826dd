use Rattle.std.proofs.Common.{◌≡◌, ◌++◌}
use Rattle.acc_audit_ranges.proofs.values.listed.Given as goal

abbrev pub invariant-loop-x : goal.invariant-loop-x
invariant-loop-x l = l.list.items ++ l.x-iterator ≡ l.fn.values.keys
