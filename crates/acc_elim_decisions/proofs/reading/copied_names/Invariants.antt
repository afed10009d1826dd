use Rattle.std.proofs.Common.{◌≡◌, take}
use Rattle.acc_elim_decisions.proofs.reading.copied_names.Given as goal

abbrev pub invariant-loop-name : goal.invariant-loop-name
invariant-loop-name l = l.again.items ≡ take l.name-index l.names
