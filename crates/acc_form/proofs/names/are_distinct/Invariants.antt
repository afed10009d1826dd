use Rattle.std.proofs.Common.{◌≡◌, length}
use Rattle.acc_formed.specs.Names.{are_distinct}
use Rattle.acc_form.proofs.names.are_distinct.Given as goal

-- what is left decides
abbrev pub invariant-loop-name : goal.invariant-loop-name
invariant-loop-name l = are_distinct l.rest ≡ are_distinct l.names

abbrev pub decreases-loop-name : goal.decreases-loop-name
decreases-loop-name l = length l.rest
