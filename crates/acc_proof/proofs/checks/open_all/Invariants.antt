use Rattle.std.proofs.Common.{◌≡◌, ◌++◌, map, reverse, length}
use Rattle.acc_proof.specs.Opened.{pending}
use Rattle.acc_proof.proofs.checks.open_all.Given as goal

abbrev pub invariant-loop-added : goal.invariant-loop-added
invariant-loop-added l =
    map (pending l.known) l.branches.items ++ reverse l.stack.items ≡ map (pending l.known) l.fn.branches ++ reverse l.fn.stack.items

abbrev pub decreases-loop-added : goal.decreases-loop-added
decreases-loop-added l = length l.branches.items
