use Rattle.std.proofs.Common.{◌≡◌, take}
use Rattle.acc_prover_candidates.proofs.copies.copied_numbers.Given as goal

abbrev pub invariant-loop-n : goal.invariant-loop-n
invariant-loop-n l =
    l.again.items ≡ take l.n-index l.numbers
