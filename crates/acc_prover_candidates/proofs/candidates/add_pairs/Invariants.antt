use Rattle.std.proofs.Common.{◌≡◌, drop}
use Rattle.std.specs.List.{fold}
use Rattle.acc_prover_candidates.specs.Candidates.{with_same}
use Rattle.acc_prover_candidates.proofs.candidates.add_pairs.Given as goal

abbrev pub invariant-loop-v : goal.invariant-loop-v
invariant-loop-v l =
    fold (with_same l.u) l.found.items (drop l.v-index l.later) ≡ fold (with_same l.u) l.fn.found.items l.later
