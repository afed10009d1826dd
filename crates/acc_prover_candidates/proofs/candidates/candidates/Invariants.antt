use Rattle.std.proofs.Common.{◌≡◌, [], length}
use Rattle.acc_prover_candidates.specs.Candidates.{with_all}
use Rattle.acc_prover_candidates.proofs.candidates.candidates.Given as goal

abbrev pub invariant-loop-u : goal.invariant-loop-u
invariant-loop-u l =
    with_all l.names l.kind l.found.items l.left ≡ with_all l.names l.kind [] l.names

abbrev pub decreases-loop-u : goal.decreases-loop-u
decreases-loop-u l = length l.left
