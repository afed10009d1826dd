use Rattle.std.proofs.Common.{◌≡◌, drop}
use Rattle.std.specs.List.{fold}
use Rattle.acc_prover_candidates.specs.Candidates.{with_next_front}
use Rattle.acc_prover_candidates.proofs.candidates.add_key_fronts.Given as goal

abbrev pub invariant-loop-part : goal.invariant-loop-part
invariant-loop-part l =
    fold (with_next_front l.names l.t l.k) (l.n, l.found.items) (drop l._part-index l.k)
    ≡ fold (with_next_front l.names l.t l.k) (0, l.fn.found.items) l.k
