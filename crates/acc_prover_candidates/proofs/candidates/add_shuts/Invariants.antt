use Rattle.std.proofs.Common.{◌≡◌, drop}
use Rattle.std.specs.List.{fold}
use Rattle.acc_prover_candidates.specs.Candidates.{with_shut}
use Rattle.acc_prover_candidates.proofs.candidates.add_shuts.Given as goal

abbrev pub invariant-loop-value : goal.invariant-loop-value
invariant-loop-value l =
    fold (with_shut l.u) (l.n, l.found.items) (drop l._value-index l.u.under) ≡ fold (with_shut l.u) (0, l.fn.found.items) l.u.under
