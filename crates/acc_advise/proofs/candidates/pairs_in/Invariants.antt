use Rattle.std.proofs.Common.{◌≡◌, ◌++◌, drop}
use Rattle.acc_oblig.specs.Drafts.{each_from, each}
use Rattle.acc_advise.specs.Candidates.{pair_of, pairs_in}
use Rattle.acc_advise.proofs.candidates.pairs_in.Given as goal

abbrev pub invariant-loop-i : goal.invariant-loop-i
invariant-loop-i l =
    l.out ++ each_from l.i (λ i name. each (pair_of l.types l.question i name) l.step) (drop l.i l.held)
    ≡ pairs_in l.types l.question l.held l.step
