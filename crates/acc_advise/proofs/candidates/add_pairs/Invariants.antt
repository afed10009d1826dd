use Rattle.std.proofs.Common.{◌≡◌, ◌++◌, drop}
use Rattle.acc_oblig.specs.Drafts.{each_from, each}
use Rattle.acc_advise.specs.Candidates.{pair_of}
use Rattle.acc_advise.proofs.candidates.add_pairs.Given as goal

abbrev pub invariant-loop-j : goal.invariant-loop-j
invariant-loop-j l =
    l.out ++ each_from l.j (pair_of l.types l.question l.i l.name) (drop l.j l.step)
    ≡ l.fn.out ++ each (pair_of l.types l.question l.i l.name) l.step
