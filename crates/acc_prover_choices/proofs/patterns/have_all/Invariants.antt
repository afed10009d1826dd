use Rattle.std.proofs.Common.{◌≡◌, true}
use Rattle.acc_prover_choices.specs.Choices.{have_all}
use Rattle.acc_prover_choices.specs.Walks.{patterns_in}
use Rattle.acc_prover_choices.proofs.patterns.have_all.Given as goal

abbrev pub invariant-loop-i : goal.invariant-loop-i
invariant-loop-i l = have_all l.i (patterns_in l.taken) ≡ true
