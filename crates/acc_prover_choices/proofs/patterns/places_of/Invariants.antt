use Rattle.std.proofs.Common.{◌≡◌}
use Rattle.acc_prover_choices.specs.Choices.{places_of}
use Rattle.acc_prover_choices.proofs.patterns.places_of.Given as goal

abbrev pub invariant-loop-i : goal.invariant-loop-i
invariant-loop-i l = l.places ≡ places_of l.first l.i l.key
