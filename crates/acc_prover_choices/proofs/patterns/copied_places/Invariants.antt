use Rattle.std.proofs.Common.{◌≡◌, take}
use Rattle.acc_prover_choices.proofs.patterns.copied_places.Given as goal

abbrev pub invariant-loop-place : goal.invariant-loop-place
invariant-loop-place l = l.again ≡ take l.place-index l.places
