use Rattle.std.proofs.Common.{◌≡◌, drop}
use Rattle.std.specs.List.{list_all}
use Rattle.acc_prover_choices.specs.Choices.{is_there}
use Rattle.acc_prover_choices.proofs.patterns.all_there.Given as goal

abbrev pub invariant-loop-place : goal.invariant-loop-place
invariant-loop-place l = list_all is_there (drop l.place-index l.places) ≡ list_all is_there l.places
