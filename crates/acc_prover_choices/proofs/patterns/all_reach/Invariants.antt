use Rattle.std.proofs.Common.{◌≡◌, drop}
use Rattle.std.specs.List.{list_all}
use Rattle.acc_prover_choices.specs.Choices.{reaches}
use Rattle.acc_prover_choices.proofs.patterns.all_reach.Given as goal

abbrev pub invariant-loop-place : goal.invariant-loop-place
invariant-loop-place l = list_all (reaches l.len) (drop l.place-index l.places) ≡ list_all (reaches l.len) l.places
