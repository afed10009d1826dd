use Rattle.std.proofs.Common.{◌≡◌, []}
use Rattle.acc_prover_choices.specs.Choices.{values_in}
use Rattle.acc_prover_choices.proofs.values.nothings.Given as goal

abbrev pub invariant-loop : goal.invariant-loop
invariant-loop l = l.values ≡ values_in l.counter []
