use Rattle.std.proofs.Common.{◌≡◌, drop}
use Rattle.acc_prover_choices.specs.Choices.{is_had}
use Rattle.acc_prover_choices.specs.Walks.{patterns_in}
use Rattle.acc_prover_choices.proofs.patterns.is_had.Given as goal

abbrev pub invariant-loop-one : goal.invariant-loop-one
invariant-loop-one l = is_had (patterns_in (drop l.one-index l.taken)) l.i ≡ is_had (patterns_in l.taken) l.i
