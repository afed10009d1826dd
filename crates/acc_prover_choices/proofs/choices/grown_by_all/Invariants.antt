use Rattle.std.proofs.Common.{◌≡◌, drop}
use Rattle.acc_base.specs.Computing.{steps}
use Rattle.acc_prover_choices.specs.Walks.{grow}
use Rattle.acc_prover_choices.proofs.choices.grown_by_all.Given as goal

abbrev pub invariant-loop-one : goal.invariant-loop-one
invariant-loop-one l = steps (grow l.targets) l.level (drop l.one-index l.taken) ≡ steps (grow l.targets) l.initial.level l.taken
