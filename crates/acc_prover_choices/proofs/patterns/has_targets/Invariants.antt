use Rattle.std.proofs.Common.{◌≡◌, drop}
use Rattle.std.specs.List.{list_any}
use Rattle.acc_prover_choices.specs.Choices.{fits}
use Rattle.acc_prover_choices.proofs.patterns.has_targets.Given as goal

abbrev pub invariant-loop-target : goal.invariant-loop-target
invariant-loop-target l = list_any (fits l.pattern) (drop l.target-index l.targets) ≡ list_any (fits l.pattern) l.targets
