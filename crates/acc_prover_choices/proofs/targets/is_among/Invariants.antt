use Rattle.std.proofs.Common.{◌≡◌, drop}
use Rattle.std.specs.List.{list_any}
use Rattle.acc_prover_choices.specs.Targets.{same_target}
use Rattle.acc_prover_choices.proofs.targets.is_among.Given as goal

abbrev pub invariant-loop-other : goal.invariant-loop-other
invariant-loop-other l = list_any (same_target l.target) (drop l.other-index l.targets) ≡ list_any (same_target l.target) l.targets
