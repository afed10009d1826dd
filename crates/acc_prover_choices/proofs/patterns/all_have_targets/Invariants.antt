use Rattle.std.proofs.Common.{◌≡◌, drop}
use Rattle.std.specs.List.{list_all}
use Rattle.acc_prover_choices.specs.Walks.{patterns_in, has_targets}
use Rattle.acc_prover_choices.proofs.patterns.all_have_targets.Given as goal

abbrev pub invariant-loop-one : goal.invariant-loop-one
invariant-loop-one l = list_all (has_targets l.targets) (patterns_in (drop l.one-index l.taken)) ≡ list_all (has_targets l.targets)
    (patterns_in l.taken)
