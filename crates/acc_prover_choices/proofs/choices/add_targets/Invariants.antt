use Rattle.std.proofs.Common.{◌≡◌, drop}
use Rattle.acc_base.specs.Computing.{steps}
use Rattle.acc_prover_choices.specs.Walks.{with_target}
use Rattle.acc_prover_choices.proofs.choices.add_targets.Given as goal

abbrev pub invariant-loop-target : goal.invariant-loop-target
invariant-loop-target l = steps (with_target l.pattern l.news l.so_far) l.found.items (drop l.target-index l.targets) ≡ steps
    (with_target l.pattern l.news l.so_far) l.fn.found.items l.targets
