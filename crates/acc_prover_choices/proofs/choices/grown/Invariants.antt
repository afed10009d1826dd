use Rattle.std.proofs.Common.{◌≡◌, drop, []}
use Rattle.acc_base.specs.Computing.{steps}
use Rattle.acc_prover_choices.specs.Walks.{with_targets}
use Rattle.acc_prover_choices.proofs.choices.grown.Given as goal

abbrev pub invariant-loop-so_far : goal.invariant-loop-so_far
invariant-loop-so_far l = steps (with_targets l.targets l.taken.pattern l.taken.news) l.found.items (drop l.so_far-index l.level) ≡ steps
    (with_targets l.targets l.taken.pattern l.taken.news) [] l.level
