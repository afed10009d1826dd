use Rattle.std.proofs.Common.{◌≡◌, drop, []}
use Rattle.acc_base.specs.Computing.{steps}
use Rattle.acc_prover_choices.specs.Walks.{with_whole}
use Rattle.acc_prover_choices.proofs.choices.by_whole.Given as goal

abbrev pub invariant-loop-pattern : goal.invariant-loop-pattern
invariant-loop-pattern l = steps (with_whole l.targets l.so_far) l.found.items (drop l.pattern-index l.patterns) ≡ steps
    (with_whole l.targets l.so_far) [] l.patterns
