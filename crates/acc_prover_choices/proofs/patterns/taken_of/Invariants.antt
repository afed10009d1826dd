use Rattle.std.proofs.Common.{◌≡◌, drop, []}
use Rattle.std.specs.List.{fold}
use Rattle.acc_prover_choices.specs.Walks.{take_pattern}
use Rattle.acc_prover_choices.proofs.patterns.taken_of.Given as goal

abbrev pub invariant-loop-pattern : goal.invariant-loop-pattern
invariant-loop-pattern l = fold take_pattern l.taken.items (drop l.pattern-index l.patterns) ≡ fold take_pattern [] l.patterns
