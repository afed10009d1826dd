use Rattle.std.proofs.Common.{◌≡◌, drop}
use Rattle.std.specs.List.{list_any}
use Rattle.acc_prover_choices.specs.Choices.{is_whole}
use Rattle.acc_prover_choices.proofs.patterns.any_whole.Given as goal

abbrev pub invariant-loop-pattern : goal.invariant-loop-pattern
invariant-loop-pattern l = list_any is_whole (drop l.pattern-index l.patterns) ≡ list_any is_whole l.patterns
