use Rattle.std.proofs.Common.{◌≡◌, drop, []}
use Rattle.std.specs.List.{fold}
use Rattle.acc_prover_choices.specs.Walks.{with_value}
use Rattle.acc_prover_choices.proofs.values.values_by.Given as goal

abbrev pub invariant-loop-value : goal.invariant-loop-value
invariant-loop-value l = fold (with_value l.key l.news) l.values (drop l.value-index l.so_far) ≡ fold (with_value l.key l.news) [] l.so_far
