use Rattle.std.proofs.Common.{◌≡◌, ◌+◌, ◌++◌, ℕ, [], Some}
use Rattle.std.specs.Prelude.{map, replicate}
use Rattle.std.specs.List.{range_with_len}
use Rattle.acc_settling.proofs.finishing.worked_board.Given as goal

abbrev pub invariant-loop-at : goal.invariant-loop-at
invariant-loop-at l = record {
  numbers : l.board.numbers.items ≡ map (λ (n : ℕ). Some n) (range_with_len (l.before + 1) l.at);
  places : l.board.places.items ≡ replicate l.before 0 ++ range_with_len 1 l.at;
  text : l.board.text.items ≡ [];
}
