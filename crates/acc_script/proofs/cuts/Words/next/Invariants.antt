-- The words that are left stay the same while empty pieces go.
use Rattle.std.proofs.Common.{◌≡◌, length}
use Rattle.acc_script.specs.Pieces.{words_in}
use Rattle.acc_script.proofs.cuts.Words.next.Given as goal

abbrev pub invariant-loop-piece : goal.invariant-loop-piece
invariant-loop-piece l = words_in l.self-inside.pieces ≡ words_in l.initial.self-inside.pieces

abbrev pub decreases-loop-piece : goal.decreases-loop-piece
decreases-loop-piece l = length l.self-inside.pieces
