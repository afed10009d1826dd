use Rattle.std.proofs.Common.{◌≡◌, length, take}
use Rattle.std.specs.Prelude.{All, ◌≤ℤ◌}
use Rattle.acc_store.specs.Places.{top}
use Rattle.acc_store.proofs.places.filled.Given as goal

-- the parts that were gone over
abbrev pub invariant-loop-i : goal.invariant-loop-i
invariant-loop-i l =
    record {
      first : take l.i l.parts ≡ take l.i l.key;
      parts : All (λ x. x ≤ℤ top) (take l.i l.key);
      room : length l.parts ≡ 6;
    }
