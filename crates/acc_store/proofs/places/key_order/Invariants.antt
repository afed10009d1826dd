use Rattle.std.proofs.Common.{◌≡◌, ◌≤◌, length, drop, min}
use Rattle.std.specs.Ordering.{int_cmp}
use Rattle.std.specs.Cmp.Lexicographic.{slice_cmp}
use Rattle.acc_store.proofs.places.key_order.Given as goal

-- the parts from i on compare as the keys do
abbrev pub invariant-loop-i : goal.invariant-loop-i
invariant-loop-i l =
    record {
      end : l.i-end ≡ min (length l.a) (length l.b);
      within : l.i ≤ l.i-end;
      rest : slice_cmp int_cmp (drop l.i l.a) (drop l.i l.b) ≡ slice_cmp int_cmp l.a l.b;
    }
