use Rattle.std.proofs.Common.{◌≡◌, drop, length}
use Rattle.acc_preconditions.specs.Unders.{differences, are_long, lengthened}
use Rattle.acc_wp.proofs.unders.lengthened.Given as goal

abbrev pub invariant-loop-q : goal.invariant-loop-q
invariant-loop-q l =
    record {
      can : (goal.iterator-loop-q).can_next l.q-iterator;
      finite : (goal.iterator-loop-q).is_finite l.q-iterator;
      value : lengthened l.longer (differences (drop (length l.yielded) l.place) (drop (length l.yielded) l.key)) ≡ lengthened l.under
          (differences l.place l.key);
      wide : are_long (drop (length l.yielded) l.place) (drop (length l.yielded) l.key) ≡ are_long l.place l.key;
    }
