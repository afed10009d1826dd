use Rattle.std.proofs.Common.{◌≡◌, drop}
use Rattle.acc_lock_holders.specs.Keys.{Key}
use Rattle.acc_lock_holders.specs.Numbers.{with_number}
use Rattle.acc_lock_holders.specs.Entries.{under, CanTakeAll, changed_all}
use Rattle.acc_lock_holders.proofs.maps.add_to_all.Given as goal

abbrev pub invariant-loop-key : goal.invariant-loop-key
invariant-loop-key l =
    record {
      added : (k : Key) → changed_all (with_number l.t) (drop l.key-index l.keys) k (under k l.holders.entries)
          ≡ changed_all (with_number l.t) l.keys k (under k l.fn.holders.entries);
      others : CanTakeAll l.t l.fn.holders.entries l.holders.entries;
    }
