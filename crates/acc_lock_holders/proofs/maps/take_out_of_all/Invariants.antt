use Rattle.std.proofs.Common.{◌≡◌, drop}
use Rattle.acc_lock_holders.specs.Keys.{Key}
use Rattle.acc_lock_holders.specs.Numbers.{without_number}
use Rattle.acc_lock_holders.specs.Entries.{under, KeepsRoom, changed_all}
use Rattle.acc_lock_holders.proofs.maps.take_out_of_all.Given as goal

abbrev pub invariant-loop-key : goal.invariant-loop-key
invariant-loop-key l =
    record {
      taken : (k : Key) → changed_all (without_number l.t) (drop l.key-index l.keys) k (under k l.holders.entries)
          ≡ changed_all (without_number l.t) l.keys k (under k l.fn.holders.entries);
      kept : KeepsRoom l.fn.holders.entries l.holders.entries;
    }
