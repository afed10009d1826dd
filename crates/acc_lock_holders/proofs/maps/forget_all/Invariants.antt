use Rattle.std.proofs.Common.{take}
use Rattle.acc_lock_holders.specs.Entries.{IsSame, HaveNoBlank}
use Rattle.acc_lock_holders.proofs.maps.forget_all.Given as goal

abbrev pub invariant-loop-key : goal.invariant-loop-key
invariant-loop-key l =
    record {
      same : IsSame l.fn.holders.entries l.holders.entries;
      gone : HaveNoBlank l.holders.entries (take l.key-index l.keys);
    }
