use Rattle.std.proofs.Common.{take}
use Rattle.acc_lock_holders.specs.Entries.{IsSame, KeepsRoom, HaveRoom}
use Rattle.acc_lock_holders.proofs.maps.make_room_each.Given as goal

abbrev pub invariant-loop-key : goal.invariant-loop-key
invariant-loop-key l =
    record {
      same : IsSame l.fn.holders.entries l.holders.entries;
      room : HaveRoom l.holders.entries (take l.key-index l.keys);
      kept : KeepsRoom l.fn.holders.entries l.holders.entries;
    }
