use Rattle.std.proofs.Common.{sym, subst}
use Rattle.acc_lock_holders.specs.Entries.{HasRoom}
use Rattle.acc_lock_holders.proofs.Finding.{room_takes}
use Rattle.acc_lock_holders.proofs.maps.add_to_all.Goals as goal

pub add-requires : goal.add-requires
add-requires c =
    let old = c.args.holders.now.entries in
    let key = c.key-item.result in
    record {
      room = c.loop-key.invariant.others key (room_takes old key c.args.t
          (subst (HasRoom old) (sym c.key-item.is) (c.requires.room c.loop-key.key-index key c.loop-key-test.true)));
    }
