-- A call that begins, or can't.
use Rattle.std.proofs.Common.{◌≡◌, ◌-◌, ◌<◌, ℕ, Some, None, Ok, Err, refl}
use Rattle.std.specs.Prelude.{slice_get}
use Rattle.acc_base.specs.declared.machines.Call.{Call}
use Rattle.acc_base.specs.Machine.{World}
use Rattle.acc_lock_rules.specs.Begun.{Begins}
use Rattle.acc_lock_rules.specs.BeginError.TheVariants.{Full, Crowd}
use Rattle.acc_player.specs.Players.{BeginsAt}
use Rattle.acc_player.proofs.Items.{item_is}
use Rattle.acc_lock_rules.specs.LockRules.{with_locks}
use Rattle.acc_lock_rules.proofs.Rooms.{no_room_when_full, no_room_in_a_crowd}
use Rattle.acc_player.specs.Playing.{Playing}

module _ (p : Playing) (place : ℕ) (call : Call) (v : World) (above : 0 < place) (at : slice_get p.calls (place - 1) ≡ Some call) where
  pub begins_so : (t : ℕ) → Begins p.design p.world v call (Ok t) → BeginsAt (with_locks p.design) p.calls place p.world (Some t) v
  begins_so t h = record {
    call = call;
    is_call = item_is place p.calls call above at;
    world = Some v;
    allowed = (h.2, h.1);
    comes = (h.0, refl);
  }

  pub full_so : Begins p.design p.world v call (Err Full) → BeginsAt (with_locks p.design) p.calls place p.world None v
  full_so h = record {
    call = call;
    is_call = item_is place p.calls call above at;
    world = None;
    allowed = no_room_when_full p.world h.1;
    comes = h.0;
  }

  pub crowd_so : Begins p.design p.world v call (Err Crowd) → BeginsAt (with_locks p.design) p.calls place p.world None v
  crowd_so h = record {
    call = call;
    is_call = item_is place p.calls call above at;
    world = None;
    allowed = no_room_in_a_crowd p.world h.2;
    comes = h.0;
  }
