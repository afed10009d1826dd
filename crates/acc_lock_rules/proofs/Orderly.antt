-- The machine with locks goes on in one way, and takes no event or reply back.
use Rattle.std.proofs.Common.{◌≡◌, ℕ, List, Option, Some, None, subst}
use Rattle.std.proofs.lemmas.Option.{none-some, same_Some}
use Rattle.acc_base.specs.declared.tables.Row.{Row}
use Rattle.acc_base.specs.declared.designs.Design.{Design}
use Rattle.acc_base.specs.declared.machines.Cause.TheVariants.{Victim}
use Rattle.acc_base.specs.declared.machines.Event.TheVariants.{Abort}
use Rattle.acc_base.specs.declared.machines.Transaction.{Transaction}
use Rattle.acc_base.specs.declared.machines.Turn.{Turn}
use Rattle.acc_base.specs.Machine.{World, transaction_at, changed, became, becomes, after_event}
use Rattle.acc_machine.specs.Turns.{IsTurn, goes, victim, blocked}
use Rattle.acc_lock_rules.specs.LockRules.{with_locks}
use Rattle.acc_lock_rules.proofs.OneTurn.{forward_unfinished, locks_are_determined}
use Rattle.acc_player.specs.Ways.{Precedes, AreOrderly}
use Rattle.acc_player.proofs.Onward.{same_precedes}
use Rattle.acc_player.proofs.Orderly.{became_precedes, turn_precedes, begin_precedes}

-- a victim's turn
pub victim_so : (d : Design) (w v : World) (t : ℕ) → after_event d w (Abort t Victim) ≡ Some v
    → (y : List Row × Transaction) × (became w (Abort t Victim) t y ≡ v)
victim_so d w v t is = by (changed d w.rows (Abort t Victim) (transaction_at t w.transactions)) is
  where
    by : (o : Option (List Row × Transaction)) → becomes w (Abort t Victim) t o ≡ Some v
        → (y : List Row × Transaction) × (became w (Abort t Victim) t y ≡ v)
    by None k = absurd (none-some v k)
    by (Some y) k = (y, same_Some (became w (Abort t Victim) t y) v k)

lock_precedes : (d : Design) (w v : World) (t : ℕ) (x : Turn) → IsTurn d w v t x → Precedes w v
lock_precedes d w v t x (goes y is free) = turn_precedes d w v t y is
lock_precedes d w v t x (victim f at stuck is) =
    let so = victim_so d w v t is in
    subst (Precedes w) so.1 (became_precedes w (Abort t Victim) t so.0 (forward_unfinished w t f at))
lock_precedes d w v t x (blocked f h n at stop low loose same) = same_precedes w v same

pub locks_are_orderly : (d : Design) → AreOrderly (with_locks d)
locks_are_orderly d = record {
  determined = locks_are_determined d;
  begins = λ w v call h. begin_precedes d w v call h.1;
  turns = λ w v t x h. lock_precedes d w v t x h;
  absent = λ w t closed. closed;
}
