-- A turn of the plain machine keeps a state good, where a free step is unblocked.
use Rattle.std.proofs.Common.{◌≡◌, ℕ, List, ap, refl, Option, Some, None}
use Rattle.std.specs.Prelude.{Result, Ok, Err, IfOk, OnErr, IsSomeAnd, IsSome, option_and_then}
use Rattle.std.proofs.lemmas.Option.{same_Some, none-some}
use Rattle.acc_base.specs.declared.tables.Row.{Row}
use Rattle.acc_base.specs.declared.designs.Design.{Design}
use Rattle.acc_base.specs.declared.machines.Transaction.{Transaction}
use Rattle.acc_base.specs.declared.machines.Transaction.TheVariants.{Forward, Undoing, Ended}
use Rattle.acc_base.specs.declared.machines.Cause.TheVariants.{Victim}
use Rattle.acc_base.specs.declared.machines.Event.{Event}
use Rattle.acc_base.specs.declared.machines.Event.TheVariants.{Begin, Step, Abort, Undo}
use Rattle.acc_base.specs.declared.machines.Turn.{Turn}
use Rattle.acc_base.specs.declared.machines.Turn.TheVariants.{Stepped, Blocked, Turned, Back, Ended as EndsTurn}
use Rattle.acc_base.specs.Locks.{IsStuck}
use Rattle.acc_base.specs.Machine.{World, transaction_at, frame_in, changed, became, after_event}
use Rattle.acc_base.specs.Turns.{next_event, standing, said, said_of, turn_of}
use Rattle.acc_plain.specs.Turned.{IsUnfinished, IsTurned}
use Rattle.acc_lift.proofs.Theorem.{event_logged}
use Rattle.acc_lift.proofs.FormRules.{run_rules}
use Rattle.acc_machine.specs.Kept.{IsKept}
use Rattle.acc_machine.specs.Turns.{IsTurn, goes, victim, blocked, IsHeldAt, TellsHeldAt, abort, AddsEvent, AddsBy}
use Rattle.acc_machine.specs.Takes.{CanCome}
use Rattle.acc_machine.proofs.Keeping.{kept_same, kept_after}
use Rattle.acc_machine.proofs.Taking.{victim_comes}
use Rattle.acc_machine.proofs.LawfulTurns.{turn_lawful, undo_has_turn}
use Rattle.acc_machine.proofs.ForwardTurns.{forward_has_turn}

-- ---- the plain machine blocks nobody

standing_never : (x : Transaction) (u n : ℕ) → standing x ≡ Blocked u n → ⊥
standing_never (Forward f) u n h = cc
standing_never (Undoing f c) u n h = cc
standing_never (Ended r) u n h = cc

said_never : (e : Event) (x : Transaction) (u n : ℕ) → said e x ≡ Blocked u n → ⊥
said_never (Begin call) x u n h = standing_never x u n h
said_never (Step t) x u n h = standing_never x u n h
said_never (Abort t c) x u n h = cc
said_never (Undo t) x u n h = standing_never x u n h

pub never_blocked : (d : Design) (w w2 : World) (t u n : ℕ) → turn_of d w t ≡ Some (Blocked u n, w2) → ⊥
never_blocked d w w2 t u n h = by (next_event d w.rows (transaction_at t w.transactions)) h
  where
    changed_by : (e : Event) (o : Option (List Row × Transaction)) → said_of w e t o ≡ Some (Blocked u n, w2) → ⊥
    changed_by e None k = none-some (Blocked u n, w2) k
    changed_by e (Some z) k =
        said_never e z.1 u n (ap (λ (p : Turn × World). p.0) (same_Some (said e z.1, became w e t z) (Blocked u n, w2) k))

    by : (o : Option Event) → option_and_then (λ e. said_of w e t (changed d w.rows e (transaction_at t w.transactions))) o ≡ Some
        (Blocked u n, w2) → ⊥
    by None k = none-some (Blocked u n, w2) k
    by (Some e) k = changed_by e (changed d w.rows e (transaction_at t w.transactions)) k

-- ---- a turn where nobody blocks the step

module _ (d : Design) (w : World) (t : ℕ) (kept : IsKept d w) (open_t : IsUnfinished t w) (free : TellsHeldAt d w t None) where
  -- it has a turn
  pub has_turn : turn_of d w t ≡ None → ⊥
  has_turn h = by (transaction_at t w.transactions) refl open_t
    where
      by : (o : Option Transaction) → transaction_at t w.transactions ≡ o → IsSomeAnd o (λ x. IsSome (frame_in x)) → ⊥
      by None e k = k
      by (Some (Forward f)) e k = forward_has_turn d (run_rules d kept.accepted.formed) w t f e h
      by (Some (Undoing f c)) e k = undo_has_turn d kept.accepted.sound (run_rules d kept.accepted.formed) w kept.good.steady t f c e h
      by (Some (Ended r)) e k = cc

  pub kept_turn : {E : Type 0} (d2 : Design) (w2 : World) (r : Result (Option Turn) E) → d2 ≡ d → IfOk r (IsTurned d w w2 t)
      → OnErr r (w2 ≡ w) → IsKept d2 w2
  kept_turn d2 w2 (Ok None) q ok err = absurd (has_turn ok.0)
  kept_turn d2 w2 (Ok (Some x)) q ok err = by (transaction_at t w.transactions) refl open_t
    where
      by : (o : Option Transaction) → transaction_at t w.transactions ≡ o → IsSomeAnd o (λ z. IsSome (frame_in z)) → IsKept d2 w2
      by None e k = absurd k
      by (Some z) e k = let l = turn_lawful d w w2 kept.good.steady t x z e ok free in kept_after d d2 w w2 l.event kept q l.lawful
  kept_turn d2 w2 (Err x) q ok err = kept_same d d2 w w2 kept q err

  adds : (w2 : World) (x : Turn) → turn_of d w t ≡ Some (x, w2) → AddsEvent t w w2
  adds w2 x h = by (transaction_at t w.transactions) refl open_t
    where
      by : (o : Option Transaction) → transaction_at t w.transactions ≡ o → IsSomeAnd o (λ z. IsSome (frame_in z)) → AddsEvent t w w2
      by None e k = absurd k
      by (Some z) e k =
          let l = turn_lawful d w w2 kept.good.steady t x z e h free in
          record { event = l.event; of_turn = l.of_turn; added = event_logged d w l.event w2 l.lawful.event }

  pub turned_adds : (w2 : World) (x : Turn) → IsTurned d w w2 t (Some x) → AddsBy w w2 t x
  turned_adds w2 (Stepped at) h = adds w2 (Stepped at) h
  turned_adds w2 (Turned c) h = adds w2 (Turned c) h
  turned_adds w2 (Back at) h = adds w2 (Back at) h
  turned_adds w2 EndsTurn h = adds w2 EndsTurn h
  turned_adds w2 (Blocked u n) h = absurd (never_blocked d w w2 t u n h)

  pub turned_so : (w2 : World) (x : Turn) → IsTurned d w w2 t (Some x) → IsTurn d w w2 t x
  turned_so w2 x h = goes x h free

-- ---- where another transaction blocks the step

module _ (d : Design) (w : World) (t : ℕ) (found : ℕ × ℕ) (held : IsHeldAt d w t found) where
  pub blocked_so : ¬ IsStuck d w → IsTurn d w w t (Blocked found.0 found.1)
  blocked_so n = blocked held.frame found.0 found.1 held.forward held.free held.lowest n refl

  pub victim_so : (w2 : World) → IsStuck d w → after_event d w (Abort t Victim) ≡ Some w2 → IsTurn d w w2 t (Turned Victim)
  victim_so w2 stuck e = victim held.frame held.forward stuck e

  pub victim_adds : (w2 : World) → after_event d w (Abort t Victim) ≡ Some w2 → AddsBy w w2 t (Turned Victim)
  victim_adds w2 e =
      record { event = Abort t Victim; of_turn = abort Victim (λ q. cc); added = event_logged d w (Abort t Victim) w2 e }

  pub held_comes : IsStuck d w → CanCome d w (Abort t Victim)
  held_comes stuck = victim_comes d w t held.frame held.forward stuck
