-- What a turn answers by the rules of locks, which event it adds, and what it leaves.
use Rattle.std.specs.Prelude.{◌≡◌, ◌≢◌, ℕ, [], ◌∷◌, ◌++◌, Option, None, Some, MatchOption}
use Rattle.acc_base.specs.declared.designs.Design.{Design}
use Rattle.acc_base.specs.declared.machines.Cause.{Cause}
use Rattle.acc_base.specs.declared.machines.Cause.TheVariants.{Victim, Crash}
use Rattle.acc_base.specs.declared.machines.Event.{Event}
use Rattle.acc_base.specs.declared.machines.Event.TheVariants.{Step, Abort, Undo}
use Rattle.acc_base.specs.declared.machines.Frame.{Frame}
use Rattle.acc_base.specs.declared.machines.Transaction.TheVariants.{Forward}
use Rattle.acc_base.specs.declared.machines.Turn.{Turn}
use Rattle.acc_base.specs.declared.machines.Turn.TheVariants as turn
use Rattle.acc_base.specs.Machine.{World, transaction_at, stop_of, after_event}
use Rattle.acc_base.specs.Turns.{turn_of}
use Rattle.acc_base.specs.Locks.{IsUnblocked, IsStuck}
use Rattle.acc_machine.specs.Lowest.{IsLowestBlocker}

-- transaction t goes forward
pub record IsGoing (t : ℕ) (w : World) : Type 0 where
  pub frame : Frame
  pub forward : transaction_at t w.transactions ≡ Some (Forward frame)

-- nobody blocks the step of transaction t, or it isn't forward, or something stops its step
abbrev pub IsFree : Design → World → ℕ → Type 0
IsFree d w t =
    (f : Frame) → transaction_at t w.transactions ≡ Some (Forward f) → stop_of d w.rows f ≡ None → IsUnblocked d w f

-- who blocks the step of transaction t, if it is forward and nothing stops its step
pub record IsHeldAt (d : Design) (w : World) (t : ℕ) (found : ℕ × ℕ) : Type 0 where
  pub frame : Frame
  pub forward : transaction_at t w.transactions ≡ Some (Forward frame)
  pub free : stop_of d w.rows frame ≡ None
  pub lowest : IsLowestBlocker d w frame found.0 found.1

abbrev pub TellsHeldAt : Design → World → ℕ → Option (ℕ × ℕ) → Type 0
TellsHeldAt d w t result = MatchOption result (IsFree d w t) (IsHeldAt d w t)

-- ---- a turn

-- The turn of transaction t that is answered, from the one state to the other: that of the plain machine, where nobody blocks a step;
-- it becomes a victim where all are stuck; or it is blocked, and nothing changes.
pub data IsTurn (d : Design) (old new : World) (t : ℕ) : Turn → Type 0 where
  goes : (x : Turn) → turn_of d old t ≡ Some (x, new) → IsFree d old t → IsTurn d old new t x
  victim :
      (f : Frame) → transaction_at t old.transactions ≡ Some (Forward f) → IsStuck d old → after_event d old (Abort t Victim) ≡ Some new
      → IsTurn d old new t (turn.Turned Victim)
  blocked :
      (f : Frame) (h n : ℕ) → transaction_at t old.transactions ≡ Some (Forward f) → stop_of d old.rows f ≡ None
      → IsLowestBlocker d old f h n → ¬ IsStuck d old → new ≡ old → IsTurn d old new t (turn.Blocked h n)

-- ---- the event that a turn adds

-- an event of transaction t that a turn makes: no begin, and no crash
pub data IsTurnEvent (t : ℕ) : Event → Type 0 where
  step : IsTurnEvent t (Step t)
  undo : IsTurnEvent t (Undo t)
  abort : (c : Cause) → c ≢ Crash → IsTurnEvent t (Abort t c)

-- the history has one such event more
pub record AddsEvent (t : ℕ) (old new : World) : Type 0 where
  pub event : Event
  pub of_turn : IsTurnEvent t event
  pub added : new.events ≡ old.events ++ event ∷ []

-- a blocked turn changes nothing, and each other adds one event
abbrev pub AddsBy : World → World → ℕ → Turn → Type 0
AddsBy old new t (turn.Blocked h n) = new ≡ old
AddsBy old new t (turn.Stepped at) = AddsEvent t old new
AddsBy old new t (turn.Turned c) = AddsEvent t old new
AddsBy old new t (turn.Back at) = AddsEvent t old new
AddsBy old new t turn.Ended = AddsEvent t old new
