-- What is promised of compensation: each undo turn goes and falls, and from each good state crashes and undo turns lead to an idle one.
-- The laws of runs say it, and recovery from a journal is it.
use Rattle.std.specs.Prelude.{◌≡◌, ◌≢◌, ◌⊎◌, ℕ, ◌≤◌, Bool, false, ◌==◌, List, [], ◌∷◌, Some, ◌<ℤ◌}
use Rattle.acc_base.specs.declared.designs.Design.{Design}
use Rattle.acc_base.specs.declared.designs.Side.TheVariants.{Undo as UndoSide}
use Rattle.acc_base.specs.declared.machines.Frame.{Frame}
use Rattle.acc_base.specs.declared.machines.Cause.{Cause}
use Rattle.acc_base.specs.declared.machines.Cause.TheVariants.{Crash}
use Rattle.acc_base.specs.declared.machines.Event.{Event}
use Rattle.acc_base.specs.declared.machines.Event.TheVariants.{Begin, Step, Abort, Undo}
use Rattle.acc_base.specs.declared.machines.Outcome.TheVariants.{Compensated}
use Rattle.acc_base.specs.declared.machines.Transaction.TheVariants.{Forward, Undoing, Ended}
use Rattle.acc_base.specs.Machine.{World, transaction_at, unfinished, after_event}
use Rattle.acc_base.specs.Entries.{at_of, Forbids}
use Rattle.acc_base.specs.Soundness.{variant_of}
use Rattle.acc_base.specs.Locks.{frame_at}

-- ---- an undo turn

-- it has ended, compensated, or stands on the undo side with a lower variant
abbrev pub HasFallen : Design → ℕ → Frame → Cause → World → Type 0
HasFallen d t f c after =
    (transaction_at t after.transactions ≡ Some (Ended (record { t = t; outcome = Compensated c })))
    ⊎ ((g : Frame) × (transaction_at t after.transactions ≡ Some (Undoing g c)) × (variant_of d g <ℤ variant_of d f))

-- an undo turn of transaction t: it takes place, no other transaction forbids its step, and it has fallen after it
pub record UndoGoes (d : Design) (w : World) (t : ℕ) (f : Frame) (c : Cause) : Type 0 where
  pub after : World
  pub event : after_event d w (Undo t) ≡ Some after
  pub free :
      (u n : ℕ) (g : Frame) → frame_at u w ≡ Some g → u ≢ t
      → ¬ Forbids d (at_of g) g.locals (at_of f) UndoSide f.locals n
  pub falls : HasFallen d t f c after

abbrev pub is_undo_of : ℕ → Event → Bool
is_undo_of t (Begin call) = false
is_undo_of t (Step u) = false
is_undo_of t (Abort u c) = false
is_undo_of t (Undo u) = u == t

-- ---- recovery

-- no forward transaction has a lower number, and no unfinished one
abbrev pub IsLowestForward : ℕ → World → Type 0
IsLowestForward t w = (u : ℕ) (g : Frame) → transaction_at u w.transactions ≡ Some (Forward g) → t ≤ u

abbrev pub IsLowestUnfinished : ℕ → World → Type 0
IsLowestUnfinished t w = (u : ℕ) (g : Frame) → frame_at u w ≡ Some g → t ≤ u

abbrev pub HasNoForward : World → Type 0
HasNoForward w = (u : ℕ) (g : Frame) → ¬ (transaction_at u w.transactions ≡ Some (Forward g))

-- the lowest forward transaction crashes; where there is none, the lowest unfinished one is undone
pub data IsNext (w : World) : Event → Type 0 where
  crash :
      (t : ℕ) (f : Frame) → transaction_at t w.transactions ≡ Some (Forward f) → IsLowestForward t w
      → IsNext w (Abort t Crash)
  undo :
      (t : ℕ) (f : Frame) → frame_at t w ≡ Some f → HasNoForward w → IsLowestUnfinished t w
      → IsNext w (Undo t)

-- these events recover the state, and this one is left
abbrev pub Recovers : Design → World → List Event → World → Type 0
Recovers d w [] after = (w ≡ after) × (unfinished w ≡ [])
Recovers d w (e ∷ rest) after = IsNext w e × ((next : World) × (after_event d w e ≡ Some next) × Recovers d next rest after)
