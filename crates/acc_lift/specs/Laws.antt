-- What is true of every run by the rules of locks of a design that is sound and well-formed.
use Rattle.std.specs.Prelude.{◌≡◌, ℕ, ◌+◌, ◌≤◌, List, [], length, count_by, sum_by, Some, unsigned_abs}
use Rattle.acc_base.specs.declared.designs.Design.{Design}
use Rattle.acc_base.specs.declared.machines.Frame.{Frame}
use Rattle.acc_base.specs.declared.machines.Cause.{Cause}
use Rattle.acc_base.specs.declared.machines.Cause.TheVariants.{Crash}
use Rattle.acc_base.specs.declared.machines.Event.{Event}
use Rattle.acc_base.specs.declared.machines.Event.TheVariants.{Abort, Undo}
use Rattle.acc_base.specs.declared.machines.Transaction.TheVariants.{Undoing}
use Rattle.acc_base.specs.Machine.{World, start, transaction_at, unfinished, after_event}
use Rattle.acc_formed.specs.WellFormed.{IsWellFormed}
use Rattle.acc_base.specs.Soundness.{IsSound, variant_of}
use Rattle.acc_base.specs.Lawful.{IsLawful, LeadLawfully, AreLawful}
use Rattle.acc_base.specs.Annotated.{IsAnnotated, IsIdle}
use Rattle.acc_base.specs.Invariant.{rest_of, IsGood}
use Rattle.acc_base.specs.Compensation.{UndoGoes, is_undo_of, Recovers}

-- the state before any event is good
abbrev pub StartIsGood : Type 0
StartIsGood = (d : Design) → IsSound d → IsGood d start

-- a lawful event takes a good state to a good one
abbrev pub GoodStays : Type 0
GoodStays = (d : Design) (w after : World) (e : Event) → IsSound d → IsWellFormed d → IsGood d w → IsLawful d w e after → IsGood d after

-- and so does a list of them
abbrev pub RunsAreGood : Type 0
RunsAreGood =
    (d : Design) (events : List Event) (w after : World) → IsSound d → IsWellFormed d → IsGood d w → LeadLawfully d w events after
    → IsGood d after

-- lawful lists of events are annotated
abbrev pub RunsAreAnnotated : Type 0
RunsAreAnnotated = (d : Design) (events : List Event) → IsSound d → IsWellFormed d → AreLawful d events → IsAnnotated d events

-- the invariant stands where nothing is unfinished
abbrev pub GoodIsIdle : Type 0
GoodIsIdle = (d : Design) (w : World) → IsGood d w → unfinished w ≡ [] → IsIdle d w.rows

-- an undo turn is never forbidden, refused or out of range, and lowers the variant or ends
abbrev pub UndoIsFree : Type 0
UndoIsFree =
    (d : Design) (w : World) (t : ℕ) (f : Frame) (c : Cause) → IsSound d → IsWellFormed d → IsGood d w
    → transaction_at t w.transactions ≡ Some (Undoing f c) → UndoGoes d w t f c

-- whatever the others do, a transaction takes at most one undo turn more than its variant
abbrev pub UndoEnds : Type 0
UndoEnds =
    (d : Design) (w after : World) (t : ℕ) (f : Frame) (c : Cause) (events : List Event) → IsSound d → IsWellFormed d → IsGood d w
    → transaction_at t w.transactions ≡ Some (Undoing f c) → LeadLawfully d w events after
    → count_by (is_undo_of t) events ≤ unsigned_abs (variant_of d f) + 1

-- a crash or an undo turn
pub data IsBackward : Event → Type 0 where
  crashed : (t : ℕ) → IsBackward (Abort t Crash)
  undone_by : (t : ℕ) → IsBackward (Undo t)

-- it lowers the number of events that may still come without a further begin
abbrev pub RestsFall : Type 0
RestsFall =
    (d : Design) (w after : World) (e : Event) → IsSound d → IsWellFormed d → IsGood d w → IsBackward e → after_event d w e ≡ Some after
    → sum_by (rest_of d) after.transactions + 1 ≤ sum_by (rest_of d) w.transactions

-- a good state has a recovery
abbrev pub RecoveryComes : Type 0
RecoveryComes =
    (d : Design) (w : World) → IsSound d → IsWellFormed d → IsGood d w → (events : List Event) × (after : World) × Recovers d w events after

-- it is lawful, ends with an idle state, and takes at most as many events as the rests add up to
abbrev pub RecoveryEnds : Type 0
RecoveryEnds =
    (d : Design) (w after : World) (events : List Event) → IsSound d → IsWellFormed d → IsGood d w → Recovers d w events after
    → LeadLawfully d w events after × IsIdle d after.rows × (length events ≤ sum_by (rest_of d) w.transactions)
