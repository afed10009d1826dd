-- What a crash leaves of a run over a journal, and what recovery finds in it.
use Rattle.std.specs.Prelude.{◌≡◌, ◌⊎◌, ◌≤◌, ◌++◌, ℕ, List, [], length, take, Option, Some, IfSome}
use Rattle.acc_io.specs.Causes.{Rose}
use Rattle.acc_base.specs.declared.designs.Design.{Design}
use Rattle.acc_base.specs.declared.machines.Call.{Call}
use Rattle.acc_base.specs.declared.machines.Event.{Event}
use Rattle.acc_base.specs.Lawful.{AreLawful}
use Rattle.acc_base.specs.Machine.{World}
use Rattle.acc_base.specs.Plays.{Play}
use Rattle.acc_disk.specs.Crashes.{Only}
use Rattle.acc_disk.specs.Moments.{AtAnyMoment}
use Rattle.acc_print.specs.Designs.{printed}
use Rattle.acc_wal.specs.Journals.{Counts}
use Rattle.acc_recover.specs.Recoveries.{IsRecovery, LeavesRecovery}
use Rattle.acc_recover.specs.Refusals.{RefusesRecovery, IsOfBytes}
use Rattle.acc_recover.specs.Seals.{HasSealsOver}
use Rattle.acc_recover.specs.declared.errors.RecoverError.{RecoverError}
use Rattle.acc_engine.specs.Sealing.{SealedFront}
use Rattle.acc_running.specs.Recorded.{Records, IsDurableButOne}
use Rattle.acc_running.specs.Running.{Follows, IsOpening, WorkersLeave}

-- a front of the history, of so many events at least
pub record IsFrontOf (history : List Event) (least : ℕ) (events : List Event) : Type 0 where
  pub count : ℕ
  pub at_least : least ≤ count
  pub within : count ≤ length history
  pub is : events ≡ take count history

-- the recovered history; or a front of a history that begins with it, with all of it
abbrev pub IsRecoveredPart : List Event → List Event → List Event → Type 0
IsRecoveredPart recovered history events =
    (events ≡ recovered)
    ⊎ (((more : List Event) × (history ≡ recovered ++ more)) × IsFrontOf history (length recovered) events)

-- The file is a journal of what was found, and the image one of these events: of just that, or of the recovered history, or of a front of
-- the run's history with all of the recovered one. Where each state of the file is the text of the rows at its place, so is each of the
-- image.
pub record LeavesEvents (d : Design) (file : List ℕ) (history : List Event) (image : List ℕ) : Type 0 where
  pub base : List ℕ
  pub found : List Event
  pub counts : Counts file base found
  pub events : List Event
  pub left : Counts image base events
  pub sealed : HasSealsOver base d found file → HasSealsOver base d events image
  pub which : (events ≡ found) ⊎ ((first : World) × IsRecovery d found first × IsRecoveredPart first.events history events)

-- at any moment of a run over a file: its bytes; or a journal of some first of the events that were there, or came
abbrev pub LeavesRun : Design → List ℕ → List Event → List ℕ → Type 0
LeavesRun d file history image = (image ≡ file) ⊎ LeavesEvents d file history image

-- nothing was recovered that is told
pub record LeavesNone (d : Design) (file : List ℕ) (history : List Event) (settled : ℕ) (image : List ℕ) : Type 0 where
  pub none : history ≡ []
  pub none_durable : settled ≡ 0
  pub left : LeavesRecovery d file image

-- after a run: a front of the history with all that is durable, and states that are the texts of the rows at their places, where something
-- was recovered
abbrev pub LeavesDurable : Design → List ℕ → List Event → ℕ → List ℕ → Type 0
LeavesDurable d file history settled image =
    LeavesNone d file history settled image ⊎ SealedFront d (printed d) history settled image

-- What a run over a disk leaves, however it ends. Where the disk was calm, a crash at any moment of it and one after it leave a front of
-- what is recorded.
pub record RunsOver {D : Type 0} (clock : D → ℕ) (left_since : D → ℕ → List ℕ → Type 0) (told : D → Option (List ℕ))
    (may_leave : D → List ℕ → Type 0) (d : Design) (calls : List Call) (order : List ℕ) (Opens : World → Play → Type 0) (old new : D)
    (history : List Event) (settled : ℕ) : Type 0 where
  pub recorded : Records d calls (told old) history settled
  pub follows : Follows d calls order Opens (told old) history
  pub moments :
      (file : List ℕ) → told old ≡ Some file → Only file (may_leave old)
      → AtAnyMoment clock left_since old new (LeavesRun d file history)
  pub left : (file : List ℕ) → told old ≡ Some file → Only file (may_leave old) → IfSome (told new) (LeavesRun d file history)
  pub behind :
      (file : List ℕ) → told old ≡ Some file → Only file (may_leave old) → (image : List ℕ) → may_leave new image
      → LeavesDurable d file history settled image

module _ {D : Type 0} (clock : D → ℕ) (left_since : D → ℕ → List ℕ → Type 0) (told : D → Option (List ℕ)) (may_leave : D → List ℕ → Type 0)
  where
    -- a run in an order, each of whose ends was made durable before the next turn
    pub record SchedulesOver (d : Design) (calls : List Call) (order : List ℕ) (old new : D) (history : List Event) (settled : ℕ)
        : Type 0 where
      pub over : RunsOver clock left_since told may_leave d calls order (IsOpening calls) old new history settled
      pub durable : IsDurableButOne d history settled

    -- a run by workers; what they left was ended in their caller's passes
    abbrev pub WorksOver : Design → List Call → D → D → List Event → ℕ → Type 0
    WorksOver d calls = RunsOver clock left_since told may_leave d calls [] (WorkersLeave d calls)

-- ---- recovery again

-- Recovery finds these events in the bytes, which are a journal of the design's printed text, and nothing stands against it: of its
-- refusals only a fault of the disk and want of memory may come. The counts of faults are those before and after it.
pub record IsRecoverable (d : Design) (image : List ℕ) (events : List Event) : Type 0 where
  pub counts : Counts image (printed d) events
  pub only : (found : List Event) → Counts image (printed d) found → found ≡ events
  pub lawful : AreLawful d events
  pub unrefused : (error : RecoverError) (before after : ℕ) → RefusesRecovery d error (Some image) (Rose before after) → ¬ IsOfBytes error
