-- What the definitions of a run over a journal say by themselves.
use Rattle.std.specs.Prelude.{◌≡◌, ◌⊎◌, ℕ, List, length, Option, Some}
use Rattle.acc_base.specs.declared.designs.Design.{Design}
use Rattle.acc_base.specs.declared.machines.Call.{Call}
use Rattle.acc_base.specs.declared.machines.Event.{Event}
use Rattle.acc_base.specs.Lawful.{AreLawful}
use Rattle.acc_base.specs.Machine.{World}
use Rattle.acc_io.specs.Causes.{Rose}
use Rattle.acc_print.specs.Designs.{printed}
use Rattle.acc_engine.specs.Sealing.{SealedFront}
use Rattle.acc_journalled.specs.Tellings.{Telling}
use Rattle.acc_running.specs.Recorded.{IsFound}
use Rattle.acc_running.specs.Running.{RunsJournal}
use Rattle.acc_running.specs.Crashes.{LeavesRun, IsRecoverable, IsFrontOf}

-- one thing is said of a disk that tells its bytes; the counts of faults are those before and after each of two calls
abbrev pub RunningSaysOne : Type 0
RunningSaysOne = (d : Design) (calls : List Call) (order file : List ℕ) (one other : Option (List ℕ)) (p q r s : ℕ) (a b : Telling)
    → ¬ Rose p q → ¬ Rose r s → RunsJournal d calls order (Some file) one (Rose p q) a
    → RunsJournal d calls order (Some file) other (Rose r s) b → a ≡ b

-- What a crash leaves at a moment of a run is recovered. The events are those that were found, or that with their compensation, or a front
-- of the run's.
abbrev pub CrashRecovers : Type 0
CrashRecovers = (d : Design) (file image : List ℕ) (history : List Event) (first : World) (found : IsFound d (Some file) first)
    → AreLawful d history → LeavesRun d file history image
    → (events : List Event) × IsRecoverable d image events
    × ((events ≡ found.found) ⊎ (events ≡ first.events) ⊎ IsFrontOf history (length first.events) events)

-- and so is what a crash leaves after it
abbrev pub EndRecovers : Type 0
EndRecovers = (d : Design) (history : List Event) (settled : ℕ) (image : List ℕ)
    → AreLawful d history → SealedFront d (printed d) history settled image
    → (events : List Event) × IsRecoverable d image events × IsFrontOf history settled events
