-- The commands sched and run: a script's calls by the rules of locks, for a design that is accepted with its certificate, over its journal:
-- from the recovery to the last settling. They take turns in the order that is given, or as workers give them, and then go to their end.
use Rattle.std.specs.Prelude.{◌≡◌, ◌⊎◌, ℕ, List, length, Option}
use Rattle.acc_base.specs.declared.designs.Design.{Design}
use Rattle.acc_base.specs.declared.machines.Call.{Call}
use Rattle.acc_base.specs.declared.machines.Event.{Event}
use Rattle.acc_io.specs.Causes.{Rose}
use Rattle.acc_commands_inputs.specs.Admissions.{IsAcceptedWith}
use Rattle.acc_formed.specs.WellFormed.{IsWellFormed}
use Rattle.acc_commands_inputs.specs.Texts.{IsDesignText}
use Rattle.acc_script.specs.CallLines.{IsScript}
use Rattle.acc_script.specs.OrderLines.{IsOrder}
use Rattle.acc_journalled.specs.Tellings.{Telling}
use Rattle.acc_running.specs.Crashes.{LeavesRun, SchedulesOver, WorksOver}
use Rattle.acc_running.specs.Running.{RunsJournal, WorksJournal}
use Rattle.acc_commands_journals.specs.declared.runs.Turns.{Turns}
use Rattle.acc_commands_journals.specs.declared.runs.Turns.TheVariants.{Ordered, Workers}
use Rattle.acc_commands_journals.specs.Disks.{Seen, WithoutDisk, OrUntouched}
use Rattle.acc_commands_inputs.specs.Refusals.{RefusesDesign, RefusesCertificate}
use Rattle.acc_commands_inputs.specs.Scripts.{RefusesScript, RefusesOrder}

-- ---- what is said of the calls

-- these calls run in this order over the journal; or it isn't recovered, or breaks off
abbrev pub RunsSeen : Design → List Call → List ℕ → Seen → Seen → Telling → Type 0
RunsSeen d calls order old new t = RunsJournal d calls order old.told new.told (Rose old.faults new.faults) t

-- the order has these numbers, and then the disk decides
pub record RunsOrdered (d : Design) (calls : List Call) (order : List ℕ) (old new : Seen) (t : Telling) : Type 0 where
  pub numbers : List ℕ
  pub is_order : IsOrder (length calls) order numbers
  pub ends : RunsSeen d calls numbers old new t

abbrev pub RunsOfOrder : List ℕ → Design → List Call → Seen → Seen → Telling → Type 0
RunsOfOrder order d calls old new t = WithoutDisk (RefusesOrder calls order) old new t ⊎ RunsOrdered d calls order old new t

-- workers run them over the journal; or it isn't recovered, or they break off
abbrev pub WorksSeen : Design → List Call → Seen → Seen → Telling → Type 0
WorksSeen d calls old new t = WorksJournal d calls old.told new.told (Rose old.faults new.faults) t

-- as the turns are taken
abbrev pub SaysBy : Turns → Design → List Call → Seen → Seen → Telling → Type 0
SaysBy (Ordered order) = RunsOfOrder order.now
SaysBy (Workers workers) = WorksSeen

-- ---- what is said of the files, where this is said of the calls

module _ (OfCalls : Design → List Call → Seen → Seen → Telling → Type 0) where
  -- the script has these calls, and then they decide
  pub record RunsScripted (d : Design) (script : List ℕ) (old new : Seen) (t : Telling) : Type 0 where
    pub calls : List Call
    pub is_script : IsScript d script calls
    pub says : OfCalls d calls old new t

  abbrev pub RunsOfScript : Design → List ℕ → Seen → Seen → Telling → Type 0
  RunsOfScript d script old new t = WithoutDisk (RefusesScript d script) old new t ⊎ RunsScripted d script old new t

  -- the design is accepted with the certificate, and so it is sound, and then the script decides
  pub record RunsAccepted (d : Design) (certificate script : List ℕ) (old new : Seen) (t : Telling) : Type 0 where
    pub accepted : IsAcceptedWith d certificate
    pub says : RunsOfScript d script old new t

  abbrev pub RunsCertified : Design → List ℕ → List ℕ → Seen → Seen → Telling → Type 0
  RunsCertified d certificate script old new t =
      WithoutDisk (RefusesCertificate d certificate) old new t ⊎ RunsAccepted d certificate script old new t

  -- the text is that of this design, which is well-formed, and then the certificate decides
  pub record RunsDesign (design certificate script : List ℕ) (old new : Seen) (t : Telling) : Type 0 where
    pub d : Design
    pub is_text : IsDesignText design d
    pub formed : IsWellFormed d
    pub says : RunsCertified d certificate script old new t

  -- the order of the refusals: the design, the certificate, the script, and then what is said of the calls
  abbrev pub RunsTexts : List ℕ → List ℕ → List ℕ → Seen → Seen → Telling → Type 0
  RunsTexts design certificate script old new t =
      WithoutDisk (RefusesDesign design) old new t ⊎ RunsDesign design certificate script old new t

-- `sched`: behind the script the order decides, and then the journal
abbrev pub RunsFiles : List ℕ → List ℕ → List ℕ → List ℕ → Seen → Seen → Telling → Type 0
RunsFiles design certificate script order = RunsTexts (RunsOfOrder order) design certificate script

-- `run`: behind it the journal
abbrev pub WorksFiles : List ℕ → List ℕ → List ℕ → Seen → Seen → Telling → Type 0
WorksFiles = RunsTexts WorksSeen

-- the file, or what a run of some history leaves of it
abbrev pub LeavesSomeRun : Design → List ℕ → List ℕ → Type 0
LeavesSomeRun d file image = (image ≡ file) ⊎ ((history : List Event) × LeavesRun d file history image)

-- a crash leaves the file; or, where nothing is refused before the journal, what a run may leave of it
pub record LeavesByRun (design certificate file image : List ℕ) : Type 0 where
  pub d : Design
  pub is_text : IsDesignText design d
  pub formed : IsWellFormed d
  pub accepted : IsAcceptedWith d certificate
  pub left : LeavesSomeRun d file image

abbrev pub RunLeaves : List ℕ → List ℕ → List ℕ → List ℕ → Type 0
RunLeaves design certificate file image = (image ≡ file) ⊎ LeavesByRun design certificate file image

-- ---- what a run leaves, and the events that it tells

module _ {D : Type 0} (clock : D → ℕ) (left_since : D → ℕ → List ℕ → Type 0) (told : D → Option (List ℕ)) (may_leave : D → List ℕ → Type 0)
  where
    -- the order has these numbers, and so the calls run
    pub record OrderRuns (order : List ℕ) (d : Design) (calls : List Call) (old new : D) (history : List Event) (settled : ℕ) : Type 0 where
      pub numbers : List ℕ
      pub is_order : IsOrder (length calls) order numbers
      pub runs : SchedulesOver clock left_since told may_leave d calls numbers old new history settled

    -- as the turns are taken
    abbrev pub RunsBy : Turns → Design → List Call → D → D → List Event → ℕ → Type 0
    RunsBy (Ordered order) = OrderRuns order.now
    RunsBy (Workers workers) = WorksOver clock left_since told may_leave

-- where the calls so run
module _ {D : Type 0} (Runs : Design → List Call → D → D → List Event → ℕ → Type 0) where
  -- the script has these calls
  pub record ScriptRuns (d : Design) (script : List ℕ) (old new : D) (history : List Event) (settled : ℕ) : Type 0 where
    pub calls : List Call
    pub is_script : IsScript d script calls
    pub runs : Runs d calls old new history settled

  -- the design is accepted with the certificate, and so the script
  pub record AcceptedRuns (d : Design) (certificate script : List ℕ) (old new : D) (history : List Event) (settled : ℕ) : Type 0 where
    pub accepted : IsAcceptedWith d certificate
    pub runs : ScriptRuns d script old new history settled

  -- the texts are those of this design, which is accepted with its certificate, and of these calls; and so they run
  pub record FilesRun (design certificate script : List ℕ) (old new : D) (history : List Event) (settled : ℕ) : Type 0 where
    pub d : Design
    pub is_text : IsDesignText design d
    pub formed : IsWellFormed d
    pub accepted : IsAcceptedWith d certificate
    pub calls : List Call
    pub is_script : IsScript d script calls
    pub runs : Runs d calls old new history settled

  -- nothing was asked of the disk, and nothing is told; or the files' calls ran
  abbrev pub RunLeft : List ℕ → List ℕ → List ℕ → D → D → List Event → ℕ → Type 0
  RunLeft design certificate script = OrUntouched (FilesRun design certificate script)
