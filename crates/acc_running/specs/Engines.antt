-- What is said of an engine's run.
use Rattle.std.specs.Prelude.{◌≡◌, ◌⊎◌, ◌++◌, ℕ, Bool, true, false, List, length, Result, Ok, Err, codes}
use Rattle.acc_base.specs.declared.designs.Design.{Design}
use Rattle.acc_base.specs.declared.machines.Call.{Call}
use Rattle.acc_base.specs.declared.machines.Event.{Event}
use Rattle.acc_base.specs.Lines.{line}
use Rattle.acc_base.specs.Plays.{Play}
use Rattle.acc_engine.specs.Keeping.{Journalled}
use Rattle.acc_engine.specs.Sealing.{EndsSealed}
use Rattle.acc_schedule.specs.Schedules.{TellsScheduleFrom}
use Rattle.acc_settling.specs.declared.schedules.Scheduled.{Scheduled}
use Rattle.acc_settling.specs.declared.schedules.Stopped.{Stopped}
use Rattle.acc_settling.specs.declared.schedules.Stopped.TheVariants.{Disk, Memory}
use Rattle.acc_settling.specs.Growth.{HasGrown}
use Rattle.acc_settling.specs.Stops.{AreNumbersOf, TellsSettled}
use Rattle.acc_settling.specs.Wholes.{IsAfterSchedule, TellsDurablePart}
use Rattle.acc_journalled.specs.declared.answers.Answer.{Answer}
use Rattle.acc_journalled.specs.declared.answers.Ending.{Ending}
use Rattle.acc_journalled.specs.declared.answers.Ending.TheVariants.{Done, Unbegun, DiskFailed}

-- it has come to its end: all is done, or a call couldn't begin
abbrev pub IsThrough : Ending → Type 0
IsThrough ending = (ending ≡ Done) ⊎ (ending ≡ Unbegun)

-- all is done where each call has begun; else one couldn't, since the history is full
abbrev pub ending_at : Bool → Ending
ending_at true = Done
ending_at false = Unbegun

-- the lines of the places, and behind them the fault
abbrev pub IsWithFault : List ℕ → Answer → Type 0
IsWithFault lines s = (s.ending ≡ DiskFailed) × (s.text.items ≡ lines ++ line (codes "fault disk"))

-- want of memory says nothing
abbrev pub SaysTold : Result Scheduled Stopped → Answer → Type 0
SaysTold (Ok told) s = (s.ending ≡ ending_at told.all_begun) × (s.text.items ≡ told.text.items)
SaysTold (Err (Disk lines)) s = IsWithFault lines.items s
SaysTold (Err Memory) s = ⊥

-- The whole schedule from this play on is said, and is durable. Where the history grew, before the engine was made or since, there is no
-- state left to put behind it.
pub record SaysAll {D : Type 0} (d : Design) (calls : List Call) (order : List ℕ) (opened : Play) (grew : Bool) (e : Journalled D)
    (s : Answer) : Type 0 where
  pub all_begun : Bool
  pub tells : TellsScheduleFrom d calls opened order s.text.items e.state.events all_begun
  pub ending : s.ending ≡ ending_at all_begun
  pub settled : e.settled ≡ length e.state.events
  pub unfailed : e.failed ≡ false
  pub sealed : HasGrown grew e → EndsSealed e

-- the disk failed, and the durable replies are said, which are those of the whole schedule
pub record SaysFault {D : Type 0} (d : Design) (calls : List Call) (order : List ℕ) (opened : Play) (e : Journalled D) (s : Answer) : Type 0
  where
    pub failed : e.failed ≡ true
    pub play : Play
    pub numbers : AreNumbersOf e play.numbers
    pub lines : List ℕ
    pub replies : TellsSettled e play lines
    pub unsettled :
        (ended : Play) → IsAfterSchedule d calls order opened ended
        → TellsDurablePart e.design e.calls e.state.events e.settled ended lines
    pub says : IsWithFault lines s

abbrev pub SaysRun : {D : Type 0} → Design → List Call → List ℕ → Play → Bool → Journalled D → Answer → Type 0
SaysRun d calls order opened grew e s = SaysAll d calls order opened grew e s ⊎ SaysFault d calls order opened e s

-- an engine's disk, its events and how many of them are durable
pub record HandsOver {D : Type 0} (e : Journalled D) (disk : D) (history : List Event) (settled : ℕ) : Type 0 where
  pub disk_is : disk ≡ e.disk
  pub history_is : history ≡ e.state.events
  pub settled_is : settled ≡ e.settled
