-- What is said of a run over a journal.
use Rattle.std.specs.Prelude.{◌≡◌, ◌⊎◌, ◌≤◌, ◌++◌, ℕ, Bool, false, List, [], length, take, Option, Some, None, IfSome, slice_get, codes}
use Rattle.std.specs.List.{filter_map, flat_map, range_with_len}
use Rattle.acc_base.specs.declared.designs.Design.{Design}
use Rattle.acc_base.specs.declared.machines.Call.{Call}
use Rattle.acc_base.specs.declared.machines.Event.{Event}
use Rattle.acc_base.specs.Lines.{line, settled_line}
use Rattle.acc_base.specs.Machine.{World, world}
use Rattle.acc_base.specs.Plays.{Play}
use Rattle.acc_print.specs.Designs.{printed}
use Rattle.acc_journalled.specs.Sealing.{SealsGrowth}
use Rattle.acc_wal.specs.Journals.{Counts}
use Rattle.acc_engine.specs.Keeping.{call_of, is_begun}
use Rattle.acc_schedule.specs.Schedules.{TellsScheduleFrom}
use Rattle.acc_settling.specs.Openings.{opening_at}
use Rattle.acc_settling.specs.Workers.{worked}
use Rattle.acc_settling.specs.Wholes.{IsAfterSchedule, IsFrontOfSchedule, TellsDurablePart}
use Rattle.acc_journalled.specs.declared.answers.Ending.TheVariants.{DiskFailed}
use Rattle.acc_journalled.specs.Recovering.{RefusesSo}
use Rattle.acc_journalled.specs.Tellings.{Telling}
use Rattle.acc_running.specs.Recorded.{IsFound, IsRecorded}
use Rattle.acc_running.specs.Engines.{ending_at}

-- ---- where the order's turns begin

-- at the recovered state: no place has begun
abbrev pub IsOpening : List Call → World → Play → Type 0
IsOpening calls first opened = opened ≡ opening_at first calls

-- Where workers have left off. Behind the recovered state the history went on, and of the script's places so many of the first have begun,
-- in their order, each as the next transaction.
pub record WorkersLeave (d : Design) (calls : List Call) (first : World) (opened : Play) : Type 0 where
  pub more : List Event
  pub history : opened.world.events ≡ first.events ++ more
  pub run : world d opened.world.events ≡ Some opened.world
  pub count : ℕ
  pub within : count ≤ length calls
  pub begun : filter_map call_of more ≡ take count calls
  pub is : opened ≡ worked (length first.transactions) count opened.world calls

-- ---- what is told

-- The whole schedule is told, from where the turns begin: its lines, the replies, and how many events there are. All of it is durable, and
-- the disk holds a journal of it.
pub record RunsThrough (d : Design) (calls : List Call) (order : List ℕ) (Opens : World → Play → Type 0) (told told' : Option (List ℕ))
    (t : Telling) : Type 0 where
  pub first : World
  pub found : IsFound d told first
  pub recorded : IsRecorded d calls first t.history t.settled
  pub opened : Play
  pub opens : Opens first opened
  pub all_begun : Bool
  pub tells : TellsScheduleFrom d calls opened order t.text t.history all_begun
  pub ending : t.ending ≡ ending_at all_begun
  pub settled : t.settled ≡ length t.history
  pub holds : IfSome told' (λ file. Counts file (printed d) t.history)
  pub grown : SealsGrowth d told told' t.history

-- a line each place, by the state after the durable events: its reply there, or that it is unsettled
pub record TellsDurable (d : Design) (calls : List Call) (begun : List Bool) (history : List Event) (settled : ℕ) (text : List ℕ) : Type 0
  where
    pub play : Play
    pub count : length play.numbers ≡ length calls
    pub unbegun : (at : ℕ) → slice_get play.numbers at ≡ Some None → is_begun begun at ≡ false
    pub durable : World
    pub run : world d (take settled history) ≡ Some durable
    pub text_is : text ≡ flat_map (settled_line (record play { world = durable })) (range_with_len 1 (length calls))

-- The disk failed behind the recovery. The events are the first of those of the whole schedule from where the turns begin, which is what
-- the same order gives where nothing fails, and the lines are those of its places, as far as they are durable.
pub record BreaksOff (d : Design) (calls : List Call) (order : List ℕ) (Opens : World → Play → Type 0) (told : Option (List ℕ))
    (fault : Type 0) (t : Telling) : Type 0 where
  pub failed : fault
  pub first : World
  pub found : IsFound d told first
  pub recorded : IsRecorded d calls first t.history t.settled
  pub opened : Play
  pub opens : Opens first opened
  pub front : IsFrontOfSchedule d calls order opened t.history
  pub lines : List ℕ
  pub replies : TellsDurable d calls recorded.begun t.history t.settled lines
  pub unsettled :
      (ended : Play) → IsAfterSchedule d calls order opened ended
      → TellsDurablePart d calls t.history t.settled ended lines
  pub ending : t.ending ≡ DiskFailed
  pub text : t.text ≡ lines ++ line (codes "fault disk")

-- the schedule is told to its end, or to where the disk failed; or the journal isn't recovered, for a cause
abbrev pub RunsFrom :
    Design → List Call → List ℕ → (World → Play → Type 0) → Option (List ℕ) → Option (List ℕ) → Type 0 → Telling → Type 0
RunsFrom d calls order Opens told told' fault t =
    RunsThrough d calls order Opens told told' t ⊎ BreaksOff d calls order Opens told fault t ⊎ RefusesSo d told told' fault t

-- nothing was recovered, and no event is told; or the events are the first of those of the whole schedule from where the turns begin
abbrev pub Follows : Design → List Call → List ℕ → (World → Play → Type 0) → Option (List ℕ) → List Event → Type 0
Follows d calls order Opens told history =
    (history ≡ [])
    ⊎ ((first : World) × (opened : Play) × IsFound d told first × Opens first opened × IsFrontOfSchedule d calls order opened history)

-- ---- the two kinds of runs

-- the calls take turns in an order, from the recovered state on
abbrev pub RunsJournal : Design → List Call → List ℕ → Option (List ℕ) → Option (List ℕ) → Type 0 → Telling → Type 0
RunsJournal d calls order = RunsFrom d calls order (IsOpening calls)

-- Workers take them, in whichever order; what they leave unfinished or unbegun is then ended, as it is behind the last mention of an order.
abbrev pub WorksJournal : Design → List Call → Option (List ℕ) → Option (List ℕ) → Type 0 → Telling → Type 0
WorksJournal d calls = RunsFrom d calls [] (WorkersLeave d calls)
