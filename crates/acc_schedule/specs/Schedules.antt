-- What is told of a schedule: calls that take their turns in an order, by the rules of locks, and then are ended.
use Rattle.std.specs.Prelude.{◌≡◌, ◌++◌, ◌≤◌, ℕ, Bool, true, false, IsSome, List, [], length, All, Option, None, Some, slice_get, codes}
use Rattle.std.specs.List.{flat_map, range_with_len}
use Rattle.std.specs.Fmt.{decimal}
use Rattle.acc_base.specs.declared.bounds.TheConstants.{MOST_EVENTS}
use Rattle.acc_base.specs.declared.designs.Design.{Design}
use Rattle.acc_base.specs.declared.machines.Call.{Call}
use Rattle.acc_base.specs.declared.machines.Event.{Event}
use Rattle.acc_base.specs.Annotated.{IsAnnotated, IsIdle}
use Rattle.acc_base.specs.Invariant.{IsGood}
use Rattle.acc_base.specs.Machine.{World, world, unfinished}
use Rattle.acc_base.specs.Plays.{Play, Told, opening}
use Rattle.acc_base.specs.Lines.{mention_line, ending_text, line}
use Rattle.acc_player.specs.Schedules.{Schedules}
use Rattle.acc_lock_rules.specs.LockRules.{with_locks}

-- whenever nothing is unfinished, what is asserted for all times is true of the rows, and none of them is private
abbrev pub IsIdleBetween : Design → List Event → Type 0
IsIdleBetween d history =
    (past rest : List Event) (w : World) → history ≡ past ++ rest → world d past ≡ Some w → unfinished w ≡ [] → IsIdle d w.rows

-- What a good end is: each event of the history came by the rules of locks, each step with its assertion true, and each end keeps its
-- promise; the history is idle whenever nothing is unfinished; and nothing is unfinished at the end.
pub record EndsWell (d : Design) (history : List Event) (w : World) : Type 0 where
  pub run : world d history ≡ Some w
  pub good : IsGood d w
  pub annotated : IsAnnotated d history
  pub idle : IsIdleBetween d history
  pub none_left : unfinished w ≡ []

-- each place has begun; or one couldn't begin, since the history is full
abbrev pub TellsBegun : Bool → List (Option ℕ) → List Event → Type 0
TellsBegun true numbers history = All IsSome numbers
TellsBegun false numbers history = ((at : ℕ) × (slice_get numbers at ≡ Some None)) × (MOST_EVENTS ≤ length history)

-- The text is that of a schedule from this play on: a line each mention of the order, a reply line each place, and the number of events.
-- The history is the events of its machine, and it ends well.
pub record TellsScheduleFrom (d : Design) (calls : List Call) (first : Play) (order text : List ℕ) (history : List Event)
    (all_begun : Bool)
    : Type 0 where
  pub mentions : List (Told × Play)
  pub ended : Play
  pub schedules : Schedules (with_locks d) calls first order mentions ended
  pub text_is : text ≡ flat_map (mention_line d) mentions ++ ending_text calls ended
  pub history_is : history ≡ ended.world.events
  pub ends_well : EndsWell d history ended.world
  pub begun : TellsBegun all_begun ended.numbers history

-- from the start on, where no event has come
abbrev pub TellsSchedule : Design → List Call → List ℕ → List ℕ → List Event → Bool → Type 0
TellsSchedule d calls order text history all_begun = TellsScheduleFrom d calls (opening calls) order text history all_begun
