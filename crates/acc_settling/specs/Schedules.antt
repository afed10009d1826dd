-- What is told of a schedule over an engine.
use Rattle.std.specs.Prelude.{◌≡◌, ◌++◌, ℕ, List, Bool, true, length, codes}
use Rattle.std.specs.List.{flat_map, range_with_len}
use Rattle.std.specs.Fmt.{decimal}
use Rattle.acc_io.specs.Causes.{Rose}
use Rattle.acc_base.specs.declared.designs.Design.{Design}
use Rattle.acc_base.specs.declared.machines.Call.{Call}
use Rattle.acc_base.specs.Lines.{line}
use Rattle.acc_base.specs.Plays.{Play}
use Rattle.acc_engine.specs.Keeping.{Journalled}
use Rattle.acc_player.specs.declared.boards.Board.{Board}
use Rattle.acc_player.specs.declared.stops.Stop.{Stop}
use Rattle.acc_player.specs.declared.stops.Stop.TheVariants.{Disk as DiskFails}
use Rattle.acc_player.specs.Schedules.{line_after}
use Rattle.acc_schedule.specs.Schedules.{EndsWell, TellsBegun}
use Rattle.acc_settling.specs.declared.schedules.Stopped.{Stopped}
use Rattle.acc_settling.specs.declared.schedules.Stopped.TheVariants.{Disk, Memory}
use Rattle.acc_settling.specs.Stops.{AreNumbersOf, TellsSettled}
use Rattle.acc_settling.specs.Wholes.{IsAfterSchedule, TellsDurablePart}

-- behind the lines of a board whose engine has nothing unfinished: a reply line each place, and the number of events
pub record IsClosed {D : Type 0} (e : Journalled D) (old new : Board) (all_begun : Bool) : Type 0 where
  pub replied : List ℕ
  pub replies :
      replied ≡ old.text.items ++ flat_map (line_after e.state old.numbers.items) (range_with_len 1 (length old.numbers.items))
  pub text : new.text.items ≡ replied ++ line (codes "events " ++ decimal (length e.state.events))
  pub ends_well : EndsWell e.design e.state.events e.state
  pub begun : TellsBegun all_begun old.numbers.items e.state.events

-- the lines of the places are told where the disk failed; memory may run out for them too
abbrev pub StopsSo : {D : Type 0} → Stop → Journalled D → Play → Stopped → Type 0
StopsSo stop e p (Disk text) = (stop ≡ DiskFails) × AreNumbersOf e p.numbers × TellsSettled e p text.items
StopsSo stop e p Memory = Unit {0}

-- the engine has failed, and the lines of the places are told; or memory ran out, maybe behind such a fault
abbrev pub TellsFailed : {D : Type 0} → Journalled D → Stopped → Type 0
TellsFailed e (Disk text) =
    (e.failed ≡ true) × ((p : Play) × (p.world ≡ e.state) × AreNumbersOf e p.numbers × TellsSettled e p text.items)
TellsFailed e Memory = Unit {0}

-- and it has failed only where the disk's count of faults rose
abbrev pub TellsStop : {D : Type 0} → (D → ℕ) → Stopped → Journalled D → Journalled D → Type 0
TellsStop count stop old new = TellsFailed new stop × (new.failed ≡ true → Rose (count old.disk) (count new.disk))

-- the lines are those of this whole schedule, as far as they are durable; want of memory tells none
abbrev pub TellsPart : {D : Type 0} → Journalled D → Stopped → Play → Type 0
TellsPart e (Disk text) ended = TellsDurablePart e.design e.calls e.state.events e.settled ended text.items
TellsPart e Memory ended = Unit {0}

abbrev pub TellsPartOfSchedule : {D : Type 0} → Design → List Call → List ℕ → Play → Journalled D → Stopped → Type 0
TellsPartOfSchedule d calls order first e stop = (ended : Play) → IsAfterSchedule d calls order first ended → TellsPart e stop ended
