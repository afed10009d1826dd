-- What the lock keeps of the engine behind it.
use Rattle.std.specs.Prelude.{◌≡◌, ℕ, ◌+◌, ◌≤◌, nat_lt, Bool, true, List, [], length, drop, take, All, Option, Some}
use Rattle.std.specs.List.{filter_map}
use mathlib.Core.List.{IsPrefix}
use Rattle.acc_base.specs.declared.bounds.TheConstants.{MOST_EVENTS, MOST_UNFINISHED}
use Rattle.acc_base.specs.declared.designs.Design.{Design}
use Rattle.acc_base.specs.declared.machines.Call.{Call}
use Rattle.acc_base.specs.declared.machines.Event.{Event}
use Rattle.acc_base.specs.Machine.{World, world, unfinished}
use Rattle.acc_machine.specs.Kept.{IsKept}
use Rattle.acc_engine.specs.Keeping.{Journalled, is_begun, IsNoCrash, call_of}
use Rattle.acc_pass.specs.Histories.{begins}
use Rattle.acc_workers.specs.declared.turners.Why.{Why}
use Rattle.acc_workers.specs.declared.turners.Why.TheVariants.{Full, Crowd, Disk, Memory}
use Rattle.acc_engine.specs.Surviving.{Survives}

-- what a shared engine was when it was shared: its design, its calls, and how many of their places were begun, the first ones
pub record Script : Type 0 where
  pub design : Design
  pub calls : List Call
  pub places : ℕ

abbrev pub no_script : Script
no_script = record { design = record { tables = []; always = []; types = []; entries = []; hints = [] }; calls = []; places = 0 }

-- the events of the history after those that it had when the engine was shared
abbrev pub since : List Event → List Event → List Event
since first log = drop (length first) log

-- so many places are begun after these events
abbrev pub begun_after : Script → List Event → List Event → ℕ
begun_after script first log = script.places + begins (since first log)

-- the calls that begin since the engine was shared are those of the next places, in their order, and just their places are marked
pub record BeginsNext (script : Script) (first : List Event) (marks : List Bool) (log : List Event) : Type 0 where
  pub grew : IsPrefix first log
  pub no_crash : All IsNoCrash (since first log)
  pub calls_are : filter_map call_of (since first log) ≡ take (begins (since first log)) (drop script.places script.calls)
  pub marks_are : (p : ℕ) → is_begun marks p ≡ nat_lt p (begun_after script first log)

-- the front of a history in which 64 transactions are unfinished
pub record IsCrowded (d : Design) (log : List Event) : Type 0 where
  pub past : List Event
  pub front : IsPrefix past log
  pub state : World
  pub run : world d past ≡ Some state
  pub many : MOST_UNFINISHED ≤ length (unfinished state)

-- what a history and a break show of a halt; want of memory is free
abbrev pub IsCause : Design → List Event → Bool → Why → Type 0
IsCause d log broken Full = MOST_EVENTS ≤ length log
IsCause d log broken Crowd = IsCrowded d log
IsCause d log broken Disk = broken ≡ true
IsCause d log broken Memory = Unit {0}

-- what halts a run then still does
abbrev pub CausesStay : {D : Type 0} → Design → Journalled D → Journalled D → Type 0
CausesStay d old new = (why : Why) → IsCause d old.state.events old.failed why → IsCause d new.state.events new.failed why

-- An engine behind the lock is as the calls since it was shared may leave it: the history is a run of the script's design and goes on from
-- what it was then, the calls began that come next in the script, and what crashes leave is as `Survives` says.
pub record Serves {D : Type 0} (clock : D → ℕ) (left_since : D → ℕ → List ℕ → Type 0) (told : D → Option (List ℕ))
    (may_leave : D → List ℕ → Type 0) (count : D → ℕ) (script : Script) (first : List Event) (engine : Option (Journalled D))
    (e : Journalled D) : Type 0 where
  pub kept : IsKept script.design e.state
  pub design : e.design ≡ script.design
  pub calls : e.calls ≡ script.calls
  pub next : BeginsNext script first e.begun e.state.events
  pub survives : (f : Journalled D) → engine ≡ Some f → Survives clock left_since told may_leave count f e
