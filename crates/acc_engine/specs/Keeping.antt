-- What an engine shows, and what it keeps.
use Rattle.std.specs.Prelude.{◌≡◌, ◌≤◌, ◌<◌, ◌+◌, ◌*◌, ◌^◌, ◌++◌, [], ◌∷◌, ℕ, Bool, true, false, ◌==◌, List, length, drop, All, Option}
use Rattle.std.specs.Prelude.{Some, None, slice_get, slice_index_or, ⊤}
use Rattle.std.specs.List.{filter_map, count_by}
use Rattle.acc_base.specs.declared.designs.Design.{Design}
use Rattle.acc_base.specs.declared.machines.Call.{Call}
use Rattle.acc_base.specs.declared.machines.Cause.TheVariants.{Refused, Range, Limit, Asked, Victim, Crash}
use Rattle.acc_base.specs.declared.machines.Event.{Event}
use Rattle.acc_base.specs.declared.machines.Event.TheVariants.{Begin, Step, Abort, Undo}
use Rattle.acc_base.specs.Machine.{World, call_fits}
use Rattle.acc_wal.specs.declared.writing.TheConstants.{LONGEST_TURN}
use Rattle.acc_wal.specs.Spellings.{body, event_bytes}
use Rattle.acc_wal.specs.declared.items.Seal.{Seal}
use Rattle.acc_machine.specs.Kept.{IsKept}

-- An engine is seen as its disk, the journal's version and base text, its durable states with their places and those that wait, the design
-- and the state, how many events are durable, how many events it began with, the calls with a mark for each that is begun, and whether a
-- fault of the disk ended it.
pub record Journalled (D : Type 0) : Type 0 where
  pub disk : D
  pub version : ℕ
  pub base : List ℕ
  pub seals : List Seal
  pub waiting : List Seal
  pub design : Design
  pub state : World
  pub settled : ℕ
  pub found : ℕ
  pub calls : List Call
  pub begun : List Bool
  pub failed : Bool

-- ---- places

-- whether the place, counted from 0, is begun
abbrev pub is_begun : List Bool → ℕ → Bool
is_begun marks place = slice_index_or marks place false

-- it isn't begun, and each place below it is
pub record IsLowest (marks : List Bool) (place : ℕ) : Type 0 where
  pub below : (p : ℕ) → p < place → is_begun marks p ≡ true
  pub fresh : is_begun marks place ≡ false

-- each call fits its type
abbrev pub CallsFit : Design → List Call → Type 0
CallsFit d calls = All (λ (call : Call). call_fits (slice_get d.types call.ty) call ≡ true) calls

abbrev pub begin_of : Call → Event
begin_of call = Begin call

-- the bytes of the Begin events of the calls that aren't begun; where the marks end, none is
unfoldable pub unbegun : List Bool → List Call → ℕ
unbegun marks [] = 0
unbegun [] (call ∷ calls) = length (event_bytes (Begin call)) + unbegun [] calls
unbegun (true ∷ marks) (call ∷ calls) = unbegun marks calls
unbegun (false ∷ marks) (call ∷ calls) = length (event_bytes (Begin call)) + unbegun marks calls

-- ---- the events since the engine was made

abbrev pub IsNoCrash : Event → Type 0
IsNoCrash (Begin call) = ⊤
IsNoCrash (Step t) = ⊤
IsNoCrash (Abort t (Refused n)) = ⊤
IsNoCrash (Abort t Range) = ⊤
IsNoCrash (Abort t Limit) = ⊤
IsNoCrash (Abort t Asked) = ⊤
IsNoCrash (Abort t Victim) = ⊤
IsNoCrash (Abort t Crash) = ⊥
IsNoCrash (Undo t) = ⊤

abbrev pub call_of : Event → Option Call
call_of (Begin call) = Some call
call_of (Step t) = None
call_of (Abort t c) = None
call_of (Undo t) = None

-- so often the place stands among those that have begun
abbrev pub times_begun : Bool → ℕ
times_begun true = 1
times_begun false = 0

-- none of the events is a crash, and the calls that begin are those of these places, in that order: of the marked ones, each once
pub record BeginsFrom (calls : List Call) (marks : List Bool) (events : List Event) : Type 0 where
  pub no_crash : All IsNoCrash events
  pub places : List ℕ
  pub are : filter_map call_of events ≡ filter_map (λ place. slice_get calls place) places
  pub once : (p : ℕ) → count_by (λ q. q == p) places ≡ times_begun (is_begun marks p)

-- ---- all of it

-- the journal's events are the history; its tail is spelled in few bytes, by the calls that have begun and by the turns
pub record IsInStep (d : Design) (w : World) (durable tail : List Event) (found : ℕ) (calls : List Call) (marks : List Bool) (lowest : ℕ)
    : Type 0 where
  pub state : IsKept d w
  pub same : durable ++ tail ≡ w.events
  pub within : found ≤ length w.events
  pub begins : BeginsFrom calls marks (drop found w.events)
  pub fits : CallsFit d calls
  pub spelled : ℕ
  pub whole : spelled + unbegun marks calls < 2 ^ 31
  pub sized : length (body tail) ≤ spelled + LONGEST_TURN * length tail
  pub below : (p : ℕ) → p < lowest → is_begun marks p ≡ true
