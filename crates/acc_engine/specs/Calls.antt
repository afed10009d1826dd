-- What an engine's calls answer, and what they leave.
use Rattle.std.specs.Prelude.{◌≡◌, ◌≢◌, ◌≤◌, ◌<◌, ℕ, Bool, true, false, List, length, slice_get, Some, Result, Ok, Err}
use Rattle.acc_base.specs.declared.bounds.TheConstants.{MOST_EVENTS, MOST_UNFINISHED}
use Rattle.acc_base.specs.declared.machines.Call.{Call}
use Rattle.acc_base.specs.declared.machines.Event.{Event}
use Rattle.acc_base.specs.declared.machines.Event.TheVariants.{Begin}
use Rattle.acc_base.specs.Machine.{unfinished, next_number, after_event}
use Rattle.acc_machine.specs.declared.errors.BeginError.{BeginError}
use Rattle.acc_machine.specs.declared.errors.BeginError.TheVariants.{Full as TooMany, Crowd as TooOpen, Memory as NoMemory}
use Rattle.acc_engine.specs.Keeping.{Journalled, is_begun, IsLowest}
use Rattle.acc_engine.specs.declared.errors.EngineError.{EngineError}
use Rattle.acc_engine.specs.declared.errors.EngineError.TheVariants.{Disk, Failed, Memory}
use Rattle.acc_engine.specs.declared.errors.Drawn.{Drawn}
use Rattle.acc_engine.specs.declared.errors.Drawn.TheVariants.{Begun, Empty, Full, Crowd}

-- nothing but the state, the states that wait, the marks and the journal's memory have changed
pub record StaysBut {D : Type 0} (old new : Journalled D) : Type 0 where
  pub disk : new.disk ≡ old.disk
  pub version : new.version ≡ old.version
  pub base : new.base ≡ old.base
  pub seals : new.seals ≡ old.seals
  pub design : new.design ≡ old.design
  pub settled : new.settled ≡ old.settled
  pub found : new.found ≡ old.found
  pub calls : new.calls ≡ old.calls
  pub failed : new.failed ≡ old.failed

-- the state is as before, and the same places are begun
pub record IsUnmoved {D : Type 0} (old new : Journalled D) : Type 0 where
  pub state : new.state ≡ old.state
  pub marks : (p : ℕ) → is_begun new.begun p ≡ is_begun old.begun p

-- why a turn isn't taken, or a place not begun
abbrev pub RefusesTurn : EngineError → Bool → Type 0
RefusesTurn Disk failed = ⊥
RefusesTurn Failed failed = failed ≡ true
RefusesTurn Memory failed = failed ≡ false

-- why the history doesn't settle
abbrev pub RefusesSettling : EngineError → Bool → Bool → Type 0 → Type 0
RefusesSettling Disk before now fault = (before ≡ false) × (now ≡ true) × fault
RefusesSettling Failed before now fault = before ≡ true
RefusesSettling Memory before now fault = ⊥

-- the event by which the call of that place, counted from 0, begins
pub record IsBeginAt (calls : List Call) (place : ℕ) (event : Event) : Type 0 where
  pub call : Call
  pub is_call : slice_get calls place ≡ Some call
  pub event_is : event ≡ Begin call

-- the place's call has begun, as the next transaction, and of the places this one has a mark more
pub record Begins {D : Type 0} (place t : ℕ) (old new : Journalled D) : Type 0 where
  pub call : Call
  pub is_call : slice_get old.calls place ≡ Some call
  pub begins : after_event old.design old.state (Begin call) ≡ Some new.state
  pub number : t ≡ next_number old.state
  pub here : is_begun new.begun place ≡ true
  pub others : (p : ℕ) → p ≢ place → is_begun new.begun p ≡ is_begun old.begun p

-- what comes of beginning the place: where it doesn't begin, nothing has moved
abbrev pub Draws : {D : Type 0} → Drawn → ℕ → Journalled D → Journalled D → Type 0
Draws (Begun t) place old new =
    Begins place t old new × (length old.state.events < MOST_EVENTS) × (length (unfinished old.state) < MOST_UNFINISHED)
Draws Empty place old new = ⊥
Draws Full place old new = (MOST_EVENTS ≤ length old.state.events) × IsUnmoved old new
Draws Crowd place old new =
    (length old.state.events < MOST_EVENTS) × (MOST_UNFINISHED ≤ length (unfinished old.state)) × IsUnmoved old new

-- the lowest place that isn't begun
pub record IsNextPlace (calls : List Call) (marks : List Bool) (place : ℕ) : Type 0 where
  pub lowest : IsLowest marks place
  pub within : place < length calls

-- this comes of beginning the lowest place; or each is begun already
abbrev pub DrawsLowest : {D : Type 0} → Drawn → Journalled D → Journalled D → Type 0
DrawsLowest (Begun t) old new = (place : ℕ) × IsNextPlace old.calls old.begun place × Draws (Begun t) place old new
DrawsLowest Empty old new = ((p : ℕ) → p < length old.calls → is_begun old.begun p ≡ true) × IsUnmoved old new
DrawsLowest Full old new = (place : ℕ) × IsNextPlace old.calls old.begun place × Draws Full place old new
DrawsLowest Crowd old new = (place : ℕ) × IsNextPlace old.calls old.begun place × Draws Crowd place old new

-- what is answered where a call doesn't begin
abbrev pub answer_for : BeginError → Result Drawn EngineError
answer_for TooMany = Ok Full
answer_for TooOpen = Ok Crowd
answer_for NoMemory = Err Memory

-- why a state isn't put and settled: a fault of the disk, an earlier one, or want of memory before the disk was called
abbrev pub StopsSealing : EngineError → Bool → Bool → Type 0 → Type 0
StopsSealing Disk before now fault = (before ≡ false) × (now ≡ true) × fault
StopsSealing Failed before now fault = before ≡ true
StopsSealing Memory before now fault = (before ≡ false) × (now ≡ false)
