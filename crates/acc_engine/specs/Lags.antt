-- A journal that lags behind its state by a turn.
use Rattle.std.specs.Prelude.{◌≡◌, ◌≤◌, ◌<◌, ◌+◌, ◌*◌, ◌^◌, ◌++◌, [], ◌∷◌, ℕ, List, length, ⊤}
use Rattle.acc_base.specs.declared.machines.Event.{Event}
use Rattle.acc_base.specs.declared.machines.Event.TheVariants.{Begin, Step, Abort, Undo}
use Rattle.acc_base.specs.declared.machines.Turn.{Turn}
use Rattle.acc_base.specs.declared.machines.Turn.TheVariants.{Stepped, Blocked, Turned, Back, Ended}
use Rattle.acc_wal.specs.declared.writing.TheConstants.{LONGEST_TURN}
use Rattle.acc_wal.specs.Spellings.{body, cause_number}
use Rattle.acc_wal.specs.Wals.{Journal}
use Rattle.acc_machine.specs.Turns.{IsTurnEvent}

-- one event more, which is a turn of that transaction
pub record AddsTurn (t : ℕ) (old new : List Event) : Type 0 where
  pub event : Event
  pub of_turn : IsTurnEvent t event
  pub added : new ≡ old ++ event ∷ []

-- a blocked turn adds no event, each other one
abbrev pub Lags : {D : Type 0} → ℕ → Turn → List Event → Journal D → Type 0
Lags t (Blocked u entry) events wal = wal.durable ++ wal.tail ≡ events
Lags t (Stepped at) events wal = AddsTurn t (wal.durable ++ wal.tail) events
Lags t (Turned cause) events wal = AddsTurn t (wal.durable ++ wal.tail) events
Lags t (Back at) events wal = AddsTurn t (wal.durable ++ wal.tail) events
Lags t Ended events wal = AddsTurn t (wal.durable ++ wal.tail) events

-- it has caught up, by events no longer than a turn's
pub record CatchesUp {D : Type 0} (events : List Event) (old new : Journal D) : Type 0 where
  pub same : new.durable ++ new.tail ≡ events
  pub disk : new.disk ≡ old.disk
  pub base : new.base ≡ old.base
  pub version : new.version ≡ old.version
  pub seals : new.seals ≡ old.seals
  pub durable : new.durable ≡ old.durable
  pub waiting : new.waiting ≡ old.waiting
  pub spent : new.spent ≡ old.spent
  pub brief : length (body new.tail) + LONGEST_TURN * length old.tail ≤ length (body old.tail) + LONGEST_TURN * length new.tail

-- the last event is a turn
pub record EndsInTurn (events : List Event) : Type 0 where
  pub t : ℕ
  pub before : List Event
  pub event : Event
  pub of_turn : IsTurnEvent t event
  pub is : events ≡ before ++ event ∷ []

-- the number of a cause fits its field
abbrev pub HasSmallCause : Event → Type 0
HasSmallCause (Begin call) = ⊤
HasSmallCause (Step t) = ⊤
HasSmallCause (Abort t cause) = cause_number cause < 2 ^ 32
HasSmallCause (Undo t) = ⊤
