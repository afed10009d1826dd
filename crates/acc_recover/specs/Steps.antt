-- A state and its journal, in step.
use Rattle.std.specs.Prelude.{◌≡◌, ◌≤◌, ◌*◌, ◌++◌, List, [], length, false}
use Rattle.acc_base.specs.declared.machines.Event.{Event}
use Rattle.acc_wal.specs.declared.writing.TheConstants.{LONGEST_TURN}
use Rattle.acc_wal.specs.Spellings.{body}
use Rattle.acc_wal.specs.Wals.{Journal}

-- the journal's events are these, those of the tail are short, no state waits, and it isn't spent
pub record InStep {D : Type 0} (events : List Event) (wal : Journal D) : Type 0 where
  pub same : wal.durable ++ wal.tail ≡ events
  pub short : length (body wal.tail) ≤ LONGEST_TURN * length wal.tail
  pub quiet : wal.waiting ≡ []
  pub unspent : wal.spent ≡ false

-- nothing but the tail and the room has changed
pub record TailOnly {D : Type 0} (old new : Journal D) : Type 0 where
  pub disk : new.disk ≡ old.disk
  pub base : new.base ≡ old.base
  pub version : new.version ≡ old.version
  pub seals : new.seals ≡ old.seals
  pub durable : new.durable ≡ old.durable
