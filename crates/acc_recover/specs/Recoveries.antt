-- What recovery makes of a history: the state after it, and after the crashes and undo turns that recover this state.
use Rattle.std.specs.Prelude.{◌≡◌, ◌⊎◌, ◌++◌, ℕ, List, length}
use Rattle.acc_base.specs.declared.tables.Row.{Row}
use Rattle.acc_base.specs.declared.designs.Design.{Design}
use Rattle.acc_base.specs.declared.machines.Event.{Event}
use Rattle.acc_base.specs.Machine.{World, start, unfinished}
use Rattle.acc_base.specs.Lawful.{LeadLawfully}
use Rattle.acc_base.specs.Compensation.{Recovers}
use Rattle.acc_wal.specs.Journals.{Counts, CountsAll}
use Rattle.acc_wal.specs.declared.items.Seal.{Seal}
use Rattle.acc_machine.specs.Replays.{HasCome}

-- the recovered state of this history, whose events are the recovered history
pub record IsRecovery (d : Design) (found : List Event) (last : World) : Type 0 where
  pub first : World
  pub comes : LeadLawfully d start found first
  pub more : List Event
  pub recovers : Recovers d first more last
  pub events_are : last.events ≡ found ++ more

-- so many transactions are unfinished after these events
pub record LeavesUnfinished (d : Design) (found : List Event) (count : ℕ) : Type 0 where
  pub first : World
  pub comes : LeadLawfully d start found first
  pub count_is : count ≡ length (unfinished first)

-- some events have led from the one state to the other, and with them each recovery of the latter is one of the former
pub record GoesOn (d : Design) (from now : World) : Type 0 where
  pub more : List Event
  pub events_are : now.events ≡ from.events ++ more
  pub hands_on : (rest : List Event) (last : World) → Recovers d now rest last → Recovers d from (more ++ rest) last

-- the bytes are a journal of this base text with these events, or with the recovered history
abbrev pub CountsRecovered : Design → List ℕ → List Event → List ℕ → Type 0
CountsRecovered d base found image =
    Counts image base found ⊎ ((last : World) × IsRecovery d found last × Counts image base last.events)

-- of this version too, and with these states
abbrev pub CountsAllRecovered : Design → List ℕ → ℕ → List Event → List Seal → List ℕ → Type 0
CountsAllRecovered d base version found seals image =
    CountsAll image base version found seals
    ⊎ ((last : World) × IsRecovery d found last × CountsAll image base version last.events seals)

-- the bytes are those of the file; or, where it is a journal, they are one of what it counts, or of the recovered history
abbrev pub LeavesRecovery : Design → List ℕ → List ℕ → Type 0
LeavesRecovery d file image =
    (image ≡ file) ⊎ ((base : List ℕ) × (found : List Event) × Counts file base found × CountsRecovered d base found image)

-- the rows after some first of these events
abbrev pub AreRowsWithin : Design → List Event → List Row → Type 0
AreRowsWithin d events rows = (w : World) × HasCome d start events w × (rows ≡ w.rows)

-- the rows after some first of the recovered history
abbrev pub AreRowsOfRecovery : Design → List Event → List Row → Type 0
AreRowsOfRecovery d found rows = (last : World) × IsRecovery d found last × AreRowsWithin d last.events rows
