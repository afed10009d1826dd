-- Where the bytes of a stream lead, and why no further.
use Rattle.std.specs.Prelude.{◌≡◌, ℕ, List, ◌∷◌, ◌++◌, length, Option, Some, None}
use Rattle.acc_base.specs.declared.designs.Design.{Design}
use Rattle.acc_base.specs.declared.machines.Event.{Event as TheEvent}
use Rattle.acc_base.specs.Machine.{World, start}
use Rattle.acc_print.specs.Designs.{printed}
use Rattle.acc_machine.specs.Takes.{CanCome}
use Rattle.acc_wal.specs.Items.{events_of}
use Rattle.acc_wal.specs.declared.items.Item.{Item}
use Rattle.acc_wal.specs.declared.items.Item.TheVariants.{Event, State}
use Rattle.acc_stream.specs.declared.faults.Fault.{Fault}
use Rattle.acc_stream.specs.declared.faults.Fault.TheVariants as faults
use Rattle.acc_stream.specs.Streams.{IsStream, AreWhole}
use Rattle.acc_recover.specs.Seals.{IsOtherThan}
use Rattle.acc_replica.specs.declared.errors.ReplicaError.{ReplicaError}
use Rattle.acc_replica.specs.declared.errors.ReplicaError.TheVariants.{NotJournal, OtherVersion, OtherDesign, Damaged, Past, Unlawful}
use Rattle.acc_replica.specs.declared.errors.ReplicaError.TheVariants.{Differs, Memory}
use Rattle.acc_replica.specs.Coming.{Come}

-- all items of the whole batches have come, and behind them stands this fault, or none
pub record HasAll (d : Design) (fed : List ℕ) (ended : Option Fault) (here : World) : Type 0 where
  pub items : List Item
  pub stream : IsStream (printed d) fed items ended
  pub come : Come d start items here

-- these items of the whole batches have come, and this one is next
pub record IsNextAt (d : Design) (fed : List ℕ) (done : List Item) (item : Item) (here : World) : Type 0 where
  pub later : List Item
  pub whole : AreWhole (printed d) fed (done ++ item ∷ later)
  pub come : Come d start done here

-- the next one is an event that isn't lawful, with so many events before it
pub record IsUnlawfulIn (d : Design) (fed : List ℕ) (at : ℕ) (here : World) : Type 0 where
  pub done : List Item
  pub event : TheEvent
  pub next : IsNextAt d fed done (Event event) here
  pub unlawful : ¬ CanCome d here event
  pub at_is : at ≡ length (events_of done)

-- the next one is a state with another text than the rows, or with something unfinished, with so many events before it
pub record IsDifferentIn (d : Design) (fed : List ℕ) (place : ℕ) (here : World) : Type 0 where
  pub done : List Item
  pub text : List ℕ
  pub next : IsNextAt d fed done (State text) here
  pub other : IsOtherThan here text
  pub place_is : place ≡ length (events_of done)

-- the bytes lead to this state, and then comes this refusal, or all that came whole is done
abbrev pub Ends : Design → List ℕ → Option ReplicaError → World → Type 0
Ends d fed None here = HasAll d fed None here
Ends d fed (Some NotJournal) here = HasAll d fed (Some faults.NotJournal) here
Ends d fed (Some (OtherVersion version)) here = HasAll d fed (Some (faults.OtherVersion version)) here
Ends d fed (Some OtherDesign) here = HasAll d fed (Some faults.OtherBase) here
Ends d fed (Some (Damaged place)) here = HasAll d fed (Some (faults.Damaged place)) here
Ends d fed (Some (Past place)) here = HasAll d fed (Some (faults.Past place)) here
Ends d fed (Some (Unlawful at)) here = IsUnlawfulIn d fed at here
Ends d fed (Some (Differs place)) here = IsDifferentIn d fed place here
Ends d fed (Some Memory) here = ⊥
