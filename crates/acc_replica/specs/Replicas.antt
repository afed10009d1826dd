-- What a replica shows, how that follows from what was fed, and what its calls do.
use Rattle.std.specs.Prelude.{◌≡◌, ◌≢◌, ⊤, ℕ, List, [], ◌∷◌, Option, Some, None, Result, Ok, Err, IfSome}
use Rattle.acc_base.specs.declared.designs.Design.{Design}
use Rattle.acc_base.specs.declared.machines.Event.{Event as TheEvent}
use Rattle.acc_base.specs.Machine.{World, start}
use Rattle.acc_base.specs.Lawful.{IsLawful}
use Rattle.acc_print.specs.Designs.{printed}
use Rattle.acc_wal.specs.declared.items.Item.{Item}
use Rattle.acc_wal.specs.declared.items.Item.TheVariants.{Event, State}
use Rattle.acc_stream.specs.Following.{Streamed, Follows as StreamFollows}
use Rattle.acc_recover.specs.Seals.{IsTextOf}
use Rattle.acc_replica.specs.declared.errors.Advanced.{Advanced}
use Rattle.acc_replica.specs.declared.errors.Advanced.TheVariants.{Event as AnEvent, Seal as ASeal, NotYet}
use Rattle.acc_replica.specs.declared.errors.ReplicaError.{ReplicaError}
use Rattle.acc_replica.specs.declared.errors.ReplicaError.TheVariants.{NotJournal, OtherVersion, OtherDesign, Damaged, Past, Unlawful}
use Rattle.acc_replica.specs.declared.errors.ReplicaError.TheVariants.{Differs, Memory}
use Rattle.acc_replica.specs.Coming.{Come}
use Rattle.acc_replica.specs.Ends.{Ends}
use Rattle.acc_replica.specs.Steps.{IsDue}

-- A replica is seen as its design, the state of the machine after the events that are done, the stream with the items that wait, and the
-- refusal, if it came to one.
pub record Replicated : Type 0 where
  pub design : Design
  pub world : World
  pub stream : Streamed
  pub refused : Option ReplicaError

-- nothing is done, and nothing was refused
pub record IsFresh (r : Replicated) : Type 0 where
  pub world_is : r.world ≡ start
  pub refused_is : r.refused ≡ None

-- These bytes were fed. The stream, of the design's printed text, follows them; the items that were taken from it have come, and led to
-- this state; and the refusal, if there was one, is due.
pub record Follows (fed : List ℕ) (r : Replicated) : Type 0 where
  pub done : List Item
  pub stream : StreamFollows fed done r.stream
  pub base_is : r.stream.base ≡ printed r.design
  pub come : Come r.design start done r.world
  pub refusal : IfSome r.refused (IsDue r.design r.world r.stream)

-- ---- what a call did

-- the next event was done
pub record DidEvent (old new : Replicated) : Type 0 where
  pub event : TheEvent
  pub next : old.stream.waiting ≡ Event event ∷ new.stream.waiting
  pub lawful : IsLawful old.design old.world event new.world
  pub refused_is : new.refused ≡ old.refused

-- the next state was compared, and is the text of the rows
pub record DidSeal (old new : Replicated) : Type 0 where
  pub text : List ℕ
  pub next : old.stream.waiting ≡ State text ∷ new.stream.waiting
  pub is : IsTextOf old.world text
  pub world_is : new.world ≡ old.world
  pub refused_is : new.refused ≡ old.refused

-- that refusal is kept, and nothing else has changed
abbrev pub Keeps : Replicated → Replicated → ReplicaError → Type 0
Keeps old new error = new ≡ record old { refused = Some error }

-- which of these; memory may run out only where an item waits, and then nothing has changed
abbrev pub Advances : Replicated → Replicated → Result Advanced ReplicaError → Type 0
Advances old new (Ok AnEvent) = DidEvent old new
Advances old new (Ok ASeal) = DidSeal old new
Advances old new (Ok NotYet) = (new ≡ old) × (old.stream.waiting ≡ [])
Advances old new (Err Memory) = (new ≡ old) × (old.stream.waiting ≢ [])
Advances old new (Err NotJournal) = Keeps old new NotJournal
Advances old new (Err (OtherVersion version)) = Keeps old new (OtherVersion version)
Advances old new (Err OtherDesign) = Keeps old new OtherDesign
Advances old new (Err (Damaged place)) = Keeps old new (Damaged place)
Advances old new (Err (Past place)) = Keeps old new (Past place)
Advances old new (Err (Unlawful at)) = Keeps old new (Unlawful at)
Advances old new (Err (Differs place)) = Keeps old new (Differs place)

-- where it goes no further, these bytes lead to this state, and then comes the refusal, or all that came whole is done
abbrev pub TellsEnd : Design → List ℕ → Result Advanced ReplicaError → World → Type 0
TellsEnd d fed (Ok AnEvent) here = ⊤
TellsEnd d fed (Ok ASeal) here = ⊤
TellsEnd d fed (Ok NotYet) here = Ends d fed None here
TellsEnd d fed (Err Memory) here = ⊤
TellsEnd d fed (Err NotJournal) here = Ends d fed (Some NotJournal) here
TellsEnd d fed (Err (OtherVersion version)) here = Ends d fed (Some (OtherVersion version)) here
TellsEnd d fed (Err OtherDesign) here = Ends d fed (Some OtherDesign) here
TellsEnd d fed (Err (Damaged place)) here = Ends d fed (Some (Damaged place)) here
TellsEnd d fed (Err (Past place)) here = Ends d fed (Some (Past place)) here
TellsEnd d fed (Err (Unlawful at)) here = Ends d fed (Some (Unlawful at)) here
TellsEnd d fed (Err (Differs place)) here = Ends d fed (Some (Differs place)) here

-- what all calls of advance up to the end tell: NotYet, or the refusal
abbrev pub told_last : Result (Unit {0}) ReplicaError → Result Advanced ReplicaError
told_last (Ok done) = Ok NotYet
told_last (Err error) = Err error
