-- What comes of the next item of a stream.
use Rattle.std.specs.Prelude.{◌≡◌, length, Option, Some, None, slice_get}
use Rattle.acc_base.specs.declared.designs.Design.{Design}
use Rattle.acc_base.specs.Machine.{World}
use Rattle.acc_base.specs.Lawful.{IsLawful}
use Rattle.acc_machine.specs.Running.{Running}
use Rattle.acc_machine.specs.Takes.{CanCome}
use Rattle.acc_wal.specs.declared.items.Item.{Item}
use Rattle.acc_wal.specs.declared.items.Item.TheVariants.{Event, State}
use Rattle.acc_stream.specs.Following.{Streamed}
use Rattle.acc_stream.specs.declared.faults.Fault.{Fault}
use Rattle.acc_stream.specs.declared.faults.Fault.TheVariants as faults
use Rattle.acc_recover.specs.Seals.{IsTextOf, IsOtherThan}
use Rattle.acc_replica.specs.declared.advancing.Step.{Step}
use Rattle.acc_replica.specs.declared.advancing.Step.TheVariants.{Passed, NotYet as NoneWaits, Refused, Lacks}
use Rattle.acc_replica.specs.declared.errors.Advanced.{Advanced}
use Rattle.acc_replica.specs.declared.errors.Advanced.TheVariants.{Event as AnEvent, Seal as ASeal, NotYet}
use Rattle.acc_replica.specs.declared.errors.ReplicaError.{ReplicaError}
use Rattle.acc_replica.specs.declared.errors.ReplicaError.TheVariants.{NotJournal, OtherVersion, OtherDesign, Damaged, Past, Unlawful}
use Rattle.acc_replica.specs.declared.errors.ReplicaError.TheVariants.{Differs}

-- a stream's fault, in a replica's words
abbrev pub error_for : Fault → ReplicaError
error_for faults.NotJournal = NotJournal
error_for (faults.OtherVersion version) = OtherVersion version
error_for faults.OtherBase = OtherDesign
error_for (faults.Damaged place) = Damaged place
error_for (faults.Past place) = Past place

-- ---- items

-- an item is done: an event comes, and leads on; a state is the text of the rows, and nothing changes
abbrev pub IsDone : Running → Running → Item → Advanced → Type 0
IsDone old new (Event event) AnEvent = (new.design ≡ old.design) × IsLawful old.design old.world event new.world
IsDone old new (State text) ASeal = (new ≡ old) × IsTextOf old.world text
IsDone old new (Event event) ASeal = ⊥
IsDone old new (Event event) NotYet = ⊥
IsDone old new (State text) AnEvent = ⊥
IsDone old new (State text) NotYet = ⊥

-- an item can't be done in this state of the machine, for that reason
abbrev pub IsRefusedFor : Design → World → Item → ReplicaError → Type 0
IsRefusedFor d w (Event event) (Unlawful at) = (at ≡ length w.events) × (¬ CanCome d w event)
IsRefusedFor d w (State text) (Differs place) = (place ≡ length w.events) × IsOtherThan w text
IsRefusedFor d w item error = ⊥

abbrev pub DoesItem : Running → Running → Item → Step → Type 0
DoesItem old new item (Passed told) = IsDone old new item told
DoesItem old new item NoneWaits = ⊥
DoesItem old new item (Refused error) = (new ≡ old) × IsRefusedFor old.design old.world item error
DoesItem old new item Lacks = new ≡ old

-- ---- the next item of a stream, or the fault in its place

-- that refusal is due: the next item can't be done for that reason, or no item waits and this is the stream's fault
abbrev pub IsDueBy : Design → World → Option Item → Option Fault → ReplicaError → Type 0
IsDueBy d w (Some item) ended error = IsRefusedFor d w item error
IsDueBy d w None (Some fault) error = error ≡ error_for fault
IsDueBy d w None None error = ⊥

abbrev pub IsDue : Design → World → Streamed → ReplicaError → Type 0
IsDue d w s error = IsDueBy d w (slice_get s.waiting 0) s.ended error

-- what comes of the next item
abbrev pub DoesFirst : Running → Running → Option Item → Option Fault → Step → Type 0
DoesFirst old new (Some item) ended step = DoesItem old new item step
DoesFirst old new None (Some fault) step = (new ≡ old) × (step ≡ Refused (error_for fault))
DoesFirst old new None None step = (new ≡ old) × (step ≡ NoneWaits)

abbrev pub DoesNext : Running → Running → Streamed → Step → Type 0
DoesNext old new s step = DoesFirst old new (slice_get s.waiting 0) s.ended step
