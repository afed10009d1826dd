-- An event that the machine is given: whether it is allowed, and what it changes.
use Rattle.std.specs.Prelude.{◌≡◌, ℕ, Bool, true, false, if◌then◌else◌, List, Option, Some, None, All, IfSome}
use Rattle.acc_base.specs.declared.tables.Row.{Row}
use Rattle.acc_base.specs.declared.designs.Design.{Design}
use Rattle.acc_base.specs.declared.machines.Cause.{Cause}
use Rattle.acc_base.specs.declared.machines.Event.{Event}
use Rattle.acc_base.specs.declared.machines.Event.TheVariants.{Begin, Step, Abort, Undo}
use Rattle.acc_base.specs.declared.machines.Transaction.{Transaction}
use Rattle.acc_base.specs.Machine.{World, is_cause, frame_in, changed, after_event}
use Rattle.acc_store.specs.Rows.{written, IsNarrow}
use Rattle.acc_plain.specs.declared.changes.Change.{Change}
use Rattle.acc_plain.specs.Change.{left_by}

-- the state after the event, or the same where the definition allows no such event
abbrev pub IsTaken : Design → World → World → Event → Bool → Type 0
IsTaken d old new e true = after_event d old e ≡ Some new
IsTaken d old new e false = (after_event d old e ≡ None) × (new ≡ old)

-- the number of an event's transaction; one that begins has none yet
abbrev pub number_in : Event → Option ℕ
number_in (Begin call) = None
number_in (Step t) = Some t
number_in (Abort t c) = Some t
number_in (Undo t) = Some t

-- the event is of this transaction
abbrev pub IsOf : Transaction → Event → Type 0
IsOf x e = IfSome (frame_in x) (λ f. number_in e ≡ Some f.t)

-- the change is what the event makes of the transaction
pub record IsChangeBy (d : Design) (db : List Row) (x : Transaction) (e : Event) (c : Change) : Type 0 where
  pub event : c.event ≡ e
  pub changed : changed d db e (Some x) ≡ Some (written c.writes db, left_by c.becomes x)
  pub narrow : All IsNarrow c.writes

-- the change, if its event is a step
abbrev pub if_step : Change → Event → Option Change
if_step c (Begin call) = None
if_step c (Step t) = Some c
if_step c (Abort t b) = None
if_step c (Undo t) = None

-- the change, if its event is an abort for this cause
abbrev pub if_abort : Cause → Change → Event → Option Change
if_abort cause c (Begin call) = None
if_abort cause c (Step t) = None
if_abort cause c (Abort t b) = if is_cause cause (Some b) then Some c else None
if_abort cause c (Undo t) = None
