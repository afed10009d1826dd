-- What an event makes of the rows, as writes, and of its transaction.
use Rattle.std.specs.Prelude.{◌≡◌, List, Some, All}
use Rattle.acc_base.specs.declared.tables.Row.{Row}
use Rattle.acc_base.specs.declared.designs.Design.{Design}
use Rattle.acc_base.specs.declared.designs.Side.TheVariants.{Undo as UndoSide}
use Rattle.acc_base.specs.declared.machines.Transaction.{Transaction}
use Rattle.acc_base.specs.declared.machines.Transaction.TheVariants.{Forward, Undoing, Ended}
use Rattle.acc_base.specs.declared.machines.Cause.{Cause}
use Rattle.acc_base.specs.declared.machines.Event.TheVariants.{Step, Undo}
use Rattle.acc_base.specs.declared.machines.Frame.{Frame}
use Rattle.acc_base.specs.Machine.{changed, forward_to, back_to}
use Rattle.acc_base.specs.Turns.{next_event}
use Rattle.acc_store.specs.Rows.{written, IsNarrow}
use Rattle.acc_plain.specs.declared.changes.Becomes.{Becomes}
use Rattle.acc_plain.specs.declared.changes.Becomes.TheVariants.{Turns, Stands, Ends}
use Rattle.acc_step.specs.declared.effects.StepEffect.{StepEffect}
use Rattle.acc_plain.specs.declared.changes.Change.{Change}
use Rattle.acc_plain.specs.declared.changes.Standing.{Standing}
use Rattle.acc_plain.specs.Ahead.{reading_of}

-- a frame whose transaction is undone from here on
abbrev pub turned_back : Frame → Frame
turned_back f = record f { side = UndoSide }

-- a frame that goes on from a point
abbrev pub standing_at : Standing → Frame → Frame
standing_at s f = record f { locals = s.locals; pos = s.pos; point = s.point; steps = s.steps }

-- the transaction that a change leaves
abbrev pub left_by : Becomes → Transaction → Transaction
left_by (Turns c) (Forward f) = Undoing (turned_back f) c
left_by (Turns c) (Undoing f e) = Undoing (turned_back f) c
left_by (Turns c) (Ended reply) = Ended reply
left_by (Stands s) (Forward f) = Forward (standing_at s f)
left_by (Stands s) (Undoing f c) = Undoing (standing_at s f) c
left_by (Stands s) (Ended reply) = Ended reply
left_by (Ends reply) (Forward f) = Ended reply
left_by (Ends reply) (Undoing f c) = Ended reply
left_by (Ends reply) (Ended before) = Ended reply

-- the change is that of the transaction's next turn
pub record IsNextChange (d : Design) (db : List Row) (x : Transaction) (c : Change) : Type 0 where
  pub event : next_event d db (Some x) ≡ Some c.event
  pub changed : changed d db c.event (Some x) ≡ Some (written c.writes db, left_by c.becomes x)
  pub narrow : All IsNarrow c.writes

-- the change of a forward step with this effect
pub record IsStepChange (d : Design) (f : Frame) (e : StepEffect) (c : Change) : Type 0 where
  pub event : c.event ≡ Step f.t
  pub writes : c.writes ≡ e.writes
  pub becomes : forward_to d f (reading_of e) e.target ≡ Some (left_by c.becomes (Forward f))

-- the change of an undo step with this effect
pub record IsBackChange (f : Frame) (cause : Cause) (e : StepEffect) (c : Change) : Type 0 where
  pub event : c.event ≡ Undo f.t
  pub writes : c.writes ≡ e.writes
  pub becomes : back_to f cause (reading_of e) e.target ≡ Some (left_by c.becomes (Undoing f cause))
