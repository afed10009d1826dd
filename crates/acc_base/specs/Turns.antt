-- A turn of a transaction on the plain machine: which event it is, and what is said of it.
use Rattle.std.specs.Prelude.{ℕ, List, Option, Some, None, option_and_then}
use Rattle.acc_base.specs.declared.tables.Row.{Row}
use Rattle.acc_base.specs.declared.designs.Design.{Design}
use Rattle.acc_base.specs.declared.designs.Side.TheVariants.{Undo as UndoSide}
use Rattle.acc_base.specs.declared.machines.Cause.{Cause}
use Rattle.acc_base.specs.declared.machines.Event.{Event}
use Rattle.acc_base.specs.declared.machines.Event.TheVariants.{Begin, Step, Abort, Undo}
use Rattle.acc_base.specs.declared.machines.Transaction.{Transaction}
use Rattle.acc_base.specs.declared.machines.Transaction.TheVariants.{Forward, Undoing, Ended}
use Rattle.acc_base.specs.declared.machines.Turn.{Turn}
use Rattle.acc_base.specs.declared.machines.Turn.TheVariants as turn
use Rattle.acc_base.specs.Effects.{Effect, Goes, Refuses, OutOfRange, effect_of}
use Rattle.acc_base.specs.Machine.{World, stop_of, transaction_at, changed, became}

-- a forward transaction turns where something stops it, and else takes its step
abbrev pub forward_event : ℕ → Option Cause → Event
forward_event t None = Step t
forward_event t (Some c) = Abort t c

-- one that is being undone takes its undo step, but where a number of it leaves the range
abbrev pub undo_event : ℕ → Effect → Option Event
undo_event t (Goes db s i to) = Some (Undo t)
undo_event t (Refuses s n) = None
undo_event t OutOfRange = None

-- the event of a transaction's next turn, if it has one
abbrev pub next_event : Design → List Row → Option Transaction → Option Event
next_event d db (Some (Forward f)) = Some (forward_event f.t (stop_of d db f))
next_event d db (Some (Undoing f c)) = undo_event f.t (effect_of d db f UndoSide)
next_event d db (Some (Ended reply)) = None
next_event d db None = None

-- where a transaction stands after its step
abbrev pub standing : Transaction → Turn
standing (Forward f) = turn.Stepped (record { ty = f.ty; point = f.point })
standing (Undoing f c) = turn.Back (record { ty = f.ty; point = f.point })
standing (Ended reply) = turn.Ended

-- what is said of a turn: that the transaction turned and why, or where it stands now
abbrev pub said : Event → Transaction → Turn
said (Begin call) x = standing x
said (Step t) x = standing x
said (Abort t c) x = turn.Turned c
said (Undo t) x = standing x

abbrev pub said_of : World → Event → ℕ → Option (List Row × Transaction) → Option (Turn × World)
said_of w e t None = None
said_of w e t (Some x) = Some (said e x.1, became w e t x)

-- the next turn of transaction t: what is said of it, and the state after it
abbrev pub turn_of : Design → World → ℕ → Option (Turn × World)
turn_of d w t =
    option_and_then (λ e. said_of w e t (changed d w.rows e (transaction_at t w.transactions)))
    (next_event d w.rows (transaction_at t w.transactions))
