-- What a turn of the machine answers.
use Rattle.std.specs.Prelude.{◌≡◌, ℕ, List, Option, Some, None, IsSome, IsSomeAnd}
use Rattle.acc_base.specs.declared.tables.Row.{Row}
use Rattle.acc_base.specs.declared.designs.Design.{Design}
use Rattle.acc_base.specs.declared.machines.Cause.{Cause}
use Rattle.acc_base.specs.declared.machines.Event.{Event}
use Rattle.acc_base.specs.declared.machines.Event.TheVariants.{Begin, Step, Abort, Undo}
use Rattle.acc_base.specs.declared.machines.Transaction.{Transaction}
use Rattle.acc_base.specs.declared.machines.Transaction.TheVariants.{Forward, Undoing, Ended}
use Rattle.acc_base.specs.declared.machines.Turn.{Turn}
use Rattle.acc_base.specs.declared.designs.Side.TheVariants.{Undo as UndoSide}
use Rattle.acc_base.specs.Effects.{OutOfRange, effect_of}
use Rattle.acc_base.specs.Machine.{World, transaction_at, frame_in}
use Rattle.acc_base.specs.Turns.{turn_of}

-- the transaction has begun and hasn't ended
abbrev pub IsUnfinished : ℕ → World → Type 0
IsUnfinished t w = IsSomeAnd (transaction_at t w.transactions) (λ x. IsSome (frame_in x))

-- a number of the transaction's undo step is out of range
abbrev pub UndoesOutOfRange : Design → List Row → Transaction → Type 0
UndoesOutOfRange d db (Forward f) = ⊥
UndoesOutOfRange d db (Undoing f c) = effect_of d db f UndoSide ≡ OutOfRange
UndoesOutOfRange d db (Ended reply) = ⊥

-- the transaction is being undone, and can't take its undo step now
abbrev pub IsOutOfRange : Design → World → ℕ → Type 0
IsOutOfRange d w t = IsSomeAnd (transaction_at t w.transactions) (UndoesOutOfRange d w.rows)

-- the turn and the state after it, or none, and then nothing has changed
abbrev pub IsTurned : Design → World → World → ℕ → Option Turn → Type 0
IsTurned d old new t (Some turn) = turn_of d old t ≡ Some (turn, new)
IsTurned d old new t None = (turn_of d old t ≡ None) × (new ≡ old)

-- why an event turns its transaction, if it does
abbrev pub cause_in : Event → Option Cause
cause_in (Begin call) = None
cause_in (Step t) = None
cause_in (Abort t c) = Some c
cause_in (Undo t) = None
