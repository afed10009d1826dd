-- A turn of an unfinished transaction, by the change that its next event makes.
use Rattle.std.proofs.Common.{◌≡◌, ℕ, zero, suc, ◌-◌, ◌<◌, List, [], ◌∷◌, Bool, true, false, Option, Some, None, refl, sym, ap, subst, ◌∙◌}
use Rattle.std.proofs.Common.{arith, set}
use Rattle.std.specs.Prelude.{◌==◌, option_and_then, slice_get, IsSome, IsSomeAnd, if◌then◌else◌}
use Rattle.std.proofs.lemmas.Bool.Decides.{nat_tests}
use Rattle.acc_base.specs.declared.designs.Design.{Design}
use Rattle.acc_base.specs.declared.designs.Side.TheVariants.{Undo as UndoSide}
use Rattle.acc_base.specs.declared.machines.Cause.{Cause}
use Rattle.acc_base.specs.declared.machines.Event.{Event}
use Rattle.acc_base.specs.declared.machines.Event.TheVariants.{Step, Abort, Undo}
use Rattle.acc_base.specs.declared.machines.Frame.{Frame}
use Rattle.acc_base.specs.declared.machines.Transaction.{Transaction}
use Rattle.acc_base.specs.declared.machines.Transaction.TheVariants.{Forward, Undoing, Ended}
use Rattle.acc_base.specs.Effects.{Effect, Goes, Refuses, OutOfRange, effect_of}
use Rattle.acc_base.specs.Machine.{World, stop_of, after_event, becomes, became, changed, transaction_at, frame_in}
use Rattle.acc_base.specs.Turns.{forward_event, undo_event, next_event, said, said_of, turn_of}
use Rattle.acc_store.specs.Rows.{written}
use Rattle.acc_plain.specs.declared.changes.Change.{Change}
use Rattle.acc_plain.specs.Change.{left_by, IsNextChange}
use Rattle.acc_plain.specs.Kept.{IsNumbered}
use Rattle.acc_base.specs.declared.steps.Target.TheVariants.{Refuse}
use Rattle.acc_base.specs.declared.tables.Row.{Row}
use Rattle.acc_base.specs.Runnable.{IsRunnable}
use Rattle.acc_plain.proofs.AheadLemmas.{can_end}
use Rattle.acc_plain.specs.Turned.{IsUnfinished, UndoesOutOfRange, IsOutOfRange}

-- an unfinished transaction stands at its place
pub record IsFound (t : ℕ) (w : World) : Type 0 where
  pub x : Transaction
  pub at : transaction_at t w.transactions ≡ Some x
  pub from_one : 0 < t
  pub got : slice_get w.transactions (t - 1) ≡ Some x
  pub open_frame : IsSome (frame_in x)

some_from : {X : Type 0} (P : X → Type 0) (o : Option X) → IsSomeAnd o P → (x : X) × (o ≡ Some x) × P x
some_from P None h = absurd h
some_from P (Some x) h = (x, refl, h)

pub at_place : (t : ℕ) (ts : List Transaction) (x : Transaction) → transaction_at t ts ≡ Some x → (0 < t) × (slice_get ts (t - 1) ≡ Some x)
at_place t ts x h = by (t == 0) refl h
  where
    by : (b : Bool) → (t == 0) ≡ b → (if b then None else slice_get ts (t - 1)) ≡ Some x → (0 < t) × (slice_get ts (t - 1) ≡ Some x)
    by true e k = absurd cc
    by false e k = (grind (arith, nat_tests), k)

set_got : (ts : List Transaction) (i : ℕ) (x y : Transaction) → slice_get ts i ≡ Some x → slice_get (set ts i y) i ≡ Some y
set_got [] i x y h = absurd cc
set_got (z ∷ ts) zero x y h = refl
set_got (z ∷ ts) (suc i) x y h = set_got ts i x y h

-- what a transaction is set to is there
pub at_set : (t : ℕ) (ts : List Transaction) (x y : Transaction) → transaction_at t ts ≡ Some x →
    transaction_at t (set ts (t - 1) y) ≡ Some y
at_set t ts x y h = by (t == 0) h
  where
    by : (b : Bool) → (if b then None else slice_get ts (t - 1)) ≡ Some x →
        (if b then None else slice_get (set ts (t - 1) y) (t - 1)) ≡ Some y
    by true k = absurd cc
    by false k = set_got ts (t - 1) x y k

pub found : (t : ℕ) (w : World) → IsUnfinished t w → IsFound t w
found t w h =
    let k = some_from (λ x. IsSome (frame_in x)) (transaction_at t w.transactions) h in
    let place = at_place t w.transactions k.0 k.1 in
    record { x = k.0; at = k.1; from_one = place.0; got = place.1; open_frame = k.2 }

-- ---- the event of a turn is the transaction's own

own_forward : (d : Design) (w : World) (t : ℕ) (f : Frame) (stop : Option Cause) (e : Event) → f.t ≡ t → forward_event f.t stop ≡ e →
    after_event d w e ≡ becomes w e t (changed d w.rows e (transaction_at t w.transactions))
own_forward d w t f None e n h = subst (λ (z : Event). after_event d w z ≡ becomes w z t
    (changed d w.rows z (transaction_at t w.transactions))) (ap Step (sym n) ∙ h) refl
own_forward d w t f (Some c) e n h = subst (λ (z : Event). after_event d w z ≡ becomes w z t
    (changed d w.rows z (transaction_at t w.transactions))) (ap (λ (k : ℕ). Abort k c) (sym n) ∙ h) refl

own_undo : (d : Design) (w : World) (t : ℕ) (f : Frame) (effect : Effect) (e : Event) → f.t ≡ t → undo_event f.t effect ≡ Some e →
    after_event d w e ≡ becomes w e t (changed d w.rows e (transaction_at t w.transactions))
own_undo d w t f (Goes db s i to) e n h =
    let k : Undo f.t ≡ e = cc in
    subst (λ (z : Event). after_event d w z ≡ becomes w z t (changed d w.rows z (transaction_at t w.transactions))) (ap Undo (sym n) ∙ k)
    refl
own_undo d w t f (Refuses s m) e n h = absurd cc
own_undo d w t f OutOfRange e n h = absurd cc

own : (d : Design) (w : World) (t : ℕ) (x : Transaction) (e : Event) → IsNumbered t x → next_event d w.rows (Some x) ≡ Some e →
    after_event d w e ≡ becomes w e t (changed d w.rows e (transaction_at t w.transactions))
own d w t (Forward f) e n h = let k : forward_event f.t (stop_of d w.rows f) ≡ e = cc in own_forward d w t f (stop_of d w.rows f) e n k
own d w t (Undoing f c) e n h = own_undo d w t f (effect_of d w.rows f UndoSide) e n h
own d w t (Ended reply) e n h = absurd cc

-- ---- the state after it, and what is said of it

module _ (d : Design) (w : World) (t : ℕ) (x : Transaction) (c : Change) (at : transaction_at t w.transactions ≡ Some x)
    (n : IsNumbered t x) (change : IsNextChange d w.rows x c) where
  pub world_after : World
  world_after = became w c.event t (written c.writes w.rows, left_by c.becomes x)

  change_is : changed d w.rows c.event (transaction_at t w.transactions) ≡ Some (written c.writes w.rows, left_by c.becomes x)
  change_is = ap (changed d w.rows c.event) at ∙ change.changed

  pub turn_happens : after_event d w c.event ≡ Some (became w c.event t (written c.writes w.rows, left_by c.becomes x))
  turn_happens = own d w t x c.event n change.event ∙ ap (becomes w c.event t) change_is

  pub turn_is : turn_of d w t ≡ Some (said c.event (left_by c.becomes x), became w c.event t (written c.writes w.rows, left_by c.becomes x))
  turn_is =
      ap (λ (o : Option Transaction). option_and_then (λ e. said_of w e t (changed d w.rows e (transaction_at t w.transactions)))
      (next_event d w.rows o)) at
      ∙ ap (option_and_then (λ e. said_of w e t (changed d w.rows e (transaction_at t w.transactions)))) change.event
      ∙ ap (said_of w c.event t) change_is

-- no next event, no turn
pub no_turn : (d : Design) (w : World) (t : ℕ) (x : Transaction) → transaction_at t w.transactions ≡ Some x →
    next_event d w.rows (Some x) ≡ None → turn_of d w t ≡ None
no_turn d w t x at none =
    ap (λ (o : Option Transaction). option_and_then (λ e. said_of w e t (changed d w.rows e (transaction_at t w.transactions)))
    (next_event d w.rows o)) at
    ∙ ap (option_and_then (λ e. said_of w e t (changed d w.rows e (transaction_at t w.transactions)))) none

-- ---- a transaction without a next event is being undone, and a number of its undo step is out of range

undo_stops : (d : Design) (db : List Row) (f : Frame) (effect : Effect) → IsRunnable d → effect_of d db f UndoSide ≡ effect →
    undo_event f.t effect ≡ None → effect_of d db f UndoSide ≡ OutOfRange
undo_stops d db f (Goes left s i to) can is none = absurd cc
undo_stops d db f (Refuses s n) can is none = absurd (can_end d db f UndoSide (Refuse n) db s 0 can is)
undo_stops d db f OutOfRange can is none = is

stops_so : (d : Design) (db : List Row) (x : Transaction) → IsRunnable d → IsSome (frame_in x) → next_event d db (Some x) ≡ None →
    UndoesOutOfRange d db x
stops_so d db (Forward f) can unended none = absurd cc
stops_so d db (Undoing f c) can unended none = undo_stops d db f (effect_of d db f UndoSide) can refl none
stops_so d db (Ended reply) can unended none = absurd cc

-- no next event: the undo step is out of range
pub stops : (d : Design) (w : World) (t : ℕ) (x : Transaction) → IsRunnable d → IsUnfinished t w →
    transaction_at t w.transactions ≡ Some x → next_event d w.rows (Some x) ≡ None → IsOutOfRange d w t
stops d w t x can unended at none =
    let frame : IsSome (frame_in x) = subst (λ (o : Option Transaction). IsSomeAnd o (λ y. IsSome (frame_in y))) at unended in
    subst (λ (o : Option Transaction). IsSomeAnd o (UndoesOutOfRange d w.rows)) (sym at) (stops_so d w.rows x can frame none)

goes_by : (d : Design) (db : List Row) (x : Transaction) (e : Event) → next_event d db (Some x) ≡ Some e → UndoesOutOfRange d db x → ⊥
goes_by d db (Forward f) e has out = absurd out
goes_by d db (Undoing f c) e has out = let none : undo_event f.t OutOfRange ≡ Some e = ap (undo_event f.t) (sym out) ∙ has in absurd cc
goes_by d db (Ended reply) e has out = absurd out

-- with a next event the undo step is in range
pub goes : (d : Design) (w : World) (t : ℕ) (x : Transaction) (e : Event) → transaction_at t w.transactions ≡ Some x →
    next_event d w.rows (Some x) ≡ Some e → IsOutOfRange d w t → ⊥
goes d w t x e at has out =
    goes_by d w.rows x e has (subst (λ (o : Option Transaction). IsSomeAnd o (UndoesOutOfRange d w.rows)) at out)
