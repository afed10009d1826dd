-- What the rows behind an event have: what the effect of its step leaves, or what was there before.
use Rattle.std.proofs.Common.{◌≡◌, ℕ, List, Bool, true, false, Option, Some, None, refl, subst}
use Rattle.std.specs.Prelude.{slice_get, if◌then◌else◌}
use Rattle.std.proofs.lemmas.Option.{none-some, same_Some}
use Rattle.acc_base.specs.declared.tables.Row.{Row}
use Rattle.acc_base.specs.declared.designs.Design.{Design}
use Rattle.acc_base.specs.declared.designs.Side.{Side}
use Rattle.acc_base.specs.declared.designs.Side.TheVariants.{Next, Undo as UndoSide}
use Rattle.acc_base.specs.declared.steps.Target.{Target}
use Rattle.acc_base.specs.declared.machines.Call.{Call}
use Rattle.acc_base.specs.declared.machines.Cause.{Cause}
use Rattle.acc_base.specs.declared.machines.Event.{Event}
use Rattle.acc_base.specs.declared.machines.Event.TheVariants.{Begin, Step, Abort, Undo}
use Rattle.acc_base.specs.declared.machines.Frame.{Frame}
use Rattle.acc_base.specs.declared.machines.Transaction.{Transaction}
use Rattle.acc_base.specs.declared.machines.Transaction.TheVariants.{Forward, Undoing, Ended}
use Rattle.acc_base.specs.Reads.{Reading}
use Rattle.acc_base.specs.Effects.{Effect, Goes, Refuses, OutOfRange, effect_of}
use Rattle.acc_base.specs.Machine.{World, stop_of, may_turn, after_event, becomes, became, with_begun, call_fits, changed, stepped, turned}
use Rattle.acc_base.specs.Machine.{undone, step_by, forward_by, back_by, forward_to, back_to, with_rows, transaction_at}

-- what an effect leaves has it, where it goes on or ends
abbrev pub EffectHas : Design → List Row → (List Row → Type 0) → Frame → Side → Type 0
EffectHas d db Q f side = (after : List Row) (s : Reading) (i : ℕ) (to : Target) → effect_of d db f side ≡ Goes after s i to → Q after

module _ (d : Design) (db : List Row) (Q : List Row → Type 0) where
  rows_of : (after : List Row) (o : Option Transaction) (x : List Row × Transaction) → Q after → with_rows after o ≡ Some x → Q x.0
  rows_of after None x k h = absurd (none-some x h)
  rows_of after (Some y) x k h = subst (λ (z : List Row × Transaction). Q z.0) (same_Some (after, y) x h) k

  forward : (f : Frame) (effect : Effect) (x : List Row × Transaction) → EffectHas d db Q f Next → effect_of d db f Next ≡ effect →
      forward_by d f effect ≡ Some x → Q x.0
  forward f (Goes after s i to) x has e h = rows_of after (forward_to d f s to) x (has after s i to e) h
  forward f (Refuses s n) x has e h = absurd (none-some x h)
  forward f OutOfRange x has e h = absurd (none-some x h)

  back : (f : Frame) (c : Cause) (effect : Effect) (x : List Row × Transaction) → EffectHas d db Q f UndoSide →
      effect_of d db f UndoSide ≡ effect → back_by f c effect ≡ Some x → Q x.0
  back f c (Goes after s i to) x has e h = rows_of after (back_to f c s to) x (has after s i to e) h
  back f c (Refuses s n) x has e h = absurd (none-some x h)
  back f c OutOfRange x has e h = absurd (none-some x h)

  by_stop : (f : Frame) (stop : Option Cause) (x : List Row × Transaction) → EffectHas d db Q f Next → step_by d db f stop ≡ Some x → Q x.0
  by_stop f None x has h = forward f (effect_of d db f Next) x has refl h
  by_stop f (Some c) x has h = absurd (none-some x h)

  by_step : (o : Option Transaction) (x : List Row × Transaction) → ((f : Frame) → o ≡ Some (Forward f) → EffectHas d db Q f Next) →
      stepped d db o ≡ Some x → Q x.0
  by_step None x has h = absurd (none-some x h)
  by_step (Some (Forward f)) x has h = by_stop f (stop_of d db f) x (has f refl) h
  by_step (Some (Undoing f c)) x has h = absurd (none-some x h)
  by_step (Some (Ended r)) x has h = absurd (none-some x h)

  by_leave : (y : Transaction) (b : Bool) (x : List Row × Transaction) → Q db → (if b then Some (db, y) else None) ≡ Some x → Q x.0
  by_leave y true x same h = subst (λ (z : List Row × Transaction). Q z.0) (same_Some (db, y) x h) same
  by_leave y false x same h = absurd (none-some x h)

  by_turn : (c : Cause) (o : Option Transaction) (x : List Row × Transaction) → Q db → turned d db c o ≡ Some x → Q x.0
  by_turn c None x same h = absurd (none-some x h)
  by_turn c (Some (Forward f)) x same h = by_leave (Undoing (record f { side = UndoSide }) c) (may_turn d db f c) x same h
  by_turn c (Some (Undoing f e)) x same h = absurd (none-some x h)
  by_turn c (Some (Ended r)) x same h = absurd (none-some x h)

  by_undo : (o : Option Transaction) (x : List Row × Transaction) →
      ((f : Frame) (c : Cause) → o ≡ Some (Undoing f c) → EffectHas d db Q f UndoSide) → undone d db o ≡ Some x → Q x.0
  by_undo None x has h = absurd (none-some x h)
  by_undo (Some (Forward f)) x has h = absurd (none-some x h)
  by_undo (Some (Undoing f c)) x has h = back f c (effect_of d db f UndoSide) x (has f c refl) refl h
  by_undo (Some (Ended r)) x has h = absurd (none-some x h)

-- ---- events

module _ (Q : List Row → Type 0) where
  became_has : (w : World) (e : Event) (t : ℕ) (o : Option (List Row × Transaction)) (w2 : World) →
      ((x : List Row × Transaction) → o ≡ Some x → Q x.0) → becomes w e t o ≡ Some w2 → Q w2.rows
  became_has w e t None w2 has h = absurd (none-some w2 h)
  became_has w e t (Some x) w2 has h = subst (λ (z : World). Q z.rows) (same_Some (became w e t x) w2 h) (has x refl)

  begun_has : (y : World) (b : Bool) (w2 : World) → Q y.rows → (if b then Some y else None) ≡ Some w2 → Q w2.rows
  begun_has y true w2 same h = subst (λ (z : World). Q z.rows) (same_Some y w2 h) same
  begun_has y false w2 same h = absurd (none-some w2 h)

  module _ (d : Design) (w w2 : World) where
    pub begin_has : (call : Call) → Q w.rows → after_event d w (Begin call) ≡ Some w2 → Q w2.rows
    begin_has call same h = begun_has (with_begun d w call) (call_fits (slice_get d.types call.ty) call) w2 same h

    pub step_has : (t : ℕ) →
        ((f : Frame) → transaction_at t w.transactions ≡ Some (Forward f) → EffectHas d w.rows Q f Next) →
        after_event d w (Step t) ≡ Some w2 → Q w2.rows
    step_has t has h =
        became_has w (Step t) t (changed d w.rows (Step t) (transaction_at t w.transactions)) w2
        (λ x e. by_step d w.rows Q (transaction_at t w.transactions) x has e) h

    pub abort_has : (t : ℕ) (c : Cause) → Q w.rows → after_event d w (Abort t c) ≡ Some w2 → Q w2.rows
    abort_has t c same h =
        became_has w (Abort t c) t (changed d w.rows (Abort t c) (transaction_at t w.transactions)) w2
        (λ x e. by_turn d w.rows Q c (transaction_at t w.transactions) x same e) h

    pub undo_has : (t : ℕ) →
        ((f : Frame) (c : Cause) → transaction_at t w.transactions ≡ Some (Undoing f c) → EffectHas d w.rows Q f UndoSide) →
        after_event d w (Undo t) ≡ Some w2 → Q w2.rows
    undo_has t has h =
        became_has w (Undo t) t (changed d w.rows (Undo t) (transaction_at t w.transactions)) w2
        (λ x e. by_undo d w.rows Q (transaction_at t w.transactions) x has e) h
