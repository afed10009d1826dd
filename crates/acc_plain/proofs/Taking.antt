-- An event that the machine is given: what it changes, by what the next turn would change.
use Rattle.std.proofs.Common.{◌≡◌, ◌⊎◌, inl, inr, ℕ, List, Bool, true, false, Option, Some, None, refl, sym, ap, subst, ◌∙◌}
use Rattle.std.specs.Prelude.{if◌then◌else◌, MatchOption}
use Rattle.acc_base.specs.declared.tables.Row.{Row}
use Rattle.acc_base.specs.declared.designs.Design.{Design}
use Rattle.acc_base.specs.declared.machines.Cause.{Cause}
use Rattle.acc_base.specs.declared.machines.Cause.TheVariants.{Refused, Range, Limit, Asked}
use Rattle.acc_base.specs.declared.machines.Event.{Event}
use Rattle.acc_base.specs.declared.machines.Event.TheVariants.{Step, Abort, Undo}
use Rattle.acc_base.specs.declared.machines.Frame.{Frame}
use Rattle.acc_base.specs.declared.machines.Transaction.{Transaction}
use Rattle.acc_base.specs.declared.machines.Transaction.TheVariants.{Forward, Undoing}
use Rattle.acc_base.specs.declared.designs.Side.TheVariants.{Undo as UndoSide}
use Rattle.acc_base.specs.Effects.{Effect, Goes, Refuses, OutOfRange, effect_of}
use Rattle.acc_base.specs.RunEquality.{cause_decides}
use Rattle.acc_base.specs.Machine.{stop_of, is_cause, may_turn, step_by, back_by, changed}
use Rattle.acc_base.specs.Turns.{forward_event, undo_event, next_event}
use Rattle.acc_store.specs.Rows.{written}
use Rattle.acc_plain.specs.declared.changes.Change.{Change}
use Rattle.acc_plain.specs.Change.{left_by, IsNextChange}
use Rattle.acc_plain.specs.Taken.{IsChangeBy, if_step, if_abort}

-- the change of the next turn is the event's, where that is the event
pub next_is_by : (d : Design) (db : List Row) (x : Transaction) (e : Event) (c : Change) → IsNextChange d db x c → c.event ≡ e →
    IsChangeBy d db x e c
next_is_by d db x e c next is = record {
  event = is;
  changed = subst (λ (z : Event). changed d db z (Some x) ≡ Some (written c.writes db, left_by c.becomes x)) is next.changed;
  narrow = next.narrow;
}

abbrev pub IsBy : Design → List Row → Transaction → Event → Option Change → Type 0
IsBy d db x e o = MatchOption o (changed d db e (Some x) ≡ None) (IsChangeBy d db x e)

-- ---- a step

step_so : (d : Design) (db : List Row) (f : Frame) (c : Change) (stop : Option Cause) → stop_of d db f ≡ stop →
    forward_event f.t stop ≡ c.event → IsNextChange d db (Forward f) c → IsBy d db (Forward f) (Step f.t) (if_step c c.event)
step_so d db f c None at is next =
    subst (λ (e : Event). IsBy d db (Forward f) (Step f.t) (if_step c e)) is (next_is_by d db (Forward f) (Step f.t) c next (sym is))
step_so d db f c (Some b) at is next =
    subst (λ (e : Event). IsBy d db (Forward f) (Step f.t) (if_step c e)) is (ap (step_by d db f) at)

pub step_only : (d : Design) (db : List Row) (f : Frame) (c : Change) → IsNextChange d db (Forward f) c →
    IsBy d db (Forward f) (Step f.t) (if_step c c.event)
step_only d db f c next =
    let told = next.event in
    let is : forward_event f.t (stop_of d db f) ≡ c.event = cc in
    step_so d db f c (stop_of d db f) refl is next

-- ---- an abort

same_cause : (c b : Cause) → is_cause c (Some b) ≡ true → c ≡ b
same_cause c b = (cause_decides c b).0

-- a cause that only what stops the frame can be
abbrev pub IsStop : Design → List Row → Frame → Cause → Type 0
IsStop d db f cause = may_turn d db f cause ≡ is_cause cause (stop_of d db f)

-- the cause is another than a victim's and a crash
abbrev pub IsOfStep : Cause → Type 0
IsOfStep cause = ((n : ℕ) × (cause ≡ Refused n)) ⊎ (cause ≡ Range) ⊎ (cause ≡ Limit) ⊎ (cause ≡ Asked)

-- and each such is one
pub stop_free : (d : Design) (db : List Row) (f : Frame) (cause : Cause) → IsOfStep cause → IsStop d db f cause
stop_free d db f cause (inl (n, e)) = subst (IsStop d db f) (sym e) refl
stop_free d db f cause (inr (inl e)) = subst (IsStop d db f) (sym e) refl
stop_free d db f cause (inr (inr (inl e))) = subst (IsStop d db f) (sym e) refl
stop_free d db f cause (inr (inr (inr e))) = subst (IsStop d db f) (sym e) refl

refused_abort : (d : Design) (db : List Row) (f : Frame) (cause : Cause) → may_turn d db f cause ≡ false →
    changed d db (Abort f.t cause) (Some (Forward f)) ≡ None
refused_abort d db f cause forbidden = rw forbidden refl

abort_by : (d : Design) (db : List Row) (f : Frame) (cause b : Cause) (c : Change) (k : Bool) → may_turn d db f cause ≡ k →
    is_cause cause (Some b) ≡ k → Abort f.t b ≡ c.event → IsNextChange d db (Forward f) c →
    IsBy d db (Forward f) (Abort f.t cause) (if k then Some c else None)
abort_by d db f cause b c true may same is next =
    next_is_by d db (Forward f) (Abort f.t cause) c next (sym is ∙ ap (Abort f.t) (sym (same_cause cause b same)))
abort_by d db f cause b c false may same is next = refused_abort d db f cause may

abort_so : (d : Design) (db : List Row) (f : Frame) (cause : Cause) (c : Change) (stop : Option Cause) → IsStop d db f cause →
    stop_of d db f ≡ stop → forward_event f.t stop ≡ c.event → IsNextChange d db (Forward f) c →
    IsBy d db (Forward f) (Abort f.t cause) (if_abort cause c c.event)
abort_so d db f cause c None free at is next =
    subst (λ (e : Event). IsBy d db (Forward f) (Abort f.t cause) (if_abort cause c e)) is
    (refused_abort d db f cause (free ∙ ap (is_cause cause) at ∙ no_cause cause))
  where
    no_cause : (z : Cause) → is_cause z None ≡ false
    no_cause z = refl
abort_so d db f cause c (Some b) free at is next =
    subst (λ (e : Event). IsBy d db (Forward f) (Abort f.t cause) (if_abort cause c e)) is
    (abort_by d db f cause b c (is_cause cause (Some b)) (free ∙ ap (is_cause cause) at) refl is next)

pub abort_only : (d : Design) (db : List Row) (f : Frame) (cause : Cause) (c : Change) → IsStop d db f cause →
    IsNextChange d db (Forward f) c → IsBy d db (Forward f) (Abort f.t cause) (if_abort cause c c.event)
abort_only d db f cause c free next =
    let told = next.event in
    let is : forward_event f.t (stop_of d db f) ≡ c.event = cc in
    abort_so d db f cause c (stop_of d db f) free refl is next

-- ---- an undo step

no_undo : (d : Design) (f : Frame) (c : Cause) (e : Effect) → undo_event f.t e ≡ None → back_by f c e ≡ None
no_undo d f c (Goes db s i to) h = absurd cc
no_undo d f c (Refuses s n) h = refl
no_undo d f c OutOfRange h = refl

undo_is : (t : ℕ) (effect : Effect) (e : Event) → undo_event t effect ≡ Some e → e ≡ Undo t
undo_is t (Goes db s i to) e h = let k : Undo t ≡ e = cc in sym k
undo_is t (Refuses s n) e h = absurd cc
undo_is t OutOfRange e h = absurd cc

pub undo_only : (d : Design) (db : List Row) (f : Frame) (cause : Cause) (o : Option Change) →
    MatchOption o (next_event d db (Some (Undoing f cause)) ≡ None) (IsNextChange d db (Undoing f cause)) →
    IsBy d db (Undoing f cause) (Undo f.t) o
undo_only d db f cause None h = no_undo d f cause (effect_of d db f UndoSide) h
undo_only d db f cause (Some c) h = next_is_by d db (Undoing f cause) (Undo f.t) c h
    (undo_is f.t (effect_of d db f UndoSide) c.event h.event)
