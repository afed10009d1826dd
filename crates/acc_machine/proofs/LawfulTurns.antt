-- The event of a turn is lawful, and one that is undone always has its turn.
use Rattle.std.proofs.Common.{◌≡◌, ℕ, Bool, true, false, if◌then◌else◌, List, sym, ap, subst, refl, ◌∙◌, Option, Some, None}
use Rattle.std.specs.Prelude.{◌≢◌, nat_lt, option_and_then, slice_get}
use Rattle.std.proofs.lemmas.Option.{same_Some, none-some}
use Rattle.acc_base.specs.declared.tables.Row.{Row}
use Rattle.acc_base.specs.declared.designs.Design.{Design}
use Rattle.acc_base.specs.declared.designs.Side.TheVariants.{Next, Undo as UndoSide}
use Rattle.acc_base.specs.declared.machines.Cause.{Cause}
use Rattle.acc_base.specs.declared.machines.Cause.TheVariants.{Refused, Range, Limit, Asked, Victim, Crash}
use Rattle.acc_base.specs.declared.machines.Event.{Event}
use Rattle.acc_base.specs.declared.machines.Event.TheVariants.{Step, Abort, Undo}
use Rattle.acc_base.specs.declared.machines.Frame.{Frame}
use Rattle.acc_base.specs.declared.machines.Transaction.{Transaction}
use Rattle.acc_base.specs.declared.machines.Transaction.TheVariants.{Forward, Undoing, Ended}
use Rattle.acc_base.specs.declared.machines.Turn.{Turn}
use Rattle.acc_base.specs.Effects.{Effect, Goes, Refuses, OutOfRange, effect_of}
use Rattle.acc_base.specs.Machine.{World, transaction_at, limit_of, is_asked, stop_by, stop_of, back_by, changed, became, becomes}
use Rattle.acc_base.specs.Turns.{forward_event, undo_event, next_event, said, said_of, turn_of}
use Rattle.acc_base.specs.Soundness.{IsSound}
use Rattle.acc_lift.specs.RunRules.{HasRunRules}
use Rattle.acc_base.specs.Locks.{IsUnblocked}
use Rattle.acc_machine.specs.Turns.{IsTurnEvent, step, undo, abort}
use Rattle.acc_base.specs.Lawful.{HasGround, IsLawful}
use Rattle.acc_base.specs.Invariant.{IsSteady}
use Rattle.acc_lift.proofs.Transactions.{frame_from}
use Rattle.acc_lift.proofs.UndoTurns.{undo_goes}

said_becomes : (w : World) (e : Event) (t : ℕ) (o : Option (List Row × Transaction)) (x : Turn) (w2 : World)
    → said_of w e t o ≡ Some (x, w2) → becomes w e t o ≡ Some w2
said_becomes w e t None x w2 h = cc
said_becomes w e t (Some z) x w2 h = let s = same_Some (said e z.1, became w e t z) (x, w2) h in ap Some (ap (λ (p : Turn × World). p.1) s)

-- what stops a step is neither a victim's cause nor a crash
abbrev IsStop : Cause → Type 0
IsStop (Refused n) = Unit {0}
IsStop Range = Unit {0}
IsStop Limit = Unit {0}
IsStop Asked = Unit {0}
IsStop Victim = ⊥
IsStop Crash = ⊥

stop_is : (a b : Bool) (E : Effect) (c : Cause) → (if a then Some Asked else (if b then stop_by E else Some Limit)) ≡ Some c → IsStop c
stop_is true b E c h = subst IsStop (same_Some Asked c h) tt
stop_is false false E c h = subst IsStop (same_Some Limit c h) tt
stop_is false true (Goes db s i to) c h = absurd (none-some c h)
stop_is false true (Refuses s n) c h = subst IsStop (same_Some (Refused n) c h) tt
stop_is false true OutOfRange c h = subst IsStop (same_Some Range c h) tt

stops : (d : Design) (w : World) (f : Frame) (c : Cause) → stop_of d w.rows f ≡ Some c → IsStop c
stops d w f c h = stop_is (is_asked f.ask f.steps) (nat_lt f.steps (limit_of (slice_get d.types f.ty))) (effect_of d w.rows f Next) c h

grounded : (d : Design) (w : World) (c : Cause) → IsStop c → HasGround d w c
grounded d w (Refused n) h = tt
grounded d w Range h = tt
grounded d w Limit h = tt
grounded d w Asked h = tt
grounded d w Victim h = absurd h
grounded d w Crash h = tt

no_crash : (c : Cause) → IsStop c → c ≢ Crash
no_crash c h e = subst IsStop e h

-- the event of the turn
pub record HasLawful (d : Design) (w w2 : World) (t : ℕ) : Type 0 where
  pub event : Event
  pub of_turn : IsTurnEvent t event
  pub lawful : IsLawful d w event w2

module _ (d : Design) (w w2 : World) (steady : IsSteady d w) (t : ℕ) (turn : Turn) where
  abbrev turn_at : Transaction → Option (Turn × World)
  turn_at x = option_and_then (λ e. said_of w e t (changed d w.rows e (Some x))) (next_event d w.rows (Some x))

  turn_is : (x : Transaction) → transaction_at t w.transactions ≡ Some x → turn_of d w t ≡ turn_at x
  turn_is x at = ap (λ (o : Option Transaction). option_and_then (λ e. said_of w e t (changed d w.rows e o)) (next_event d w.rows o)) at

  forward_case : (f : Frame) → transaction_at t w.transactions ≡ Some (Forward f) → f.t ≡ t
      → (stop_of d w.rows f ≡ None → IsUnblocked d w f) → (o : Option Cause) → stop_of d w.rows f ≡ o
      → said_of w (forward_event f.t o) t (changed d w.rows (forward_event f.t o) (Some (Forward f))) ≡ Some (turn, w2) → HasLawful d w w2 t
  forward_case f at n free None s h =
      let b = said_becomes w (Step f.t) t (changed d w.rows (Step f.t) (Some (Forward f))) turn w2 h in
      let c = subst (λ k. becomes w (Step k) t (changed d w.rows (Step k) (Some (Forward f))) ≡ Some w2) n b in
      record {
        event = Step t;
        of_turn = step;
        lawful = record {
          leave = λ g m. subst (IsUnblocked d w) (same_Some f g (sym (frame_from t w f (Forward f) at refl) ∙ m)) (free s);
          event = ap (λ o. becomes w (Step t) t (changed d w.rows (Step t) o)) at ∙ c;
        };
      }
  forward_case f at n free (Some cause) s h =
      let b = said_becomes w (Abort f.t cause) t (changed d w.rows (Abort f.t cause) (Some (Forward f))) turn w2 h in
      let c = subst (λ k. becomes w (Abort k cause) t (changed d w.rows (Abort k cause) (Some (Forward f))) ≡ Some w2) n b in
      record {
        event = Abort t cause;
        of_turn = abort cause (no_crash cause (stops d w f cause s));
        lawful = record {
          leave = grounded d w cause (stops d w f cause s);
          event =
              ap (λ o. becomes w (Abort t cause) t (changed d w.rows (Abort t cause) o)) at ∙ c;
        };
      }

  undo_case : (f : Frame) (cause : Cause) → transaction_at t w.transactions ≡ Some (Undoing f cause) → f.t ≡ t → (E : Effect)
      → option_and_then (λ e. said_of w e t (changed d w.rows e (Some (Undoing f cause)))) (undo_event f.t E) ≡ Some (turn, w2)
      → HasLawful d w w2 t
  undo_case f cause at n (Goes db s i to) h =
      let b = said_becomes w (Undo f.t) t (changed d w.rows (Undo f.t) (Some (Undoing f cause))) turn w2 h in
      let c = subst (λ k. becomes w (Undo k) t (changed d w.rows (Undo k) (Some (Undoing f cause))) ≡ Some w2) n b in
      record {
        event = Undo t;
        of_turn = undo;
        lawful =
            record { leave = tt; event = ap (λ o. becomes w (Undo t) t (changed d w.rows (Undo t) o)) at ∙ c };
      }
  undo_case f cause at n (Refuses s m) h = absurd (none-some (turn, w2) h)
  undo_case f cause at n OutOfRange h = absurd (none-some (turn, w2) h)

  pub turn_lawful : (x : Transaction) → transaction_at t w.transactions ≡ Some x → turn_of d w t ≡ Some (turn, w2)
      → ((f : Frame) → transaction_at t w.transactions ≡ Some (Forward f) → stop_of d w.rows f ≡ None → IsUnblocked d w f)
      → HasLawful d w w2 t
  turn_lawful (Forward f) at h free =
      forward_case f at (steady.each t (Forward f) at).number (free f at) (stop_of d w.rows f) refl (sym (turn_is (Forward f) at) ∙ h)
  turn_lawful (Undoing f cause) at h free =
      undo_case f cause at (steady.each t (Undoing f cause) at).number (effect_of d w.rows f UndoSide)
      (sym (turn_is (Undoing f cause) at) ∙ h)
  turn_lawful (Ended r) at h free = absurd (none-some (turn, w2) (sym (turn_is (Ended r) at) ∙ h))

-- a transaction that is undone has its turn
module _ (d : Design) (sound : IsSound d) (well : HasRunRules d) (w : World) (steady : IsSteady d w) (t : ℕ) (f : Frame) (cause : Cause)
    (at : transaction_at t w.transactions ≡ Some (Undoing f cause)) where
  said_none : (e e2 : Event) (o : Option (List Row × Transaction)) (after : World) → becomes w e t o ≡ Some after
      → said_of w e2 t o ≡ None → ⊥
  said_none e e2 None after h k = none-some after h
  said_none e e2 (Some z) after h k = cc

  none_case : (E : Effect) → (after : World) → becomes w (Undo t) t (back_by f cause E) ≡ Some after
      → option_and_then (λ e. said_of w e t (changed d w.rows e (Some (Undoing f cause)))) (undo_event f.t E) ≡ None
      → effect_of d w.rows f UndoSide ≡ E → ⊥
  none_case (Goes db s i to) after h k q =
      said_none (Undo t) (Undo f.t) (back_by f cause (Goes db s i to)) after h
      (ap (λ E. said_of w (Undo f.t) t (back_by f cause E)) (sym q) ∙ k)
  none_case (Refuses s m) after h k q = none-some after h
  none_case OutOfRange after h k q = none-some after h

  pub undo_has_turn : turn_of d w t ≡ None → ⊥
  undo_has_turn h =
      let g = undo_goes d sound well w steady t f cause at in
      let b : becomes w (Undo t) t (back_by f cause (effect_of d w.rows f UndoSide)) ≡ Some g.after =
      sym (ap (λ o. becomes w (Undo t) t (changed d w.rows (Undo t) o)) at) ∙ g.event in
      let k = sym (ap (λ (o : Option Transaction). option_and_then (λ e. said_of w e t (changed d w.rows e o)) (next_event d w.rows o))
      at) ∙ h in
      none_case (effect_of d w.rows f UndoSide) g.after b k refl
