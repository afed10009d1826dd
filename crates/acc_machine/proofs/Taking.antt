-- Which events a state takes, and what it keeps by them.
use Rattle.std.proofs.Common.{◌≡◌, ℕ, Bool, true, false, sym, ap, subst, refl, ◌∙◌, Option, Some, None}
use Rattle.std.specs.Prelude.{Result, Ok, Err, IfOk, OnErr, is_some, not}
use Rattle.std.proofs.lemmas.Option.{same_Some, none-some}
use Rattle.acc_base.specs.declared.designs.Design.{Design}
use Rattle.acc_base.specs.declared.designs.Side.TheVariants.{Undo as UndoSide}
use Rattle.acc_base.specs.declared.machines.Cause.TheVariants.{Victim, Crash}
use Rattle.acc_base.specs.declared.machines.Event.{Event}
use Rattle.acc_base.specs.declared.machines.Event.TheVariants.{Step, Abort}
use Rattle.acc_base.specs.declared.machines.Frame.{Frame}
use Rattle.acc_base.specs.declared.machines.Transaction.{Transaction}
use Rattle.acc_base.specs.declared.machines.Transaction.TheVariants.{Forward, Undoing, Ended}
use Rattle.acc_base.specs.Machine.{World, transaction_at, stop_of, changed, became, becomes, step_by, after_event}
use Rattle.acc_base.specs.Lawful.{IsLawful}
use Rattle.acc_base.specs.Locks.{IsUnblocked, IsStuck}
use Rattle.acc_lift.proofs.Transactions.{frame_from}
use Rattle.acc_plain.specs.Taken.{IsTaken}
use Rattle.acc_machine.specs.Kept.{IsKept}
use Rattle.acc_machine.specs.Takes.{CanCome, GivesLeave}
use Rattle.acc_machine.specs.Turns.{IsGoing, TellsHeldAt}
use Rattle.acc_machine.proofs.Keeping.{kept_same, kept_after}

module _ (d : Design) (w : World) where
  -- ---- a forward transaction turns

  pub crash_comes : (t : ℕ) → IsGoing t w → CanCome d w (Abort t Crash)
  crash_comes t g =
      record {
        after = became w (Abort t Crash) t (w.rows, Undoing (record g.frame { side = UndoSide }) Crash);
        lawful = record { leave = tt; event = ap (λ o. becomes w (Abort t Crash) t (changed d w.rows (Abort t Crash) o)) g.forward };
      }

  pub victim_comes : (t : ℕ) (f : Frame) → transaction_at t w.transactions ≡ Some (Forward f) → IsStuck d w → CanCome d w (Abort t Victim)
  victim_comes t f at stuck =
      record {
        after = became w (Abort t Victim) t (w.rows, Undoing (record f { side = UndoSide }) Victim);
        lawful = record { leave = stuck; event = ap (λ o. becomes w (Abort t Victim) t (changed d w.rows (Abort t Victim) o)) at };
      }

  -- ---- a step, where it is known who blocks it

  -- a step that the plain machine allows is one of a forward transaction that nothing stops
  record IsFreeStep (t : ℕ) : Type 0 where
    frame : Frame
    forward : transaction_at t w.transactions ≡ Some (Forward frame)
    free : stop_of d w.rows frame ≡ None

  free_step : (t : ℕ) (after : World) → after_event d w (Step t) ≡ Some after → IsFreeStep t
  free_step t after h = by (transaction_at t w.transactions) refl
    where
      at : (o : Option Transaction) → transaction_at t w.transactions ≡ o → becomes w (Step t) t (changed d w.rows (Step t) o) ≡ Some after
      at o e = sym (ap (λ z. becomes w (Step t) t (changed d w.rows (Step t) z)) e) ∙ h

      stopped : (f : Frame) (o : Option Rattle.acc_base.specs.declared.machines.Cause.Cause)
          → transaction_at t w.transactions ≡ Some (Forward f) → stop_of d w.rows f ≡ o
          → becomes w (Step t) t (step_by d w.rows f o) ≡ Some after → IsFreeStep t
      stopped f None e s k = record { frame = f; forward = e; free = s }
      stopped f (Some c) e s k = absurd (none-some after k)

      by : (o : Option Transaction) → transaction_at t w.transactions ≡ o → IsFreeStep t
      by None e = absurd (none-some after (at None e))
      by (Some (Forward f)) e = stopped f (stop_of d w.rows f) e refl (at (Some (Forward f)) e)
      by (Some (Undoing f c)) e = absurd (none-some after (at (Some (Undoing f c)) e))
      by (Some (Ended r)) e = absurd (none-some after (at (Some (Ended r)) e))

  pub step_leave : (t : ℕ) (held : Option (ℕ × ℕ)) (b : Bool) → TellsHeldAt d w t held → is_some held ≡ not b → GivesLeave d w (Step t) b
  step_leave t None false h q = cc
  step_leave t (Some x) true h q = cc
  step_leave t None true h q =
      λ after e. let s = free_step t after e in
      λ f at. subst (IsUnblocked d w) (same_Some s.frame f (sym (frame_from t w s.frame (Forward s.frame) s.forward refl) ∙ at))
      (h s.frame s.forward s.free)
  step_leave t (Some x) false h q =
      λ c. c.lawful.leave h.frame (frame_from t w h.frame (Forward h.frame) h.forward refl) x.0 x.1 h.lowest.blocked

  -- ---- what is kept

  pub lawful_by : (w2 : World) (e : Event) → GivesLeave d w e true → after_event d w e ≡ Some w2 → IsLawful d w e w2
  lawful_by w2 e leave h = record { leave = leave w2 h; event = h }

  pub cannot_come : (e : Event) → after_event d w e ≡ None → ¬ CanCome d w e
  cannot_come e h c = none-some c.after (sym h ∙ c.lawful.event)

  pub taken_lawful : (w2 : World) (e : Event) → CanCome d w e → (b : Bool) → IsTaken d w w2 e b → IsLawful d w e w2
  taken_lawful w2 e c true h = record { leave = c.lawful.leave; event = h }
  taken_lawful w2 e c false h = absurd (cannot_come e h.0 c)

  pub kept_coming : {E : Type 0} (d2 : Design) (w2 : World) (e : Event) (r : Result Bool E) → IsKept d w → CanCome d w e → d2 ≡ d
      → IfOk r (IsTaken d w w2 e) → OnErr r (w2 ≡ w) → IsKept d2 w2
  kept_coming d2 w2 e (Ok b) k c q ok err = kept_after d d2 w w2 e k q (taken_lawful w2 e c b ok)
  kept_coming d2 w2 e (Err x) k c q ok err = kept_same d d2 w w2 k q err

  pub kept_taking : {E : Type 0} (d2 : Design) (w2 : World) (e : Event) (r : Result Bool E) → IsKept d w → GivesLeave d w e true → d2 ≡ d
      → IfOk r (IsTaken d w w2 e) → OnErr r (w2 ≡ w) → IsKept d2 w2
  kept_taking d2 w2 e (Ok true) k g q ok err = kept_after d d2 w w2 e k q (lawful_by w2 e g ok)
  kept_taking d2 w2 e (Ok false) k g q ok err = kept_same d d2 w w2 k q ok.1
  kept_taking d2 w2 e (Err x) k g q ok err = kept_same d d2 w w2 k q err
