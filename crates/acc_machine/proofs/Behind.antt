-- What is kept behind a call of the plain machine.
use Rattle.std.proofs.Common.{◌≡◌, ℕ, List, refl, sym, subst, Bool, true, false, Option, Some, None}
use Rattle.std.specs.Prelude.{IsSomeAnd, IsSome}
use Rattle.acc_base.specs.declared.designs.Design.{Design}
use Rattle.acc_base.specs.declared.machines.Event.{Event}
use Rattle.acc_base.specs.declared.machines.Frame.{Frame}
use Rattle.acc_base.specs.declared.machines.Transaction.{Transaction}
use Rattle.acc_base.specs.declared.machines.Turn.{Turn}
use Rattle.acc_base.specs.Machine.{World, transaction_at, frame_in, unfinished, after_event}
use Rattle.acc_formed.specs.WellFormed.{IsWellFormed}
use Rattle.acc_plain.specs.Taken.{IsTaken}
use Rattle.acc_plain.specs.Turned.{IsUnfinished, IsTurned}
use Rattle.acc_lock_index.specs.Indexed.{Indexed}
use Rattle.acc_machine.specs.Kept.{IsKept}
use Rattle.acc_machine.specs.IndexedStates.{IsIndexOf, IsStateOf}
use Rattle.acc_machine.specs.Agreeing.{AreApart, AgreeBut}
use Rattle.acc_machine.specs.Blocked.{AreAtPoints}
use Rattle.acc_machine.specs.Takes.{CanCome, GivesLeave}
use Rattle.acc_machine.specs.Turns.{TellsHeldAt, IsTurnEvent, step, undo, abort}
use Rattle.acc_machine.proofs.LawfulTurns.{turn_lawful}
use Rattle.acc_machine.proofs.Standing.{at_points}
use Rattle.acc_machine.proofs.Unchanged.{OthersStay, unfinished_apart, agree_after, same_stays, step_stays, undo_stays, abort_stays}
use Rattle.acc_machine.proofs.Unchanged.{IsNumberOf, event_stays}

-- ---- what keeping an index asks, and what it leaves

module _ (accepted d : Design) (w : World) (same : accepted ≡ d) (kept : IsKept d w) (fs : List Frame) (are : fs ≡ unfinished w) where
  pub keeps_formed : IsWellFormed accepted
  keeps_formed = subst IsWellFormed (sym same) kept.accepted.formed

  pub keeps_points : AreAtPoints accepted fs
  keeps_points =
      subst (AreAtPoints accepted) (sym are) (subst (λ z. AreAtPoints z (unfinished w)) (sym same) (at_points d w kept))

  pub keeps_apart : AreApart fs
  keeps_apart = subst AreApart (sym are) (unfinished_apart d w kept.good.steady)

  pub state_kept : (d0 : Design) (w0 : World) (index index2 : Option Indexed) (t : ℕ) → IsStateOf accepted d0 w0 index → OthersStay t w0 w
      → ((old : List Frame) → IsIndexOf accepted old index → AgreeBut t old fs → IsIndexOf accepted fs index2)
      → IsStateOf accepted d w index2
  state_kept d0 w0 index index2 t old stay keeps =
      record {
        same = same;
        kept = kept;
        stands = subst (λ xs. IsIndexOf accepted xs index2) are (keeps (unfinished w0) old.stands
            (subst (AgreeBut t (unfinished w0)) (sym are) (agree_after d0 d w0 w t old.kept.good.steady kept.good.steady stay)));
      }

-- nothing has changed
pub state_same : (accepted d d2 : Design) (w w2 : World) (index : Option Indexed) → IsStateOf accepted d w index → d2 ≡ d → w2 ≡ w
    → IsStateOf accepted d2 w2 index
state_same accepted d d2 w w2 index old e s =
    subst (λ z. IsStateOf accepted z w2 index) (sym e) (subst (λ z. IsStateOf accepted d z index) (sym s) old)

-- ---- other transactions stay

module _ (d : Design) (w : World) (t : ℕ) where
  of_event : (w2 : World) (e : Event) → IsTurnEvent t e → after_event d w e ≡ Some w2 → OthersStay t w w2
  of_event w2 e (step) h = step_stays d w w2 t h
  of_event w2 e (undo) h = undo_stays d w w2 t h
  of_event w2 e (abort c n) h = abort_stays d w w2 t c h

  pub turn_stays : IsKept d w → IsUnfinished t w → TellsHeldAt d w t None → (w2 : World) (x : Option Turn) → IsTurned d w w2 t x
      → OthersStay t w w2
  turn_stays kept open_t free w2 None h = same_stays t w w2 h.1
  turn_stays kept open_t free w2 (Some x) h = by (transaction_at t w.transactions) refl open_t
    where
      by : (o : Option Transaction) → transaction_at t w.transactions ≡ o → IsSomeAnd o (λ z. IsSome (frame_in z)) → OthersStay t w w2
      by None e k = absurd k
      by (Some z) e k =
          let l = turn_lawful d w w2 kept.good.steady t x z e h free in of_event w2 l.event l.of_turn l.lawful.event

  pub take_stays : (w2 : World) (e : Event) (b : Bool) → IsNumberOf d w w2 e (unfinished w2) t → IsTaken d w w2 e b → OthersStay t w w2
  take_stays w2 e true is h = event_stays d w w2 e t is h
  take_stays w2 e false is h = same_stays t w w2 h.1

-- there is leave for an event that can come
pub comes_leave : (d : Design) (w : World) (e : Event) → CanCome d w e → GivesLeave d w e true
comes_leave d w e c = λ after h. c.lawful.leave
