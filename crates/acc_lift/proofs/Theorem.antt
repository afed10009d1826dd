-- The invariant: each lawful event takes a good state to a good one; what follows for runs and idle states.
use Rattle.std.proofs.Common.{◌≡◌, ℕ, ◌-◌, ◌*◌, ◌^◌, List, [], ◌∷◌, ◌++◌, Bool, true, false, sym, subst, refl, ap, ◌∙◌, if◌then◌else◌}
use Rattle.std.proofs.Common.{arith, Option, Some, None}
use Rattle.std.specs.Prelude.{IsFalse, IsTrue, slice_get, option_and_then}
use Rattle.std.proofs.lemmas.Option.{same_Some, none-some, cond_some}
use Rattle.std.proofs.lemmas.List.Elements.{All-nil, All-weaker}
use Rattle.acc_base.specs.declared.tables.Row.{Row}
use Rattle.acc_base.specs.declared.steps.Target.{Target}
use Rattle.acc_base.specs.declared.steps.Target.TheVariants.{Point as ToPoint, Commit, Undone, Refuse}
use Rattle.acc_base.specs.declared.designs.Design.{Design}
use Rattle.acc_base.specs.declared.designs.Side.TheVariants.{Next, Undo as UndoSide}
use Rattle.acc_base.specs.declared.machines.Frame.{Frame}
use Rattle.acc_base.specs.declared.machines.Cause.{Cause}
use Rattle.acc_base.specs.declared.machines.Event.{Event}
use Rattle.acc_base.specs.declared.machines.Event.TheVariants.{Begin, Step, Abort, Undo}
use Rattle.acc_base.specs.declared.machines.Outcome.TheVariants.{Compensated}
use Rattle.acc_base.specs.declared.machines.Transaction.{Transaction}
use Rattle.acc_base.specs.declared.machines.Transaction.TheVariants.{Forward, Undoing, Ended}
use Rattle.std.specs.List.Sorted.{IsStrictlySortedBy}
use Rattle.acc_base.specs.Numbers.{IsSmall}
use Rattle.acc_base.specs.Reads.{Reading}
use Rattle.acc_base.specs.Effects.{Effect, Goes, Refuses, OutOfRange, effect_of}
use Rattle.acc_base.specs.Machine.{World, start, transaction_at, unfinished, stop_of, may_turn, call_fits, moved, committed, forward_to}
use Rattle.acc_base.specs.Machine.{back_to, with_rows, forward_by, back_by, step_by, stepped, turned, undone, became, becomes, with_begun}
use Rattle.acc_base.specs.Machine.{changed, after_event, after_events, world}
use Rattle.acc_base.proofs.RowOrder.{order_to}
use Rattle.acc_base.specs.Shapes.{RowFits}
use Rattle.acc_base.specs.Fits.{RowsFit}
use Rattle.acc_base.specs.PrivateRows.{is_own_table}
use Rattle.acc_base.specs.Soundness.{IsSound}
use Rattle.acc_lift.specs.RunRules.{HasRunRules}
use Rattle.acc_base.specs.Locks.{frame_at, IsUnblocked}
use Rattle.acc_base.specs.Lawful.{IsLawful, LeadLawfully, AreLawful}
use Rattle.acc_base.specs.Annotated.{AllHold, IsEventMet, IsAnnotated, IsIdle}
use Rattle.acc_base.specs.Invariant.{IsOwned, IsWithin, IsSteady, IsGood}
use Rattle.acc_lift.proofs.Transactions.{at_place, opened, frame_from, none_open}
use Rattle.acc_lift.proofs.Becoming.{stands_at}
use Rattle.acc_lift.proofs.Stepping.{ready}
use Rattle.acc_lift.proofs.Turning.{forward_point, forward_end, undo_point, undo_end, turn_steady}
use Rattle.acc_lift.proofs.Beginning.{begin_steady}

-- ---- an event, by what it finds

module _ (d : Design) (sound : IsSound d) (well : HasRunRules d) (w : World) (steady : IsSteady d w) (e : Event) (t : ℕ) (w2 : World) where
  abbrev Becomes : Option (List Row × Transaction) → Type 0
  Becomes o = becomes w e t o ≡ Some w2

  became_is : (x : List Row × Transaction) → Becomes (Some x) → IsSteady d (became w e t x) → IsSteady d w2
  became_is x h k = subst (IsSteady d) (same_Some (became w e t x) w2 h) k

  module _ (f : Frame) (at : transaction_at t w.transactions ≡ Some (Forward f)) (goes : stop_of d w.rows f ≡ None)
      (unblocked : IsUnblocked d w f) where
    forward_target :
        (after : List Row) (s : Reading) (i : ℕ) (to : Target) → effect_of d w.rows f Next ≡ Goes after s i to
        → Becomes (with_rows after (forward_to d f s to)) → IsSteady d w2
    forward_target after s i (ToPoint p) q h =
        became_is (after, Forward (moved Next f s p)) h
        (forward_point d sound well w steady e t f at goes unblocked after s i (ToPoint p) q p refl)
    forward_target after s i Commit q h =
        became_is (after, Ended (committed d f s)) h
        (forward_end d sound well w steady e t f at goes unblocked after s i Commit q refl (committed d f s) refl)
    forward_target after s i Undone q h = absurd (none-some w2 h)
    forward_target after s i (Refuse n) q h = absurd (none-some w2 h)

    forward_effect : (E : Effect) → effect_of d w.rows f Next ≡ E → Becomes (forward_by d f E) → IsSteady d w2
    forward_effect (Goes after s i to) q h = forward_target after s i to q h
    forward_effect (Refuses s n) q h = absurd (none-some w2 h)
    forward_effect OutOfRange q h = absurd (none-some w2 h)

  step_case :
      (o : Option Transaction) → transaction_at t w.transactions ≡ o → ((f : Frame) → frame_at t w ≡ Some f → IsUnblocked d w f)
      → Becomes (stepped d w.rows o) → IsSteady d w2
  step_case None at u h = absurd (none-some w2 h)
  step_case (Some (Undoing f c)) at u h = absurd (none-some w2 h)
  step_case (Some (Ended r)) at u h = absurd (none-some w2 h)
  step_case (Some (Forward f)) at u h = by (stop_of d w.rows f) refl h
    where
      by : (o : Option Cause) → stop_of d w.rows f ≡ o → Becomes (step_by d w.rows f o) → IsSteady d w2
      by None g k = forward_effect f at g (u f (frame_from t w f (Forward f) at refl)) (effect_of d w.rows f Next) refl k
      by (Some c) g k = absurd (none-some w2 k)

  turn_case : (c : Cause) (o : Option Transaction) → transaction_at t w.transactions ≡ o → Becomes (turned d w.rows c o) → IsSteady d w2
  turn_case c None at h = absurd (none-some w2 h)
  turn_case c (Some (Undoing f b)) at h = absurd (none-some w2 h)
  turn_case c (Some (Ended r)) at h = absurd (none-some w2 h)
  turn_case c (Some (Forward f)) at h = by (may_turn d w.rows f c) h
    where
      by : (b : Bool) → Becomes (if b then Some (w.rows, Undoing (record f { side = UndoSide }) c) else None) → IsSteady d w2
      by true k = became_is (w.rows, Undoing (record f { side = UndoSide }) c) k (turn_steady d sound well w steady e t f c at)
      by false k = absurd (none-some w2 k)

  module _ (f : Frame) (c : Cause) (at : transaction_at t w.transactions ≡ Some (Undoing f c)) where
    undo_target :
        (after : List Row) (s : Reading) (i : ℕ) (to : Target) → effect_of d w.rows f UndoSide ≡ Goes after s i to
        → Becomes (with_rows after (back_to f c s to)) → IsSteady d w2
    undo_target after s i (ToPoint p) q h =
        became_is (after, Undoing (moved UndoSide f s p) c) h (undo_point d sound well w steady e t f c at after s i (ToPoint p) q p refl)
    undo_target after s i Commit q h = absurd (none-some w2 h)
    undo_target after s i Undone q h =
        became_is (after, Ended (record { t = f.t; outcome = Compensated c })) h
        (undo_end d sound well w steady e t f c at after s i Undone q refl (record { t = f.t; outcome = Compensated c }) refl)
    undo_target after s i (Refuse n) q h = absurd (none-some w2 h)

    undo_effect : (E : Effect) → effect_of d w.rows f UndoSide ≡ E → Becomes (back_by f c E) → IsSteady d w2
    undo_effect (Goes after s i to) q h = undo_target after s i to q h
    undo_effect (Refuses s n) q h = absurd (none-some w2 h)
    undo_effect OutOfRange q h = absurd (none-some w2 h)

  undo_case : (o : Option Transaction) → transaction_at t w.transactions ≡ o → Becomes (undone d w.rows o) → IsSteady d w2
  undo_case None at h = absurd (none-some w2 h)
  undo_case (Some (Forward f)) at h = absurd (none-some w2 h)
  undo_case (Some (Ended r)) at h = absurd (none-some w2 h)
  undo_case (Some (Undoing f c)) at h = undo_effect f c at (effect_of d w.rows f UndoSide) refl h

-- what holds of a state holds after a lawful event
pub steady_after : (d : Design) → IsSound d → HasRunRules d → (w w2 : World) (e : Event) → IsSteady d w → IsLawful d w e w2 → IsSteady d w2
steady_after d sound well w w2 (Begin call) steady l =
    let k = cond_some (call_fits (slice_get d.types call.ty) call) (with_begun d w call) w2 l.event in
    subst (IsSteady d) k.1 (begin_steady d sound well w steady call l.leave.0 l.leave.1 k.0)
steady_after d sound well w w2 (Step t) steady l =
    step_case d sound well w steady (Step t) t w2 (transaction_at t w.transactions) refl l.leave l.event
steady_after d sound well w w2 (Abort t c) steady l =
    turn_case d sound well w steady (Abort t c) t w2 c (transaction_at t w.transactions) refl l.event
steady_after d sound well w w2 (Undo t) steady l =
    undo_case d sound well w steady (Undo t) t w2 (transaction_at t w.transactions) refl l.event

-- ---- lists of events

pub lead_more :
    (d : Design) (events : List Event) (w0 w w2 : World) (e : Event) → LeadLawfully d w0 events w → IsLawful d w e w2
    → LeadLawfully d w0 (events ++ e ∷ []) w2
lead_more d [] w0 w w2 e h l = (w2, subst (λ x. IsLawful d x e w2) (sym h) l, refl)
lead_more d (a ∷ events) w0 w w2 e h l = (h.0, h.1, lead_more d events h.0 w w2 e h.2 l)

-- they are a run
pub lead_runs : (d : Design) (events : List Event) (w0 w : World) → LeadLawfully d w0 events w → after_events d w0 events ≡ Some w
lead_runs d [] w0 w h = ap Some h
lead_runs d (e ∷ events) w0 w h = ap (option_and_then (λ x. after_events d x events)) h.1.event ∙ lead_runs d events h.0 w h.2

becomes_logs :
    (w : World) (e : Event) (t : ℕ) (x : Option (List Row × Transaction)) (w2 : World) → becomes w e t x ≡ Some w2
    → w2.events ≡ w.events ++ e ∷ []
becomes_logs w e t None w2 h = absurd (none-some w2 h)
becomes_logs w e t (Some x) w2 h = sym (ap (λ z. z.events) (same_Some (became w e t x) w2 h))

pub event_logged : (d : Design) (w : World) (e : Event) (w2 : World) → after_event d w e ≡ Some w2 → w2.events ≡ w.events ++ e ∷ []
event_logged d w (Begin call) w2 h =
    sym (ap (λ z. z.events) (cond_some (call_fits (slice_get d.types call.ty) call) (with_begun d w call) w2 h).1)
event_logged d w (Step t) w2 h = becomes_logs w (Step t) t (changed d w.rows (Step t) (transaction_at t w.transactions)) w2 h
event_logged d w (Abort t c) w2 h = becomes_logs w (Abort t c) t (changed d w.rows (Abort t c) (transaction_at t w.transactions)) w2 h
event_logged d w (Undo t) w2 h = becomes_logs w (Undo t) t (changed d w.rows (Undo t) (transaction_at t w.transactions)) w2 h

-- THE THEOREM
pub good_after : (d : Design) → IsSound d → HasRunRules d → (w w2 : World) (e : Event) → IsGood d w → IsLawful d w e w2 → IsGood d w2
good_after d sound well w w2 e good l = record {
  lawful = subst (λ h. LeadLawfully d start h w2) (sym (event_logged d w e w2 l.event)) (lead_more d w.events start w w2 e good.lawful l);
  steady = steady_after d sound well w w2 e good.steady l;
}

no_rows : (d : Design) → RowsFit d []
unfolding IsStrictlySortedBy
no_rows d =
    record {
      shapes = All-nil (RowFits d.tables);
      order = order_to [] tt;
      keys = All-nil (λ (r : Row). Rattle.std.specs.Prelude.All IsSmall r.key.parts);
      few = omega arith;
    }

none_there : (t : ℕ) (x : Transaction) → transaction_at t start.transactions ≡ Some x → ⊥
none_there t x h = let k = at_place t [] x h in none-some x k.1

none_framed : (t : ℕ) (f : Frame) → frame_at t start ≡ Some f → ⊥
none_framed t f h = let o = opened t start f h in none_there t o.x o.at

pub steady_start : (d : Design) → IsSound d → IsSteady d start
steady_start d sound = record {
  rows = no_rows d;
  few = omega arith;
  counted = omega arith;
  each = λ t x h. absurd (none_there t x h);
  always = sound.empty;
  compatible = λ t u f g h k n. absurd (none_framed t f h);
  owned = All-nil (IsOwned d start);
  bounded = All-nil (IsWithin (2 ^ 45 * 1));
  ends = omega arith;
}

pub good_start : (d : Design) → IsSound d → IsGood d start
good_start d sound = record { lawful = refl; steady = steady_start d sound }

pub steady_run :
    (d : Design) → IsSound d → HasRunRules d → (events : List Event) (w w2 : World) → IsSteady d w → LeadLawfully d w events w2
    → IsSteady d w2
steady_run d sound well [] w w2 steady h = subst (IsSteady d) h steady
steady_run d sound well (e ∷ events) w w2 steady h =
    steady_run d sound well events h.0 w2 (steady_after d sound well w h.0 e steady h.1) h.2

pub good_run :
    (d : Design) → IsSound d → HasRunRules d → (events : List Event) (w w2 : World) → IsGood d w → LeadLawfully d w events w2 → IsGood d w2
good_run d sound well [] w w2 good h = subst (IsGood d) h good
good_run d sound well (e ∷ events) w w2 good h = good_run d sound well events h.0 w2 (good_after d sound well w h.0 e good h.1) h.2

-- ---- idle states

pub idle : (d : Design) (w : World) → IsSteady d w → unfinished w ≡ [] → IsIdle d w.rows
idle d w steady none = record {
  always = steady.always;
  no_private =
      All-weaker (IsOwned d w) (λ r. IsFalse (is_own_table (slice_get d.tables r.table)))
      (λ r h. by r h (is_own_table (slice_get d.tables r.table)) refl) w.rows steady.owned;
}
  where
    by : (r : Row) → IsOwned d w r → (b : Bool) → is_own_table (slice_get d.tables r.table) ≡ b → b ≡ false
    by r h true e =
        let o = h e in
        let z = opened o.t w o.owner o.is_owner in
        absurd (none_open w.transactions none (o.t - 1) z.x o.owner (at_place o.t w.transactions z.x z.at).1 z.frame)
    by r h false e = refl

-- ---- annotated runs

pub all_hold : (d : Design) (w : World) → IsSteady d w → AllHold d w
all_hold d w steady t f h = (stands_at d w steady t f h).stands.holds

pub event_met : (d : Design) → IsSound d → (w : World) (e : Event) → IsSteady d w → IsEventMet d w e
event_met d sound w (Begin call) steady = tt
event_met d sound w (Step t) steady =
    λ f h. let k = stands_at d w steady t f h in sound.meets w.rows f Next (ready d w steady t k.side f k.stands)
event_met d sound w (Abort t c) steady = tt
event_met d sound w (Undo t) steady =
    λ f h. let k = stands_at d w steady t f h in sound.meets w.rows f UndoSide (ready d w steady t k.side f k.stands)

-- a front of a lawful list leads to a state, which is its world
front : (d : Design) (past rest : List Event) (w w2 : World) → LeadLawfully d w (past ++ rest) w2 → (x : World) × LeadLawfully d w past x
front d [] rest w w2 h = (w, refl)
front d (e ∷ past) rest w w2 h = let k = front d past rest h.0 w2 h.2 in (k.0, (h.0, h.1, k.1))

pub front_steady :
    (d : Design) → IsSound d → HasRunRules d → (events past rest : List Event) (w2 : World) → LeadLawfully d start events w2
    → events ≡ past ++ rest → (w : World) → world d past ≡ Some w → IsSteady d w
front_steady d sound well events past rest w2 h e w q =
    let k = front d past rest start w2 (subst (λ l. LeadLawfully d start l w2) e h) in
    let s = steady_run d sound well past start k.0 (steady_start d sound) k.1 in
    subst (IsSteady d) (same_Some k.0 w (sym (lead_runs d past start k.0 k.1) ∙ q)) s

pub annotated : (d : Design) → IsSound d → HasRunRules d → (events : List Event) → AreLawful d events → IsAnnotated d events
annotated d sound well events l = record {
  last = l.0;
  run = lead_runs d events start l.0 l.1;
  holds = λ past rest w e q. all_hold d w (front_steady d sound well events past rest l.0 l.1 e w q);
  met = λ past rest e w q k. event_met d sound w e (front_steady d sound well events past (e ∷ rest) l.0 l.1 q w k);
}
