-- From each steady state crashes and undo turns lead to an idle one, and there are at most as many of them as the rests add up to.
use Rattle.std.proofs.Common.{◌≡◌, ℕ, zero, suc, ◌+◌, ◌-◌, ◌≤◌, ◌⊎◌, inl, inr, List, [], ◌∷◌, length, Bool, true, false, sym, subst, refl}
use Rattle.std.proofs.Common.{ap, ◌∙◌, arith, Option, Some, None, set}
use Rattle.std.specs.Prelude.{slice_get, sum_by}
use Rattle.std.specs.List.{filter_map, cons_option}
use Rattle.std.proofs.lemmas.Option.{same_Some, none-some}
use Rattle.acc_base.specs.declared.tables.Row.{Row}
use Rattle.acc_base.specs.declared.designs.Design.{Design}
use Rattle.acc_base.specs.declared.designs.Side.TheVariants.{Next, Undo as UndoSide}
use Rattle.acc_base.specs.declared.machines.Frame.{Frame}
use Rattle.acc_base.specs.declared.machines.Cause.{Cause}
use Rattle.acc_base.specs.declared.machines.Cause.TheVariants.{Crash}
use Rattle.acc_base.specs.declared.machines.Event.{Event}
use Rattle.acc_base.specs.declared.machines.Event.TheVariants.{Abort, Undo}
use Rattle.acc_base.specs.declared.machines.Outcome.TheVariants.{Compensated}
use Rattle.acc_base.specs.declared.machines.Transaction.{Transaction}
use Rattle.acc_base.specs.declared.machines.Transaction.TheVariants.{Forward, Undoing, Ended}
use Rattle.acc_base.specs.Machine.{World, transaction_at, frame_in, unfinished, limit_of, turned, undone, changed, became, becomes}
use Rattle.acc_base.specs.Machine.{after_event}
use Rattle.acc_base.specs.Soundness.{variant_of, IsSound}
use Rattle.acc_lift.specs.RunRules.{HasRunRules}
use Rattle.acc_lift.specs.Laws.{IsBackward, crashed, undone_by}
use Rattle.acc_base.specs.Lawful.{IsLawful, LeadLawfully}
use Rattle.acc_base.specs.Invariant.{rest_of, IsSteady}
use Rattle.acc_base.specs.Compensation.{HasFallen, UndoGoes, IsNext, crash, undo, Recovers}
use Rattle.acc_lift.proofs.Transactions.{at_place, at_number, set_new, sum_set, IsOpen, opened, frame_from}
use Rattle.acc_lift.proofs.Stepping.{ready}
use Rattle.acc_lift.proofs.Falls.{turn_falls, undo_falls}
use Rattle.acc_lift.proofs.Theorem.{steady_after}
use Rattle.acc_lift.proofs.UndoTurns.{undo_goes}

-- ---- the lowest of some transactions

record IsLeast (p : Transaction → Bool) (ts : List Transaction) : Type 0 where
  i : ℕ
  x : Transaction
  at : slice_get ts i ≡ Some x
  passes : p x ≡ true
  least : (j : ℕ) (y : Transaction) → slice_get ts j ≡ Some y → p y ≡ true → i ≤ j

abbrev HasNone : (Transaction → Bool) → List Transaction → Type 0
HasNone p ts = (j : ℕ) (y : Transaction) → slice_get ts j ≡ Some y → p y ≡ false

not_both : (b : Bool) → b ≡ false → b ≡ true → ⊥
not_both true e f = cc
not_both false e f = cc

first_of_all : (p : Transaction → Bool) (ts : List Transaction) → IsLeast p ts ⊎ HasNone p ts
first_of_all p [] = inr (λ j y h. absurd (none-some y h))
first_of_all p (z ∷ ts) = by (p z) refl (first_of_all p ts)
  where
    later : p z ≡ false → (m : IsLeast p ts) → (j : ℕ) (y : Transaction) → slice_get (z ∷ ts) j ≡ Some y → p y ≡ true → m.i + 1 ≤ j
    later e m zero y h q = absurd (not_both (p y) (ap p (sym (same_Some z y h)) ∙ e) q)
    later e m (suc j) y h q = let k = m.least j y h q in omega arith

    none : p z ≡ false → HasNone p ts → HasNone p (z ∷ ts)
    none e m zero y h = ap p (sym (same_Some z y h)) ∙ e
    none e m (suc j) y h = m j y h

    got : (m : IsLeast p ts) → slice_get (z ∷ ts) (m.i + 1) ≡ Some m.x
    got m = let e : m.i + 1 ≡ suc m.i = omega arith in ap (slice_get (z ∷ ts)) e ∙ m.at

    by : (b : Bool) → p z ≡ b → IsLeast p ts ⊎ HasNone p ts → IsLeast p (z ∷ ts) ⊎ HasNone p (z ∷ ts)
    by true e r = inl (record { i = 0; x = z; at = refl; passes = e; least = λ j y h q. omega arith })
    by false e (inl m) = inl (record { i = m.i + 1; x = m.x; at = got m; passes = m.passes; least = later e m })
    by false e (inr m) = inr (none e m)

abbrev is_forward : Transaction → Bool
is_forward (Forward f) = true
is_forward (Undoing f c) = false
is_forward (Ended r) = false

abbrev is_undoing : Transaction → Bool
is_undoing (Forward f) = false
is_undoing (Undoing f c) = true
is_undoing (Ended r) = false

record IsForward (x : Transaction) : Type 0 where
  f : Frame
  is : x ≡ Forward f

forward_is : (x : Transaction) → is_forward x ≡ true → IsForward x
forward_is (Forward f) e = record { f = f; is = refl }
forward_is (Undoing f c) e = cc
forward_is (Ended r) e = cc

record IsUndoing (x : Transaction) : Type 0 where
  f : Frame
  c : Cause
  is : x ≡ Undoing f c

undoing_is : (x : Transaction) → is_undoing x ≡ true → IsUndoing x
undoing_is (Forward f) e = cc
undoing_is (Undoing f c) e = record { f = f; c = c; is = refl }
undoing_is (Ended r) e = cc

no_frame : (x : Transaction) → is_forward x ≡ false → is_undoing x ≡ false → frame_in x ≡ None
no_frame (Forward f) a b = cc
no_frame (Undoing f c) a b = cc
no_frame (Ended r) a b = refl

none_left : (ts : List Transaction) → HasNone is_forward ts → HasNone is_undoing ts → filter_map frame_in ts ≡ []
none_left [] a b = refl
none_left (x ∷ ts) a b =
    ap (λ o. cons_option o (filter_map frame_in ts)) (no_frame x (a 0 x refl) (b 0 x refl))
    ∙ none_left ts (λ j y h. a (suc j) y h) (λ j y h. b (suc j) y h)

-- an unfinished transaction that is not forward is undone
open_undoing : (x : Transaction) (f : Frame) → frame_in x ≡ Some f → is_forward x ≡ false → is_undoing x ≡ true
open_undoing (Forward g) f e a = cc
open_undoing (Undoing g c) f e a = refl
open_undoing (Ended r) f e a = cc

-- ---- sums

becomes_sum :
    (d : Design) (w w2 : World) (e : Event) (t : ℕ) (x y : Transaction) (o : Option (List Row × Transaction))
    → transaction_at t w.transactions ≡ Some x → becomes w e t o ≡ Some w2 → transaction_at t w2.transactions ≡ Some y
    → rest_of d y + 1 ≤ rest_of d x → sum_by (rest_of d) w2.transactions + 1 ≤ sum_by (rest_of d) w.transactions
becomes_sum d w w2 e t x y None at h q l = absurd (none-some w2 h)
becomes_sum d w w2 e t x y (Some z) at h q l =
    let s = same_Some (became w e t z) w2 h in
    let ts : set w.transactions (t - 1) z.1 ≡ w2.transactions = ap (λ v. v.transactions) s in
    let a = sum_set (rest_of d) w.transactions (t - 1) x z.1 (at_place t w.transactions x at).1 in
    let same : z.1 ≡ y = same_Some z.1 y (sym (set_new t w.transactions x z.1 at) ∙ (ap (transaction_at t) ts ∙ q)) in
    let r : rest_of d z.1 ≡ rest_of d y = ap (rest_of d) same in
    let b : sum_by (rest_of d) (set w.transactions (t - 1) z.1) ≡ sum_by (rest_of d) w2.transactions = ap (sum_by (rest_of d)) ts in
    omega arith

module _ (d : Design) (sound : IsSound d) (well : HasRunRules d) where
  -- one event of recovery
  record Goes (w : World) (e : Event) : Type 0 where
    next : World
    lawful : IsLawful d w e next
    falls : sum_by (rest_of d) next.transactions + 1 ≤ sum_by (rest_of d) w.transactions

  crash_goes :
      (w : World) → IsSteady d w → (t : ℕ) (f : Frame) → transaction_at t w.transactions ≡ Some (Forward f) → Goes w (Abort t Crash)
  crash_goes w steady t f at =
      let y : Transaction = Undoing (record f { side = UndoSide }) Crash in
      let event : after_event d w (Abort t Crash) ≡ Some (became w (Abort t Crash) t (w.rows, y)) =
      ap (λ o. becomes w (Abort t Crash) t (turned d w.rows Crash o)) at in
      let v = sound.variant w.rows f (ready d w steady t Next f (steady.each t (Forward f) at)) in
      record {
        next = became w (Abort t Crash) t (w.rows, y);
        lawful = record { leave = tt; event = event };
        falls =
            becomes_sum d w (became w (Abort t Crash) t (w.rows, y)) (Abort t Crash) t (Forward f) y
            (changed d w.rows (Abort t Crash) (transaction_at t w.transactions)) at event (set_new t w.transactions (Forward f) y at)
            (turn_falls (limit_of (slice_get d.types f.ty)) f.steps (variant_of d f) v.0 v.1);
      }

  undo_step :
      (w : World) → IsSteady d w → (t : ℕ) (f : Frame) (c : Cause) → transaction_at t w.transactions ≡ Some (Undoing f c) → Goes w (Undo t)
  undo_step w steady t f c at = let g = undo_goes d sound well w steady t f c at in by g g.falls
    where
      by : (g : UndoGoes d w t f c) → HasFallen d t f c g.after → Goes w (Undo t)
      by g (inl e) = record {
        next = g.after;
        lawful = record { leave = tt; event = g.event };
        falls =
            becomes_sum d w g.after (Undo t) t (Undoing f c) (Ended (record { t = t; outcome = Compensated c }))
            (changed d w.rows (Undo t) (transaction_at t w.transactions)) at g.event e (omega arith);
      }
      by g (inr e) =
          let st = steady_after d sound well w g.after (Undo t) steady (record { leave = tt; event = g.event }) in
          let v = sound.variant g.after.rows e.0 (ready d g.after st t UndoSide e.0 (st.each t (Undoing e.0 c) e.1)) in
          record {
            next = g.after;
            lawful = record { leave = tt; event = g.event };
            falls =
                becomes_sum d w g.after (Undo t) t (Undoing f c) (Undoing e.0 c)
                (changed d w.rows (Undo t) (transaction_at t w.transactions)) at g.event e.1
                (undo_falls (variant_of d f) (variant_of d e.0) v.0 e.2);
          }

  next_goes : (w : World) → IsSteady d w → (e : Event) → IsNext w e → Goes w e
  next_goes w steady e (crash t f at least) = crash_goes w steady t f at
  next_goes w steady e (undo t f at none least) = let o = opened t w f at in by o (is_forward o.x) refl
    where
      by : (o : IsOpen t w f) (b : Bool) → is_forward o.x ≡ b → Goes w (Undo t)
      by o true q = let k = forward_is o.x q in absurd (none t k.f (o.at ∙ ap Some k.is))
      by o false q = let k = undoing_is o.x (open_undoing o.x f o.frame q) in undo_step w steady t k.f k.c (o.at ∙ ap Some k.is)

  -- ---- a crash and an undo turn lower what may still come

  abbrev Falls : World → World → Type 0
  Falls w after = sum_by (rest_of d) after.transactions + 1 ≤ sum_by (rest_of d) w.transactions

  fallen : (w after : World) (e : Event) → after_event d w e ≡ Some after → Goes w e → Falls w after
  fallen w after e h g = subst (Falls w) (same_Some g.next after (sym g.lawful.event ∙ h)) g.falls

  crash_falls : (w after : World) → IsSteady d w → (t : ℕ) → after_event d w (Abort t Crash) ≡ Some after → Falls w after
  crash_falls w after steady t h = by (transaction_at t w.transactions) refl
    where
      none : (o : Option Transaction) → transaction_at t w.transactions ≡ o → turned d w.rows Crash o ≡ None → ⊥
      none o e k =
          none-some after (sym (ap (becomes w (Abort t Crash) t) (ap (turned d w.rows Crash) e ∙ k)) ∙ h)

      by : (o : Option Transaction) → transaction_at t w.transactions ≡ o → Falls w after
      by None e = absurd (none None e refl)
      by (Some (Forward f)) e = fallen w after (Abort t Crash) h (crash_goes w steady t f e)
      by (Some (Undoing f c)) e = absurd (none (Some (Undoing f c)) e refl)
      by (Some (Ended r)) e = absurd (none (Some (Ended r)) e refl)

  undo_falls_by : (w after : World) → IsSteady d w → (t : ℕ) → after_event d w (Undo t) ≡ Some after → Falls w after
  undo_falls_by w after steady t h = by (transaction_at t w.transactions) refl
    where
      none : (o : Option Transaction) → transaction_at t w.transactions ≡ o → undone d w.rows o ≡ None → ⊥
      none o e k = none-some after (sym (ap (becomes w (Undo t) t) (ap (undone d w.rows) e ∙ k)) ∙ h)

      by : (o : Option Transaction) → transaction_at t w.transactions ≡ o → Falls w after
      by None e = absurd (none None e refl)
      by (Some (Forward f)) e = absurd (none (Some (Forward f)) e refl)
      by (Some (Undoing f c)) e = fallen w after (Undo t) h (undo_step w steady t f c e)
      by (Some (Ended r)) e = absurd (none (Some (Ended r)) e refl)

  pub rests_fall : (w after : World) (e : Event) → IsSteady d w → IsBackward e → after_event d w e ≡ Some after → Falls w after
  rests_fall w after e steady (crashed t) h = crash_falls w after steady t h
  rests_fall w after e steady (undone_by t) h = undo_falls_by w after steady t h

  -- ---- every recovery is lawful, and short

  pub recovers_lawfully :
      (events : List Event) (w w2 : World) → IsSteady d w → Recovers d w events w2
      → LeadLawfully d w events w2 × (length events ≤ sum_by (rest_of d) w.transactions) × IsSteady d w2 × (unfinished w2 ≡ [])
  recovers_lawfully [] w w2 steady r = (r.0, omega arith, subst (IsSteady d) r.0 steady, subst (λ x. unfinished x ≡ []) r.0 r.1)
  recovers_lawfully (e ∷ rest) w w2 steady r =
      let g = next_goes w steady e r.0 in
      let s : g.next ≡ r.1.0 = same_Some g.next r.1.0 (sym g.lawful.event ∙ r.1.1) in
      let l : IsLawful d w e r.1.0 = subst (IsLawful d w e) s g.lawful in
      let f : sum_by (rest_of d) r.1.0.transactions + 1 ≤ sum_by (rest_of d) w.transactions =
      subst (λ x. sum_by (rest_of d) x.transactions + 1 ≤ sum_by (rest_of d) w.transactions) s g.falls in
      let k = recovers_lawfully rest r.1.0 w2 (steady_after d sound well w r.1.0 e steady l) r.1.2 in
      let n = k.1 in
      ((r.1.0, l, k.0), omega arith, k.2, k.3)

  -- ---- and there is one

  record HasRecovery (w : World) : Type 0 where
    events : List Event
    after : World
    recovers : Recovers d w events after

  one_more : (w : World) (e : Event) → IsNext w e → (g : Goes w e) → HasRecovery g.next → HasRecovery w
  one_more w e n g r = record { events = e ∷ r.events; after = r.after; recovers = (n, (g.next, g.lawful.event, r.recovers)) }

  module _ (w : World) where
    place_of : (i u : ℕ) → i + 1 ≡ u → u - 1 ≡ i
    place_of i u e = omega arith

    crash_next : (m : IsLeast is_forward w.transactions) → (k : IsForward m.x) → IsNext w (Abort (m.i + 1) Crash)
    crash_next m k =
        crash (m.i + 1) k.f (at_number w.transactions m.i ∙ (m.at ∙ ap Some k.is))
        (λ u g h. let p = at_place u w.transactions (Forward g) h in let q = p.0 in let l = m.least (u - 1) (Forward g) p.1 refl in
        omega arith)

    undo_next :
        HasNone is_forward w.transactions → (m : IsLeast is_undoing w.transactions) → (k : IsUndoing m.x) → IsNext w (Undo (m.i + 1))
    undo_next none m k =
        undo (m.i + 1) k.f (frame_from (m.i + 1) w k.f (Undoing k.f k.c) (at_number w.transactions m.i ∙ (m.at ∙ ap Some k.is)) refl)
        (λ u g h. let p = at_place u w.transactions (Forward g) h in not_both true (none (u - 1) (Forward g) p.1) refl)
        (λ u g h. let o = opened u w g h in let p = at_place u w.transactions o.x o.at in let q = p.0 in
        let l = m.least (u - 1) o.x p.1 (open_undoing o.x g o.frame (none (u - 1) o.x p.1)) in omega arith)

  go : (n : ℕ) (w : World) → IsSteady d w → sum_by (rest_of d) w.transactions ≤ n → HasRecovery w
  go zero w steady few = by (first_of_all is_forward w.transactions) (first_of_all is_undoing w.transactions)
    where
      by :
          IsLeast is_forward w.transactions ⊎ HasNone is_forward w.transactions
          → IsLeast is_undoing w.transactions ⊎ HasNone is_undoing w.transactions → HasRecovery w
      by (inl m) b =
          let k = forward_is m.x m.passes in
          let g = crash_goes w steady (m.i + 1) k.f (at_number w.transactions m.i ∙ (m.at ∙ ap Some k.is)) in
          let f = g.falls in absurd (omega arith)
      by (inr a) (inl m) =
          let k = undoing_is m.x m.passes in
          let g = undo_step w steady (m.i + 1) k.f k.c (at_number w.transactions m.i ∙ (m.at ∙ ap Some k.is)) in
          let f = g.falls in absurd (omega arith)
      by (inr a) (inr b) = record { events = []; after = w; recovers = (refl, none_left w.transactions a b) }
  go (suc n) w steady few = by (first_of_all is_forward w.transactions) (first_of_all is_undoing w.transactions) (λ x st l. go n x st l)
    where
      further :
          (e : Event) → IsNext w e → Goes w e → ((x : World) → IsSteady d x → sum_by (rest_of d) x.transactions ≤ n → HasRecovery x)
          → HasRecovery w
      further e m g ih =
          let f = g.falls in one_more w e m g (ih g.next (steady_after d sound well w g.next e steady g.lawful) (omega arith))

      by :
          IsLeast is_forward w.transactions ⊎ HasNone is_forward w.transactions
          → IsLeast is_undoing w.transactions ⊎ HasNone is_undoing w.transactions
          → ((x : World) → IsSteady d x → sum_by (rest_of d) x.transactions ≤ n → HasRecovery x) → HasRecovery w
      by (inl m) b ih =
          let k = forward_is m.x m.passes in
          further (Abort (m.i + 1) Crash) (crash_next w m k)
          (crash_goes w steady (m.i + 1) k.f (at_number w.transactions m.i ∙ (m.at ∙ ap Some k.is))) ih
      by (inr a) (inl m) ih =
          let k = undoing_is m.x m.passes in
          further (Undo (m.i + 1)) (undo_next w a m k)
          (undo_step w steady (m.i + 1) k.f k.c (at_number w.transactions m.i ∙ (m.at ∙ ap Some k.is))) ih
      by (inr a) (inr b) ih = record { events = []; after = w; recovers = (refl, none_left w.transactions a b) }

  pub recovery :
      (n : ℕ) (w : World) → IsSteady d w → sum_by (rest_of d) w.transactions ≤ n
      → (events : List Event) × (after : World) × Recovers d w events after
  recovery n w steady few = let r = go n w steady few in (r.events, r.after, r.recovers)
