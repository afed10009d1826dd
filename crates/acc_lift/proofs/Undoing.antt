-- Compensation ends: whatever the others do, a lawful run has at most one undo turn more of a transaction than its variant.
use Rattle.std.proofs.Common.{◌≡◌, ℕ, ◌+◌, ◌≤◌, ◌⊎◌, inl, inr, List, [], ◌∷◌, Bool, true, false, cond, sym, subst, refl, ap, ◌∙◌, arith}
use Rattle.std.proofs.Common.{Option, Some, None}
use Rattle.std.specs.Prelude.{◌≢◌, ◌==◌, slice_get, unsigned_abs, count_by}
use Rattle.std.proofs.lemmas.Int.{ints}
use Rattle.std.proofs.lemmas.Option.{same_Some, none-some, cond_some}
use Rattle.std.proofs.lemmas.Bool.Decides.{nat_tests}
use Rattle.std.proofs.lemmas.List.Sums.{sum_by-cons}
use Rattle.acc_base.specs.declared.tables.Row.{Row}
use Rattle.acc_base.specs.declared.designs.Design.{Design}
use Rattle.acc_base.specs.declared.designs.Side.TheVariants.{Undo as UndoSide}
use Rattle.acc_base.specs.declared.machines.Frame.{Frame}
use Rattle.acc_base.specs.declared.machines.Call.{Call}
use Rattle.acc_base.specs.declared.machines.Cause.{Cause}
use Rattle.acc_base.specs.declared.machines.Event.{Event}
use Rattle.acc_base.specs.declared.machines.Event.TheVariants.{Begin, Step, Abort, Undo}
use Rattle.acc_base.specs.declared.machines.Outcome.TheVariants.{Compensated}
use Rattle.acc_base.specs.declared.machines.Reply.{Reply}
use Rattle.acc_base.specs.declared.machines.Transaction.{Transaction}
use Rattle.acc_base.specs.declared.machines.Transaction.TheVariants.{Forward, Undoing, Ended}
use Rattle.acc_base.specs.Machine.{World, transaction_at, call_fits, begun, next_number, with_begun, became, becomes, stepped, turned}
use Rattle.acc_base.specs.Machine.{undone, changed, after_event}
use Rattle.acc_base.specs.Soundness.{variant_of, IsSound}
use Rattle.acc_lift.specs.RunRules.{HasRunRules}
use Rattle.acc_base.specs.Lawful.{LeadLawfully}
use Rattle.acc_base.specs.Invariant.{IsSteady}
use Rattle.acc_base.specs.Compensation.{HasFallen, UndoGoes, is_undo_of}
use Rattle.acc_lift.proofs.Transactions.{at_place, set_old, pushed_old}
use Rattle.acc_lift.proofs.Becoming.{number_cases}
use Rattle.acc_lift.proofs.Stepping.{ready}
use Rattle.acc_lift.proofs.Theorem.{steady_after}
use Rattle.acc_lift.proofs.UndoTurns.{undo_goes}

-- ---- what other events leave of a transaction

module _ (d : Design) (w w2 : World) (t : ℕ) (x : Transaction) (at : transaction_at t w.transactions ≡ Some x) where
  becomes_other :
      (e : Event) (u : ℕ) (o : Option Transaction) → transaction_at u w.transactions ≡ o → (r : Option (List Row × Transaction))
      → becomes w e u r ≡ Some w2 → u ≢ t → (o ≡ None → r ≡ None) → transaction_at t w2.transactions ≡ Some x
  becomes_other e u None q None h n k = absurd (none-some w2 h)
  becomes_other e u None q (Some y) h n k = let z : Some y ≡ None = k refl in cc
  becomes_other e u (Some z) q None h n k = absurd (none-some w2 h)
  becomes_other e u (Some z) q (Some y) h n k =
      let p = (at_place u w.transactions z q).0 in
      subst (λ v. transaction_at t v.transactions ≡ Some x) (same_Some (became w e u y) w2 h)
      (set_old u t w.transactions y.1 x p (λ m. n (sym m)) at)

  none_changed : (e : Event) (o : Option Transaction) → o ≡ None → changed d w.rows e o ≡ None
  none_changed (Begin call) o h = refl
  none_changed (Step u) o h = ap (stepped d w.rows) h
  none_changed (Abort u c) o h = ap (turned d w.rows c) h
  none_changed (Undo u) o h = ap (undone d w.rows) h

  pub step_other : (u : ℕ) → after_event d w (Step u) ≡ Some w2 → u ≢ t → transaction_at t w2.transactions ≡ Some x
  step_other u h n =
      becomes_other (Step u) u (transaction_at u w.transactions) refl (changed d w.rows (Step u) (transaction_at u w.transactions)) h n
      (none_changed (Step u) (transaction_at u w.transactions))

  pub abort_other : (u : ℕ) (c : Cause) → after_event d w (Abort u c) ≡ Some w2 → u ≢ t → transaction_at t w2.transactions ≡ Some x
  abort_other u c h n =
      becomes_other (Abort u c) u (transaction_at u w.transactions) refl (changed d w.rows (Abort u c) (transaction_at u w.transactions)) h
      n (none_changed (Abort u c) (transaction_at u w.transactions))

  pub undo_other : (u : ℕ) → after_event d w (Undo u) ≡ Some w2 → u ≢ t → transaction_at t w2.transactions ≡ Some x
  undo_other u h n =
      becomes_other (Undo u) u (transaction_at u w.transactions) refl (changed d w.rows (Undo u) (transaction_at u w.transactions)) h n
      (none_changed (Undo u) (transaction_at u w.transactions))

  pub begin_other : (call : Call) → after_event d w (Begin call) ≡ Some w2 → transaction_at t w2.transactions ≡ Some x
  begin_other call h =
      let k = cond_some (call_fits (slice_get d.types call.ty) call) (with_begun d w call) w2 h in
      subst (λ v. transaction_at t v.transactions ≡ Some x) k.1 (pushed_old t w.transactions (Forward (begun d (next_number w) call)) x at)

-- what an event of its own does with one that has ended, and a step or turn with one that is undone: none
own_none :
    (d : Design) (w w2 : World) (e : Event) (t : ℕ) (x : Transaction) → transaction_at t w.transactions ≡ Some x
    → changed d w.rows e (Some x) ≡ None → becomes w e t (changed d w.rows e (transaction_at t w.transactions)) ≡ Some w2 → ⊥
own_none d w w2 e t x at n h =
    none-some w2 (sym (ap (λ o. becomes w e t (changed d w.rows e o)) at ∙ ap (becomes w e t) n) ∙ h)

-- ---- how many undo turns a lawful run has of a transaction

module _ (d : Design) (sound : IsSound d) (well : HasRunRules d) (t : ℕ) where
  abbrev undos : List Event → ℕ
  undos events = count_by (is_undo_of t) events

  undos_cons : (e : Event) (rest : List Event) → undos (e ∷ rest) ≡ cond (is_undo_of t e) 1 0 + undos rest
  undos_cons e rest = sum_by-cons (λ x. cond (is_undo_of t x) 1 0) e rest

  not_own : (u : ℕ) → u ≢ t → is_undo_of t (Undo u) ≡ false
  not_own u n = by (u == t) refl
    where
      by : (b : Bool) → (u == t) ≡ b → b ≡ false
      by true e = absurd (n (grind (arith, nat_tests)))
      by false e = refl

  one_of : (b : Bool) (n m : ℕ) → b ≡ false → n ≤ m → cond b 1 0 + n ≤ m
  one_of true n m e h = cc
  one_of false n m e h = omega arith

  -- none once it has ended
  ended_on :
      (e : Event) (w next : World) (r : Reply) (n : ℕ) → transaction_at t w.transactions ≡ Some (Ended r) → after_event d w e ≡ Some next
      → (transaction_at t next.transactions ≡ Some (Ended r) → n ≤ 0) → cond (is_undo_of t e) 1 0 + n ≤ 0
  ended_on (Begin call) w next r n at q ih = let k = ih (begin_other d w next t (Ended r) at call q) in omega arith
  ended_on (Step u) w next r n at q ih = by (number_cases u t)
    where
      by : (u ≡ t) ⊎ (u ≢ t) → 0 + n ≤ 0
      by (inl m) =
          absurd (own_none d w next (Step u) u (Ended r) (subst (λ z. transaction_at z w.transactions ≡ Some (Ended r)) (sym m) at) refl q)
      by (inr m) = let k = ih (step_other d w next t (Ended r) at u q m) in omega arith
  ended_on (Abort u c) w next r n at q ih = by (number_cases u t)
    where
      by : (u ≡ t) ⊎ (u ≢ t) → 0 + n ≤ 0
      by (inl m) =
          absurd (own_none d w next (Abort u c) u (Ended r) (subst (λ z. transaction_at z w.transactions ≡ Some (Ended r)) (sym m) at) refl
          q)
      by (inr m) = let k = ih (abort_other d w next t (Ended r) at u c q m) in omega arith
  ended_on (Undo u) w next r n at q ih = by (number_cases u t)
    where
      by : (u ≡ t) ⊎ (u ≢ t) → cond (is_undo_of t (Undo u)) 1 0 + n ≤ 0
      by (inl m) =
          absurd (own_none d w next (Undo u) u (Ended r) (subst (λ z. transaction_at z w.transactions ≡ Some (Ended r)) (sym m) at) refl q)
      by (inr m) = one_of (is_undo_of t (Undo u)) n 0 (not_own u m) (ih (undo_other d w next t (Ended r) at u q m))

  none_more :
      (events : List Event) (w w2 : World) (r : Reply) → transaction_at t w.transactions ≡ Some (Ended r) → LeadLawfully d w events w2
      → undos events ≤ 0
  none_more [] w w2 r at h = omega arith
  none_more (e ∷ rest) w w2 r at h =
      let k = undos_cons e rest in
      let j = ended_on e w h.0 r (undos rest) at h.1.event (λ a. none_more rest h.0 w2 r a h.2) in
      omega arith

  -- an event that lets a transaction on the undo side stay as it is, or its own undo turn
  module _ (c : Cause) where
    abbrev Most : ℕ → Frame → ℕ → Type 0
    Most n f m = n ≤ unsigned_abs (variant_of d f) + m

    own_undo :
        (w next : World) (f : Frame) (n : ℕ) → IsSteady d w → transaction_at t w.transactions ≡ Some (Undoing f c)
        → after_event d w (Undo t) ≡ Some next → ((r : Reply) → transaction_at t next.transactions ≡ Some (Ended r) → n ≤ 0)
        → ((g : Frame) → transaction_at t next.transactions ≡ Some (Undoing g c) → n ≤ unsigned_abs (variant_of d g) + 1) → IsSteady d next
        → cond (is_undo_of t (Undo t)) 1 0 + n ≤ unsigned_abs (variant_of d f) + 1
    own_undo w next f n steady at q ended on st = by (cond_most (is_undo_of t (Undo t))) (undo_goes d sound well w steady t f c at)
      where
        cond_most : (b : Bool) → cond b 1 0 ≤ 1
        cond_most true = omega arith
        cond_most false = omega arith

        by :
            cond (is_undo_of t (Undo t)) 1 0 ≤ 1 → (g : UndoGoes d w t f c)
            → cond (is_undo_of t (Undo t)) 1 0 + n ≤ unsigned_abs (variant_of d f) + 1
        by l g = split g.falls (same_Some g.after next (sym g.event ∙ q))
          where
            split : HasFallen d t f c g.after → g.after ≡ next → cond (is_undo_of t (Undo t)) 1 0 + n ≤ unsigned_abs (variant_of d f) + 1
            split (inl e) s =
                let k = ended (record { t = t; outcome = Compensated c })
                (subst (λ z. transaction_at t z.transactions ≡ Some (Ended (record { t = t; outcome = Compensated c }))) s e) in omega arith
            split (inr e) s =
                let a : transaction_at t next.transactions ≡ Some (Undoing e.0 c) =
                subst (λ z. transaction_at t z.transactions ≡ Some (Undoing e.0 c)) s e.1 in
                let k = on e.0 a in
                let x = sound.variant w.rows f (ready d w steady t UndoSide f (steady.each t (Undoing f c) at)) in
                let y = sound.variant next.rows e.0 (ready d next st t UndoSide e.0 (st.each t (Undoing e.0 c) a)) in
                let z = e.2 in
                omega (arith, ints)

    undoing_on :
        (e : Event) (w next : World) (f : Frame) (n : ℕ) → IsSteady d w → transaction_at t w.transactions ≡ Some (Undoing f c)
        → after_event d w e ≡ Some next → ((r : Reply) → transaction_at t next.transactions ≡ Some (Ended r) → n ≤ 0)
        → ((g : Frame) → transaction_at t next.transactions ≡ Some (Undoing g c) → n ≤ unsigned_abs (variant_of d g) + 1) → IsSteady d next
        → cond (is_undo_of t e) 1 0 + n ≤ unsigned_abs (variant_of d f) + 1
    undoing_on (Begin call) w next f n steady at q ended on st =
        let k = on f (begin_other d w next t (Undoing f c) at call q) in omega arith
    undoing_on (Step u) w next f n steady at q ended on st = by (number_cases u t)
      where
        by : (u ≡ t) ⊎ (u ≢ t) → 0 + n ≤ unsigned_abs (variant_of d f) + 1
        by (inl m) =
            absurd (own_none d w next (Step u) u (Undoing f c)
            (subst (λ z. transaction_at z w.transactions ≡ Some (Undoing f c)) (sym m) at) refl q)
        by (inr m) = let k = on f (step_other d w next t (Undoing f c) at u q m) in omega arith
    undoing_on (Abort u b) w next f n steady at q ended on st = by (number_cases u t)
      where
        by : (u ≡ t) ⊎ (u ≢ t) → 0 + n ≤ unsigned_abs (variant_of d f) + 1
        by (inl m) =
            absurd (own_none d w next (Abort u b) u (Undoing f c)
            (subst (λ z. transaction_at z w.transactions ≡ Some (Undoing f c)) (sym m) at) refl q)
        by (inr m) = let k = on f (abort_other d w next t (Undoing f c) at u b q m) in omega arith
    undoing_on (Undo u) w next f n steady at q ended on st = by (number_cases u t)
      where
        by : (u ≡ t) ⊎ (u ≢ t) → cond (is_undo_of t (Undo u)) 1 0 + n ≤ unsigned_abs (variant_of d f) + 1
        by (inl m) =
            subst (λ z. cond (is_undo_of t (Undo z)) 1 0 + n ≤ unsigned_abs (variant_of d f) + 1) (sym m)
            (own_undo w next f n steady at (subst (λ z. after_event d w (Undo z) ≡ Some next) m q) ended on st)
        by (inr m) =
            one_of (is_undo_of t (Undo u)) n (unsigned_abs (variant_of d f) + 1) (not_own u m)
            (on f (undo_other d w next t (Undoing f c) at u q m))

    pub few_undos :
        (events : List Event) (w w2 : World) (f : Frame) → IsSteady d w → transaction_at t w.transactions ≡ Some (Undoing f c)
        → LeadLawfully d w events w2 → undos events ≤ unsigned_abs (variant_of d f) + 1
    few_undos [] w w2 f steady at h = omega arith
    few_undos (e ∷ rest) w w2 f steady at h =
        let st = steady_after d sound well w h.0 e steady h.1 in
        let k = undos_cons e rest in
        let j = undoing_on e w h.0 f (undos rest) steady at h.1.event (λ r a. none_more rest h.0 w2 r a h.2)
        (λ g a. few_undos rest h.0 w2 g st a h.2) st in
        omega arith
