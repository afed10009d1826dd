-- The next event of a recovery, told from the frames: it is next, it may come, it is short, and it lowers what is left.
use Rattle.std.proofs.Common.{◌≡◌, ℕ, zero, suc, ◌<◌, ◌≤◌, ◌^◌, List, [], ◌∷◌, length, Bool, true, false, Option, Some, None, refl, sym, ap}
use Rattle.std.proofs.Common.{subst, ◌∙◌, arith}
use Rattle.std.specs.Prelude.{slice_get, sum_by, nat_lt, if◌then◌else◌}
use Rattle.std.proofs.lemmas.Option.{same_Some, none-some}
use Rattle.std.proofs.lemmas.Bool.Decides.{nat_tests}
use Rattle.acc_base.specs.declared.designs.Design.{Design}
use Rattle.acc_base.specs.declared.designs.Side.{Side}
use Rattle.acc_base.specs.declared.designs.Side.TheVariants.{Next, Undo as UndoSide}
use Rattle.acc_base.specs.declared.machines.Frame.{Frame}
use Rattle.acc_base.specs.declared.machines.Cause.TheVariants.{Crash}
use Rattle.acc_base.specs.declared.machines.Event.{Event}
use Rattle.acc_base.specs.declared.machines.Event.TheVariants.{Abort, Undo}
use Rattle.acc_base.specs.declared.machines.Transaction.{Transaction}
use Rattle.acc_base.specs.declared.machines.Transaction.TheVariants.{Forward, Undoing, Ended}
use Rattle.acc_base.specs.Machine.{World, transaction_at, frame_in, unfinished}
use Rattle.acc_base.specs.Lawful.{IsLawful}
use Rattle.acc_base.specs.Invariant.{rest_of, IsSteady}
use Rattle.acc_base.specs.Compensation.{IsNext, crash, undo}
use Rattle.acc_lift.specs.Acceptance.{IsAccepted}
use Rattle.acc_lift.specs.Laws.{IsBackward, crashed, undone_by}
use Rattle.acc_lift.proofs.FormRules.{run_rules}
use Rattle.acc_lift.proofs.Transactions.{at_within, opened, frame_from}
use Rattle.acc_lift.proofs.UndoTurns.{undo_goes}
use Rattle.acc_lift.proofs.Recovering.{rests_fall}
use Rattle.acc_wal.specs.Spellings.{event_bytes, Fits}
use Rattle.acc_machine.specs.Takes.{CanCome}
use Rattle.acc_machine.proofs.Places.{number_listed, of_number}
use Rattle.acc_machine.proofs.Stucks.{forward_by}
use Rattle.acc_machine.proofs.Taking.{crash_comes}
use Rattle.acc_recover.specs.Endings.{is_forward, first_forward, ending_from}

not_below : (t u : ℕ) → (u < t → ⊥) → t ≤ u
not_below t u never = by (nat_lt u t) refl
  where
    by : (b : Bool) → nat_lt u t ≡ b → t ≤ u
    by true e = absurd (never (grind (arith, nat_tests)))
    by false e = grind (arith, nat_tests)

two_sides : Next ≡ UndoSide → ⊥
two_sides e = cc

-- the first forward one of some frames
record IsFirstForward (frames : List Frame) (t : ℕ) : Type 0 where
  i : ℕ
  g : Frame
  at : slice_get frames i ≡ Some g
  number : g.t ≡ t
  side : g.side ≡ Next
  before : (j : ℕ) (f : Frame) → j < i → slice_get frames j ≡ Some f → f.side ≡ UndoSide

first_is : (frames : List Frame) (t : ℕ) → first_forward frames ≡ Some t → IsFirstForward frames t
first_is [] t h = absurd (none-some t h)
first_is (f ∷ frames) t h = by f.side refl h (first_is frames t)
  where
    earlier : f.side ≡ UndoSide → (m : IsFirstForward frames t) (j : ℕ) (z : Frame) → j < suc m.i → slice_get (f ∷ frames) j ≡ Some z →
        z.side ≡ UndoSide
    earlier e m zero z l q = sym (ap (λ (x : Frame). x.side) (same_Some f z q)) ∙ e
    earlier e m (suc j) z l q = m.before j z (omega arith) q

    by : (s : Side) → f.side ≡ s → (if is_forward s then Some f.t else first_forward frames) ≡ Some t →
        (first_forward frames ≡ Some t → IsFirstForward frames t) → IsFirstForward (f ∷ frames) t
    by Next e k ih = record { i = 0; g = f; at = refl; number = same_Some f.t t k; side = e; before = λ j z l q. absurd (omega arith) }
    by UndoSide e k ih = let m = ih k in record { i = suc m.i; g = m.g; at = m.at; number = m.number; side = m.side; before = earlier e m }

none_forward : (frames : List Frame) → first_forward frames ≡ None → (j : ℕ) (f : Frame) → slice_get frames j ≡ Some f → f.side ≡ UndoSide
none_forward [] h j f e = absurd (none-some f e)
none_forward (g ∷ frames) h j f e = by g.side refl h (λ k. none_forward frames k) j e
  where
    by : (s : Side) → g.side ≡ s → (if is_forward s then Some g.t else first_forward frames) ≡ None
        → (first_forward frames ≡ None → (i : ℕ) (z : Frame) → slice_get frames i ≡ Some z → z.side ≡ UndoSide)
        → (i : ℕ) → slice_get (g ∷ frames) i ≡ Some f → f.side ≡ UndoSide
    by Next q k ih i e = absurd (none-some g.t (sym k))
    by UndoSide q k ih zero e = sym (ap (λ (x : Frame). x.side) (same_Some g f e)) ∙ q
    by UndoSide q k ih (suc i) e = ih k i f e

pub none_unfinished : (first : Option ℕ) (frames : List Frame) → ending_from first frames ≡ None → frames ≡ []
none_unfinished (Some t) frames h = absurd cc
none_unfinished None [] h = refl
none_unfinished None (f ∷ frames) h = absurd cc

abbrev IsBrief : Event → Type 0
IsBrief event = Fits event × (length (event_bytes event) ≤ 14)

abort_brief : (t : ℕ) → t < 2 ^ 32 → IsBrief (Abort t Crash)
unfolding Fits event_bytes
abort_brief t lt = ((lt, omega arith), omega arith)

undo_brief : (t : ℕ) → t < 2 ^ 32 → IsBrief (Undo t)
unfolding Fits event_bytes
undo_brief t lt = (lt, omega arith)

backward : (w : World) (e : Event) → IsNext w e → IsBackward e
backward w e (crash t f at least) = crashed t
backward w e (undo t f at none least) = undone_by t

module _ (d : Design) (w : World) (steady : IsSteady d w) where
  -- ---- it is next

  lowest_forward : (t : ℕ) (m : IsFirstForward (unfinished w) t) (u : ℕ) (g : Frame) → transaction_at u w.transactions ≡ Some (Forward g) →
      m.g.t ≤ u
  lowest_forward t m u g at =
      not_below m.g.t u
      (λ l. let n = of_number d w steady m.i m.g m.at in let b = n.fewer u g l (frame_from u w g (Forward g) at refl) in
      two_sides (sym (steady.each u (Forward g) at).side_is ∙ m.before b.0 g b.1 b.2))

  crash_next : (t : ℕ) → first_forward (unfinished w) ≡ Some t → IsNext w (Abort t Crash)
  crash_next t h =
      let m = first_is (unfinished w) t h in
      subst (λ n. IsNext w (Abort n Crash)) m.number (crash m.g.t m.g (forward_by d w steady m.g (m.i, m.at) m.side) (lowest_forward t m))

  undo_next : (f : Frame) (frames : List Frame) → unfinished w ≡ f ∷ frames → first_forward (unfinished w) ≡ None → IsNext w (Undo f.t)
  undo_next f frames is none =
      let at : slice_get (unfinished w) 0 ≡ Some f = ap (λ (fs : List Frame). slice_get fs 0) is in
      let n = of_number d w steady 0 f at in
      undo f.t f n.frame
      (λ u g h. let p = number_listed d w steady u g (frame_from u w g (Forward g) h refl) in
      two_sides (sym (steady.each u (Forward g) h).side_is ∙ none_forward (unfinished w) none p.j g p.is))
      (λ u g h. not_below f.t u (λ l. let b = n.fewer u g l h in let z = b.1 in omega arith))

  next_by : (first : Option ℕ) (frames : List Frame) (e : Event) → first_forward (unfinished w) ≡ first → unfinished w ≡ frames →
      ending_from first frames ≡ Some e → IsNext w e
  next_by (Some t) frames e h is k = subst (IsNext w) (same_Some (Abort t Crash) e k) (crash_next t h)
  next_by None [] e h is k = absurd (none-some e k)
  next_by None (f ∷ frames) e h is k = subst (IsNext w) (same_Some (Undo f.t) e k) (undo_next f frames is h)

  pub next_is : (frames : List Frame) (e : Event) → frames ≡ unfinished w → Some e ≡ ending_from (first_forward frames) frames → IsNext w e
  next_is frames e is k =
      next_by (first_forward (unfinished w)) (unfinished w) e refl refl
      (ap (λ (fs : List Frame). ending_from (first_forward fs) fs) (sym is) ∙ sym k)

  -- ---- it may come

  pub next_comes : IsAccepted d → (e : Event) → IsNext w e → CanCome d w e
  next_comes a e (crash t f at least) = crash_comes d w t (record { frame = f; forward = at })
  next_comes a e (undo t f at none least) = let o = opened t w f at in by o.x o.at o.frame
    where
      by : (x : Transaction) → transaction_at t w.transactions ≡ Some x → frame_in x ≡ Some f → CanCome d w (Undo t)
      by (Forward g) q k = absurd (none t g q)
      by (Undoing g c) q k =
          let u = undo_goes d a.sound (run_rules d a.formed) w steady t g c q in
          record { after = u.after; lawful = record { leave = tt; event = u.event } }
      by (Ended r) q k = absurd (none-some f k)

  -- ---- it is short, and the events are few

  pub few : length w.events ≤ 2 ^ 24
  few = omega (arith, steady.ends)

  number_small : (t : ℕ) (x : Transaction) → transaction_at t w.transactions ≡ Some x → t < 2 ^ 32
  number_small t x at = omega (arith, (at_within t w.transactions x at).1, steady.counted, few)

  pub is_brief : (e : Event) → IsNext w e → IsBrief e
  is_brief e (crash t f at least) = abort_brief t (number_small t (Forward f) at)
  is_brief e (undo t f at none least) = let o = opened t w f at in undo_brief t (number_small t o.x o.at)

  -- ---- it lowers what may still come

  pub falls : IsAccepted d → (e : Event) (d2 : Design) (after : World) → IsNext w e → d2 ≡ d → IsLawful d w e after →
      sum_by (rest_of d2) after.transactions < sum_by (rest_of d) w.transactions
  falls a e d2 after n q l =
      let f = rests_fall d a.sound (run_rules d a.formed) w after e steady (backward w e n) l.event in
      subst (λ (x : Design). sum_by (rest_of x) after.transactions < sum_by (rest_of d) w.transactions) (sym q) (omega arith)
