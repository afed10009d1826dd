-- Every state that a run reaches is steady: rows in order, few and near 0, and frames that fit.
use Rattle.std.proofs.Common.{◌≡◌, ℕ, ◌+◌, ◌-◌, ◌*◌, ◌<◌, ◌≤◌, ◌^◌, List, [], ◌∷◌, ◌++◌, length, Bool, true, false, Option, Some, None}
use Rattle.std.proofs.Common.{refl, sym, ap, subst, ◌∙◌, arith, set, length-append, length-set}
use Rattle.std.specs.Prelude.{option_and_then, slice_get, if◌then◌else◌}
use Rattle.std.proofs.lemmas.Option.{slice_get_within}
use Rattle.acc_base.specs.declared.tables.Row.{Row}
use Rattle.acc_base.specs.declared.designs.Design.{Design}
use Rattle.acc_base.specs.declared.designs.Side.{Side}
use Rattle.acc_base.specs.declared.designs.Side.TheVariants.{Next, Undo as UndoSide}
use Rattle.acc_base.specs.declared.steps.Target.{Target}
use Rattle.acc_base.specs.declared.steps.Target.TheVariants.{Point as ToPoint, Commit, Undone, Refuse}
use Rattle.acc_base.specs.declared.machines.Call.{Call}
use Rattle.acc_base.specs.declared.machines.Cause.{Cause}
use Rattle.acc_base.specs.declared.machines.Event.{Event}
use Rattle.acc_base.specs.declared.machines.Event.TheVariants.{Begin, Step, Abort, Undo}
use Rattle.acc_base.specs.declared.machines.Frame.{Frame}
use Rattle.acc_base.specs.declared.machines.Outcome.TheVariants.{Compensated}
use Rattle.acc_base.specs.declared.machines.Transaction.{Transaction}
use Rattle.acc_base.specs.declared.machines.Transaction.TheVariants.{Forward, Undoing, Ended}
use Rattle.acc_base.specs.Tables.{IsInOrder}
use Rattle.acc_base.specs.Reads.{Reading}
use Rattle.acc_base.specs.Effects.{Effect, Goes, Refuses, OutOfRange, effect_of}
use Rattle.acc_base.specs.Machine.{World, start, stop_of, may_turn, after_event, after_events, becomes, became, with_begun, begun}
use Rattle.acc_base.specs.Machine.{next_number, call_fits, changed, stepped, turned, undone, step_by, forward_by, back_by, forward_to}
use Rattle.acc_base.specs.Machine.{back_to, with_rows, transaction_at, moved, committed}
use Rattle.acc_base.specs.Runnable.{IsRunnable}
use Rattle.acc_store.specs.Bounds.{AreWithin}
use Rattle.acc_store.specs.Rows.{SumsFit}
use Rattle.acc_base.proofs.RowOrder.{order_to}
use Rattle.acc_store.proofs.Withins.{sums_fit}
use Rattle.acc_step.proofs.Bounds.{within_weaker}
use Rattle.acc_step.proofs.StepLeaves.{StepLeaves, goes_leaves}
use Rattle.acc_plain.specs.Reached.{IsReached}
use Rattle.acc_plain.proofs.Fitting.{IsOwn, Fits, AreFit, fit_push, fit_set, fit_get, fits_frame, begun_fits}
use Rattle.acc_plain.proofs.Turning.{at_place}
use Rattle.acc_plain.proofs.Runs.{event_logged}

-- how far from 0 the values may lie after so many events
abbrev pub reach : ℕ → ℕ
reach n = 2 ^ 45 + n * (16 * 2 ^ 45)

-- after n events
pub record IsSteady (n : ℕ) (rows : List Row) (transactions : List Transaction) : Type 0 where
  pub order : IsInOrder rows
  pub few : length rows ≤ n * 16
  pub within : AreWithin (reach n) rows
  pub counted : length transactions ≤ n
  pub fit : AreFit 1 transactions

-- one more event that leaves the rows, and adds a transaction at most
steady_longer : (n : ℕ) (rows : List Row) (transactions more : List Transaction) → IsSteady n rows transactions → length more ≤ n + 1 →
    AreFit 1 more → IsSteady (n + 1) rows more
steady_longer n rows transactions more s count fit =
    let few = s.few in
    record {
      order = s.order;
      few = omega arith;
      within = within_weaker (reach n) (reach (n + 1)) (omega arith) rows s.within;
      counted = count;
      fit = fit;
    }

-- what an event of one transaction leaves
record Left (n t : ℕ) (x : List Row × Transaction) : Type 0 where
  order : IsInOrder x.0
  few : length x.0 ≤ n * 16 + 16
  within : AreWithin (reach n + 16 * 2 ^ 45) x.0
  fits : Fits t x.1

steady_left : (n t : ℕ) (rows : List Row) (transactions : List Transaction) (x : List Row × Transaction) → IsSteady n rows transactions →
    0 < t → Left n t x → IsSteady (n + 1) x.0 (set transactions (t - 1) x.1)
steady_left n t rows transactions x s from left =
    let few = left.few in
    let counted = s.counted in
    let place : 1 + (t - 1) ≡ t = omega arith in
    record {
      order = left.order;
      few = omega arith;
      within = within_weaker (reach n + 16 * 2 ^ 45) (reach (n + 1)) (omega arith) x.0 left.within;
      counted = omega (arith, length-set transactions (t - 1) x.1);
      fit = fit_set 1 transactions (t - 1) x.1 s.fit (subst (λ (m : ℕ). Fits m x.1) (sym place) left.fits);
    }

-- ---- the frame after a step

stands : (n t : ℕ) (f : Frame) (after : List Row) (s : Reading) (side : Side) (p m : ℕ) → IsOwn t f → StepLeaves m n f after s →
    IsOwn t (moved side f s p)
stands n t f after s Next p m own l =
    let few = own.fitting.few in
    let kept = l.kept in
    record {
      number = own.number;
      fitting = record { locals = l.small; few = omega arith; tape = own.fitting.tape; long = own.fitting.long };
    }
stands n t f after s UndoSide p m own l =
    let few = own.fitting.few in
    let kept = l.kept in
    record {
      number = own.number;
      fitting = record { locals = l.small; few = omega arith; tape = own.fitting.tape; long = own.fitting.long };
    }

module _ (d : Design) (n t : ℕ) (rows : List Row) (f : Frame) (can : IsRunnable d) (order : IsInOrder rows) (few : length rows ≤ n * 16)
    (within : AreWithin (reach n) rows) (own : IsOwn t f) (small : t ≤ 2 ^ 45) where
  leaves : (side : Side) (after : List Row) (s : Reading) (i : ℕ) (to : Target) → effect_of d rows f side ≡ Goes after s i to →
      StepLeaves (n * 16) (reach n) f after s
  leaves side after s i to e = goes_leaves d rows f side after s i to (n * 16) (reach n) e can (fits_frame t f own small) order few within
      (omega arith)

  ended : (after : List Row) (s : Reading) (x : Transaction) → StepLeaves (n * 16) (reach n) f after s → Fits t x → Left n t (after, x)
  ended after s x l k = record { order = l.order; few = l.few; within = l.within; fits = k }

  forward_left : (after : List Row) (s : Reading) (to : Target) (x : List Row × Transaction) → StepLeaves (n * 16) (reach n) f after s →
      with_rows after (forward_to d f s to) ≡ Some x → Left n t x
  forward_left after s (ToPoint p) x l e =
      let is : (after, Forward (moved Next f s p)) ≡ x = cc in
      subst (Left n t) is (ended after s (Forward (moved Next f s p)) l (stands (reach n) t f after s Next p (n * 16) own l))
  forward_left after s Commit x l e =
      let is : (after, Ended (committed d f s)) ≡ x = cc in
      subst (Left n t) is (ended after s (Ended (committed d f s)) l tt)
  forward_left after s Undone x l e = absurd cc
  forward_left after s (Refuse m) x l e = absurd cc

  back_left : (c : Cause) (after : List Row) (s : Reading) (to : Target) (x : List Row × Transaction) →
      StepLeaves (n * 16) (reach n) f after s → with_rows after (back_to f c s to) ≡ Some x → Left n t x
  back_left c after s (ToPoint p) x l e =
      let is : (after, Undoing (moved UndoSide f s p) c) ≡ x = cc in
      subst (Left n t) is (ended after s (Undoing (moved UndoSide f s p) c) l (stands (reach n) t f after s UndoSide p (n * 16) own l))
  back_left c after s Commit x l e = absurd cc
  back_left c after s Undone x l e =
      let is : (after, Ended (record { t = f.t; outcome = Compensated c })) ≡ x = cc in
      subst (Left n t) is (ended after s (Ended (record { t = f.t; outcome = Compensated c })) l tt)
  back_left c after s (Refuse m) x l e = absurd cc

  forward_effect : (effect : Effect) (x : List Row × Transaction) → effect_of d rows f Next ≡ effect → forward_by d f effect ≡ Some x →
      Left n t x
  forward_effect (Goes after s i to) x is e = forward_left after s to x (leaves Next after s i to is) e
  forward_effect (Refuses s m) x is e = absurd cc
  forward_effect OutOfRange x is e = absurd cc

  back_effect : (c : Cause) (effect : Effect) (x : List Row × Transaction) → effect_of d rows f UndoSide ≡ effect →
      back_by f c effect ≡ Some x → Left n t x
  back_effect c (Goes after s i to) x is e = back_left c after s to x (leaves UndoSide after s i to is) e
  back_effect c (Refuses s m) x is e = absurd cc
  back_effect c OutOfRange x is e = absurd cc

  step_left : (stop : Option Cause) (x : List Row × Transaction) → step_by d rows f stop ≡ Some x → Left n t x
  step_left None x e = forward_effect (effect_of d rows f Next) x refl e
  step_left (Some c) x e = absurd cc

  stays : (x : Transaction) → Fits t x → Left n t (rows, x)
  stays x k = record {
    order = order;
    few = omega arith;
    within = within_weaker (reach n) (reach n + 16 * 2 ^ 45) (omega arith) rows within;
    fits = k;
  }

  turn_left : (c : Cause) (b : Bool) (x : List Row × Transaction) →
      (if b then Some (rows, Undoing (record f { side = UndoSide }) c) else None) ≡ Some x → Left n t x
  turn_left c true x e =
      let is : (rows, Undoing (record f { side = UndoSide }) c) ≡ x = cc in
      subst (Left n t) is (stays (Undoing (record f { side = UndoSide }) c)
      (record {
        number = own.number;
        fitting = record {
          locals = own.fitting.locals;
          few = own.fitting.few;
          tape = own.fitting.tape;
          long = own.fitting.long;
        };
      }))
  turn_left c false x e = absurd cc

-- ---- an event of a transaction

module _ (d : Design) (n t : ℕ) (rows : List Row) (can : IsRunnable d) (order : IsInOrder rows) (few : length rows ≤ n * 16)
    (within : AreWithin (reach n) rows) (small : t ≤ 2 ^ 45) where
  left_by_step : (x : Option Transaction) (y : List Row × Transaction) → ((z : Transaction) → x ≡ Some z → Fits t z) →
      stepped d rows x ≡ Some y → Left n t y
  left_by_step None y fits e = absurd cc
  left_by_step (Some (Forward f)) y fits e = step_left d n t rows f can order few within (fits (Forward f) refl) small (stop_of d rows f) y
      e
  left_by_step (Some (Undoing f c)) y fits e = absurd cc
  left_by_step (Some (Ended r)) y fits e = absurd cc

  left_by_turn : (c : Cause) (x : Option Transaction) (y : List Row × Transaction) → ((z : Transaction) → x ≡ Some z → Fits t z) →
      turned d rows c x ≡ Some y → Left n t y
  left_by_turn c None y fits e = absurd cc
  left_by_turn c (Some (Forward f)) y fits e = turn_left d n t rows f can order few within (fits (Forward f) refl) small c
      (may_turn d rows f c) y e
  left_by_turn c (Some (Undoing f b)) y fits e = absurd cc
  left_by_turn c (Some (Ended r)) y fits e = absurd cc

  left_by_undo : (x : Option Transaction) (y : List Row × Transaction) → ((z : Transaction) → x ≡ Some z → Fits t z) →
      undone d rows x ≡ Some y → Left n t y
  left_by_undo None y fits e = absurd cc
  left_by_undo (Some (Forward f)) y fits e = absurd cc
  left_by_undo (Some (Undoing f c)) y fits e = back_effect d n t rows f can order few within (fits (Undoing f c) refl) small c
      (effect_of d rows f UndoSide) y refl e
  left_by_undo (Some (Ended r)) y fits e = absurd cc

-- ---- an event of a state

abbrev pub IsSteadyWorld : World → Type 0
IsSteadyWorld w = IsSteady (length w.events) w.rows w.transactions

logged_steady : (w : World) (e : Event) (x : List Row × Transaction) (t : ℕ) →
    IsSteady (length w.events + 1) x.0 (set w.transactions (t - 1) x.1) → IsSteadyWorld (became w e t x)
logged_steady w e x t h =
    let count : length w.events + 1 ≡ length (w.events ++ e ∷ []) = omega (arith, length-append w.events (e ∷ [])) in
    subst (λ (m : ℕ). IsSteady m x.0 (set w.transactions (t - 1) x.1)) count h

-- the number of a transaction that has begun is at most the count of them
at_most : (t : ℕ) (ts : List Transaction) (x : Transaction) → slice_get ts (t - 1) ≡ Some x → 0 < t → t ≤ length ts
at_most t ts x e from = let k = slice_get_within ts (t - 1) x e in omega arith

pub fits_at : (w : World) (t : ℕ) (z : Transaction) → IsSteadyWorld w → transaction_at t w.transactions ≡ Some z → Fits t z ×
    (t ≤ length w.events)
fits_at w t z s at =
    let place = at_place t w.transactions z at in
    let from = place.0 in
    let same : 1 + (t - 1) ≡ t = omega arith in
    let most = at_most t w.transactions z place.1 from in
    let counted = s.counted in
    (subst (λ (m : ℕ). Fits m z) same (fit_get 1 w.transactions (t - 1) z s.fit place.1), omega arith)

became_steady : (w : World) (e : Event) (t : ℕ) (o : Option (List Row × Transaction)) (w2 : World) → IsSteadyWorld w →
    ((y : List Row × Transaction) → o ≡ Some y → (0 < t) × Left (length w.events) t y) → becomes w e t o ≡ Some w2 → IsSteadyWorld w2
became_steady w e t None w2 s left h = absurd cc
became_steady w e t (Some y) w2 s left h =
    let is : became w e t y ≡ w2 = cc in
    let l = left y refl in
    subst IsSteadyWorld is (logged_steady w e y t (steady_left (length w.events) t w.rows w.transactions y s l.0 l.1))

-- what an event of transaction t leaves, by what it does with a transaction
module _ (d : Design) (w : World) (s : IsSteadyWorld w) (t : ℕ) (short : length w.events ≤ 2 ^ 45) (act : Option Transaction →
    Option (List Row × Transaction)) (none : act None ≡ None) (leaves_it : t ≤ 2 ^ 45 →
    (x : Option Transaction) (y : List Row × Transaction) → ((z : Transaction) → x ≡ Some z → Fits t z) → act x ≡ Some y →
    Left (length w.events) t y) where
  event_left : (x : Option Transaction) (y : List Row × Transaction) → transaction_at t w.transactions ≡ x → act x ≡ Some y → (0 < t) ×
      Left (length w.events) t y
  event_left None y at e = let wrong = sym none ∙ e in absurd cc
  event_left (Some z) y at e =
      let place = at_place t w.transactions z at in
      let fit = fits_at w t z s at in
      let small = fit.1 in
      (place.0, leaves_it (omega arith) (Some z) y (λ v h. let same : z ≡ v = cc in subst (Fits t) same fit.0) e)

begin_steady : (d : Design) (w : World) (call : Call) (b : Bool) (w2 : World) → IsRunnable d → IsSteadyWorld w →
    call_fits (slice_get d.types call.ty) call ≡ b → (if b then Some (with_begun d w call) else None) ≡ Some w2 → IsSteadyWorld w2
begin_steady d w call false w2 can s fits h = absurd cc
begin_steady d w call true w2 can s fits h =
    let is : with_begun d w call ≡ w2 = cc in
    let ts = w.transactions in
    let new = Forward (begun d (next_number w) call) in
    let counted = s.counted in
    let number : next_number w ≡ 1 + length ts = omega arith in
    let fit : AreFit 1 (ts ++ new ∷ []) = fit_push 1 ts new s.fit
    (subst (λ (m : ℕ). Fits m new) number (begun_fits d (next_number w) call can fits)) in
    let long : length (ts ++ new ∷ []) ≤ length w.events + 1 = omega (arith, length-append ts (new ∷ [])) in
    let count : length w.events + 1 ≡ length (w.events ++ Begin call ∷ []) = omega (arith, length-append w.events (Begin call ∷ [])) in
    subst IsSteadyWorld is (subst (λ (m : ℕ). IsSteady m w.rows (ts ++ new ∷ [])) count
    (steady_longer (length w.events) w.rows ts (ts ++ new ∷ []) s long fit))

steady_next : (d : Design) (w : World) (e : Event) (w2 : World) → IsRunnable d → IsSteadyWorld w → length w.events ≤ 2 ^ 45 →
    after_event d w e ≡ Some w2 → IsSteadyWorld w2
steady_next d w (Begin call) w2 can s short h = begin_steady d w call (call_fits (slice_get d.types call.ty) call) w2 can s refl h
steady_next d w (Step t) w2 can s short h =
    became_steady w (Step t) t (changed d w.rows (Step t) (transaction_at t w.transactions)) w2 s
    (λ y e. event_left d w s t short (stepped d w.rows) refl (left_by_step d (length w.events) t w.rows can s.order s.few s.within)
    (transaction_at t w.transactions) y refl e) h
steady_next d w (Abort t c) w2 can s short h =
    became_steady w (Abort t c) t (changed d w.rows (Abort t c) (transaction_at t w.transactions)) w2 s
    (λ y e. event_left d w s t short (turned d w.rows c) refl
    (λ small. left_by_turn d (length w.events) t w.rows can s.order s.few s.within small c) (transaction_at t w.transactions) y refl e)
    h
steady_next d w (Undo t) w2 can s short h =
    became_steady w (Undo t) t (changed d w.rows (Undo t) (transaction_at t w.transactions)) w2 s
    (λ y e. event_left d w s t short (undone d w.rows) refl (left_by_undo d (length w.events) t w.rows can s.order s.few s.within)
    (transaction_at t w.transactions) y refl e) h

-- ---- runs

some_next : (d : Design) (rest : List Event) (o : Option World) (w2 : World) → option_and_then (λ x. after_events d x rest) o ≡ Some w2 →
    (x : World) × (o ≡ Some x) × (after_events d x rest ≡ Some w2)
some_next d rest None w2 h = absurd cc
some_next d rest (Some x) w2 h = (x, refl, h)

steady_along : (d : Design) (events : List Event) (w w2 : World) → IsRunnable d → IsSteadyWorld w →
    length w.events + length events ≤ 2 ^ 45 → after_events d w events ≡ Some w2 → IsSteadyWorld w2
steady_along d [] w w2 can s short h = let is : w ≡ w2 = cc in subst IsSteadyWorld is s
steady_along d (e ∷ rest) w w2 can s short h =
    let next = some_next d rest (after_event d w e) w2 h in
    let one = event_logged d w e next.0 next.1 in
    let count : length next.0.events ≡ length w.events + 1 = omega (arith, ap length one, length-append w.events (e ∷ [])) in
    steady_along d rest next.0 w2 can (steady_next d w e next.0 can s (omega arith) next.1) (omega arith) next.2

steady_start : IsSteadyWorld start
steady_start = record {
  order = order_to [] tt;
  few = omega arith;
  within = λ k d lt. absurd (omega arith);
  counted = omega arith;
  fit =
      tt;
}

-- a state that is reached by not too many events is steady
pub steady_reached : (d : Design) (w : World) → IsReached d w → length w.events ≤ 2 ^ 40 → IsSteadyWorld w
steady_reached d w r short = steady_along d w.events start w r.runnable steady_start (omega arith) r.run

-- ---- what the store and the step ask for

-- the absolute values of a column add up to at most 2^120
pub sums_stay : (w : World) → IsSteadyWorld w → length w.events ≤ 2 ^ 31 → SumsFit w.rows
sums_stay w s short =
    let few = s.few in
    sums_fit (2 ^ 35) (2 ^ 82) w.rows (omega arith) (within_weaker (reach (length w.events)) (2 ^ 82) (omega arith) w.rows s.within)
    (omega arith)
