-- What an event writes, and what it leaves of the frames.
use Rattle.std.proofs.Common.{◌≡◌, ◌⊎◌, inl, inr, ℕ, zero, suc, ◌+◌, ◌-◌, ◌<◌, ◌^◌, ◌==◌, List, [], ◌∷◌, ◌++◌, length, Bool, true, false, cond, Option}
use Rattle.std.proofs.Common.{Some, None, All, refl, sym, ap, ◌∙◌, subst, arith, set, length-append}
use Rattle.std.specs.Prelude.{slice_get, if◌then◌else◌, IfSome}
use Rattle.std.specs.List.{filter_map, cons_option, AllByRecursion}
use Rattle.std.proofs.lemmas.Bool.Decides.{Decides-eqb, nat_tests}
use Rattle.std.proofs.lemmas.List.Elements.{recursion_from_All, All-from_recursion, filter_map-append}
use Rattle.std.proofs.lemmas.Option.{none-some, same_Some}
use Rattle.acc_base.specs.declared.tables.Row.{Row}
use Rattle.acc_base.specs.declared.designs.Design.{Design}
use Rattle.acc_base.specs.declared.designs.Side.TheVariants.{Next, Undo as UndoSide}
use Rattle.acc_base.specs.declared.machines.Call.{Call}
use Rattle.acc_base.specs.declared.machines.Cause.{Cause}
use Rattle.acc_base.specs.declared.machines.Event.{Event}
use Rattle.acc_base.specs.declared.machines.Event.TheVariants.{Begin, Step, Abort, Undo}
use Rattle.acc_base.specs.declared.machines.Frame.{Frame}
use Rattle.acc_base.specs.declared.machines.Transaction.{Transaction}
use Rattle.acc_base.specs.declared.machines.Transaction.TheVariants.{Forward, Undoing}
use Rattle.acc_base.specs.Machine.{World, frame_in, unfinished, transaction_at, begun, next_number, call_fits, after_event, becomes, became}
use Rattle.acc_base.specs.Machine.{with_begun, changed}
use Rattle.acc_plain.specs.Reached.{IsReached}
use Rattle.acc_plain.proofs.Fitting.{IsOwn, AreFit}
use Rattle.acc_plain.proofs.Steady.{steady_reached}
use Rattle.acc_plain.proofs.Turning.{at_place}
use Rattle.acc_store.specs.declared.writes.Write.{Write}
use Rattle.acc_store.specs.Rows.{written}
use Rattle.acc_audit.specs.Since.{frame_of, AreOfStep, AreOf, number_of, moved_by}
use Rattle.acc_audit.proofs.EventRows.{begin_has, step_has, abort_has, undo_has}

-- ---- the frame with a number

find_frame : (n t i : ℕ) (ts : List Transaction) (x : Transaction) (f : Frame) → AreFit n ts → slice_get ts i ≡ Some x →
    frame_in x ≡ Some f → t ≡ n + i → frame_of t (filter_map frame_in ts) ≡ Some f
find_frame n t i [] x f fit at is number = absurd (none-some x at)
find_frame n t zero (y ∷ ts) x f fit at is number = by (frame_in y) (ap frame_in (same_Some y x at) ∙ is) fit.0
  where
    by : (o : Option Frame) → o ≡ Some f → IfSome o (IsOwn n) → frame_of t (cons_option o (filter_map frame_in ts)) ≡ Some f
    by None e own = absurd (none-some f e)
    by (Some g) e own =
        let same : g.t ≡ t = omega (arith, own.number, number) in
        ap (λ b. cond b (Some g) (frame_of t (filter_map frame_in ts))) ((Decides-eqb g.t t).1 same) ∙ e
find_frame n t (suc i) (y ∷ ts) x f fit at is number =
    by (frame_in y) fit.0 (find_frame (n + 1) t i ts x f fit.1 at is (omega (arith, number)))
  where
    by : (o : Option Frame) → IfSome o (IsOwn n) → frame_of t (filter_map frame_in ts) ≡ Some f →
        frame_of t (cons_option o (filter_map frame_in ts)) ≡ Some f
    by None own ih = ih
    by (Some g) own ih =
        let is_number = own.number in
        let other : (g.t == t) ≡ false = grind (arith, nat_tests) in
        ap (λ b. cond b (Some g) (frame_of t (filter_map frame_in ts))) other ∙ ih

module _ (d : Design) (w : World) (reached : IsReached d w) (few : length w.events < 2 ^ 30) where
  pub frame_there : (t : ℕ) (x : Transaction) (f : Frame) → transaction_at t w.transactions ≡ Some x → frame_in x ≡ Some f →
      frame_of t (unfinished w) ≡ Some f
  frame_there t x f at is =
      let place = at_place t w.transactions x at in
      let from = place.0 in
      find_frame 1 t (t - 1) w.transactions x f (steady_reached d w reached (omega (arith, few))).fit place.1 is (omega (arith, from))

  -- ---- what an event writes

  module _ (ws : List Write) where
    abbrev IsBy : List Row → Type 0
    IsBy rows = rows ≡ written ws w.rows

    pub of_step : (t : ℕ) → AreOfStep d w t Next ws → AreOf d w (Step t) ws
    of_step t are after h =
        step_has IsBy d w after t (λ f at rows s i to e. are f rows s i to (frame_there t (Forward f) f at refl) e) h

    pub of_undo : (t : ℕ) → AreOfStep d w t UndoSide ws → AreOf d w (Undo t) ws
    of_undo t are after h =
        undo_has IsBy d w after t (λ f c at rows s i to e. are f rows s i to (frame_there t (Undoing f c) f at refl) e) h

pub of_begin : (d : Design) (w : World) (call : Call) → AreOf d w (Begin call) []
of_begin d w call after h = begin_has (λ rows. rows ≡ w.rows) d w after call refl h

pub of_abort : (d : Design) (w : World) (t : ℕ) (c : Cause) → AreOf d w (Abort t c) []
of_abort d w t c after h = abort_has (λ rows. rows ≡ w.rows) d w after t c refl h

-- ---- the frames behind an event

module _ (P : Frame → Type 0) where
  -- a frame has this number, or has it by P
  abbrev pub Moved : ℕ → Frame → Type 0
  Moved t f = (f.t ≡ t) ⊎ P f

  all_kept : (t : ℕ) (fs : List Frame) → AllByRecursion P fs → AllByRecursion (Moved t) fs
  all_kept t [] a = tt
  all_kept t (f ∷ fs) a = (inr a.0, all_kept t fs a.1)

  all_rest : (o : Option Frame) (fs : List Frame) → AllByRecursion P (cons_option o fs) → AllByRecursion P fs
  all_rest None fs a = a
  all_rest (Some f) fs a = a.1

  set_frames : (n i : ℕ) (ts : List Transaction) (x : Transaction) → AreFit n (set ts i x) → AllByRecursion P (filter_map frame_in ts) →
      AllByRecursion (Moved (n + i)) (filter_map frame_in (set ts i x))
  set_frames n i [] x fit a = tt
  set_frames n zero (y ∷ ts) x fit a =
      by (frame_in x) fit.0 (all_kept (n + 0) (filter_map frame_in ts) (all_rest (frame_in y) (filter_map frame_in ts) a))
    where
      by : (o : Option Frame) → IfSome o (IsOwn n) → AllByRecursion (Moved (n + 0)) (filter_map frame_in ts) →
          AllByRecursion (Moved (n + 0)) (cons_option o (filter_map frame_in ts))
      by None own rest = rest
      by (Some f) own rest = let is = own.number in (inl (omega (arith, is)), rest)
  set_frames n (suc i) (y ∷ ts) x fit a =
      let number : (n + 1) + i ≡ n + suc i = omega arith in
      by (frame_in y) a (λ rest. subst (λ (m : ℕ). AllByRecursion (Moved m) (filter_map frame_in (set ts i x))) number
      (set_frames (n + 1) i ts x fit.1 rest))
    where
      by : (o : Option Frame) → AllByRecursion P (cons_option o (filter_map frame_in ts)) →
          (AllByRecursion P (filter_map frame_in ts) → AllByRecursion (Moved (n + suc i)) (filter_map frame_in (set ts i x))) →
          AllByRecursion (Moved (n + suc i)) (cons_option o (filter_map frame_in (set ts i x)))
      by None b ih = ih b
      by (Some g) b ih = (inr b.0, ih b.1)

  all_both : (t : ℕ) (fs : List Frame) (f : Frame) → AllByRecursion P fs → f.t ≡ t → AllByRecursion (Moved t) (fs ++ f ∷ [])
  all_both t [] f a is = (inl is, tt)
  all_both t (g ∷ fs) f a is = (inr a.0, all_both t fs f a.1 is)

last_of : {X : Type 0} (xs : List X) (x : X) → slice_get (xs ++ x ∷ []) (length (xs ++ x ∷ []) - 1) ≡ Some x
last_of xs x =
    let last : length (xs ++ x ∷ []) - 1 ≡ length xs = omega (arith, length-append xs (x ∷ [])) in
    ap (slice_get (xs ++ x ∷ [])) last ∙ behind xs x
  where
    behind : {X : Type 0} (xs : List X) (x : X) → slice_get (xs ++ x ∷ []) (length xs) ≡ Some x
    behind [] x = refl
    behind (y ∷ xs) x = behind xs x

-- an event of transaction t changes an item that is there
nothing_changed : (d : Design) (db : List Row) (e : Event) → changed d db e None ≡ None
nothing_changed d db (Begin call) = refl
nothing_changed d db (Step t) = refl
nothing_changed d db (Abort t c) = refl
nothing_changed d db (Undo t) = refl

module _ (d : Design) (w w2 : World) (fit : AreFit 1 w2.transactions) (P : Frame → Type 0)
    (all : AllByRecursion P (unfinished w)) where
  of_one : (e : Event) (t : ℕ) (o : Option Transaction) → transaction_at t w.transactions ≡ o →
      becomes w e t (changed d w.rows e o) ≡ Some w2 → AllByRecursion (Moved P t) (unfinished w2)
  of_one e t None at h = absurd (none-some w2 (ap (becomes w e t) (sym (nothing_changed d w.rows e)) ∙ h))
  of_one e t (Some x) at h = by (changed d w.rows e (Some x)) h
    where
      by : (o : Option (List Row × Transaction)) → becomes w e t o ≡ Some w2 → AllByRecursion (Moved P t) (unfinished w2)
      by None g = absurd (none-some w2 g)
      by (Some y) g =
          let is : set w.transactions (t - 1) y.1 ≡ w2.transactions = ap (λ (z : World). z.transactions) (same_Some (became w e t y) w2 g) in
          let from = (at_place t w.transactions x at).0 in
          let number : 1 + (t - 1) ≡ t = omega (arith, from) in
          subst (λ ts. AllByRecursion (Moved P t) (filter_map frame_in ts)) is
          (subst (λ (m : ℕ). AllByRecursion (Moved P m) (filter_map frame_in (set w.transactions (t - 1) y.1))) number
          (set_frames P 1 (t - 1) w.transactions y.1 (subst (AreFit 1) (sym is) fit) all))

  of_begun : (call : Call) (b : Bool) → (if b then Some (with_begun d w call) else None) ≡ Some w2 →
      AllByRecursion (Moved P (moved_by (Begin call) (unfinished w2))) (unfinished w2)
  of_begun call false h = absurd (none-some w2 h)
  of_begun call true h =
      let f = begun d (next_number w) call in
      let is : w.transactions ++ Forward f ∷ [] ≡ w2.transactions =
      ap (λ (z : World). z.transactions) (same_Some (with_begun d w call) w2 h) in
      let frames : unfinished w ++ f ∷ [] ≡ unfinished w2 =
      sym (filter_map-append frame_in w.transactions (Forward f ∷ [])) ∙ ap (filter_map frame_in) is in
      subst (λ fs. AllByRecursion (Moved P (number_of (slice_get fs (length fs - 1)))) fs) frames
      (all_both P (number_of (slice_get (unfinished w ++ f ∷ []) (length (unfinished w ++ f ∷ []) - 1))) (unfinished w) f all
      (sym (ap number_of (last_of (unfinished w) f))))

  frames_moved : (e : Event) → after_event d w e ≡ Some w2 → AllByRecursion (Moved P (moved_by e (unfinished w2))) (unfinished w2)
  frames_moved (Begin call) h = of_begun call (call_fits (slice_get d.types call.ty) call) h
  frames_moved (Step t) h = of_one (Step t) t (transaction_at t w.transactions) refl h
  frames_moved (Abort t c) h = of_one (Abort t c) t (transaction_at t w.transactions) refl h
  frames_moved (Undo t) h = of_one (Undo t) t (transaction_at t w.transactions) refl h

-- what all frames had before an event, all have behind it but that of its transaction
pub frames_but : (d : Design) (w w2 : World) (e : Event) (P : Frame → Type 0) → IsReached d w2 → length w2.events < 2 ^ 31 →
    after_event d w e ≡ Some w2 → All P (unfinished w) →
    All (λ f. (f.t ≡ moved_by e (unfinished w2)) ⊎ P f) (unfinished w2)
frames_but d w w2 e P reached few h all =
    let s = steady_reached d w2 reached (omega (arith, few)) in
    All-from_recursion (λ f. (f.t ≡ moved_by e (unfinished w2)) ⊎ P f) (unfinished w2)
    (frames_moved d w w2 s.fit P (recursion_from_All P (unfinished w) all) e h)
