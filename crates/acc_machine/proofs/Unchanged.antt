-- An event changes the frame of its own transaction alone.
use Rattle.std.proofs.Common.{◌≡◌, ℕ, zero, suc, ◌+◌, ◌-◌, ◌<◌, Bool, true, false, if◌then◌else◌, List, [], ◌∷◌, ◌++◌, length, set, sym}
use Rattle.std.proofs.Common.{subst, ap, refl, ◌∙◌, arith, Option, Some, None, length-append}
use Rattle.std.specs.Prelude.{◌≢◌, ◌==◌, option_and_then, slice_get}
use Rattle.std.proofs.lemmas.Option.{same_Some, none-some, cond_some}
use Rattle.std.proofs.lemmas.Bool.Decides.{nat_tests}
use Rattle.std.proofs.lemmas.List.Elements.{filter_map-append}
use Rattle.acc_base.specs.declared.tables.Row.{Row}
use Rattle.acc_base.specs.declared.designs.Design.{Design}
use Rattle.acc_base.specs.declared.machines.Call.{Call}
use Rattle.acc_base.specs.declared.machines.Cause.{Cause}
use Rattle.acc_base.specs.declared.machines.Event.{Event}
use Rattle.acc_base.specs.declared.machines.Event.TheVariants.{Begin, Step, Abort, Undo}
use Rattle.acc_base.specs.declared.machines.Frame.{Frame}
use Rattle.acc_base.specs.declared.machines.Transaction.{Transaction}
use Rattle.acc_base.specs.declared.machines.Transaction.TheVariants.{Forward}
use Rattle.acc_base.specs.Machine.{World, transaction_at, frame_in, unfinished, next_number, begun, with_begun, changed, became}
use Rattle.acc_base.specs.Machine.{becomes, after_event}
use Rattle.acc_base.specs.Locks.{frame_at}
use Rattle.acc_base.specs.Invariant.{IsSteady}
use Rattle.acc_lift.proofs.Transactions.{set_other, at_place}
use Rattle.acc_plain.specs.Taken.{number_in}
use Rattle.acc_lock_index.specs.Indexed.{IsIn}
use Rattle.acc_machine.specs.Agreeing.{AreApart, AgreeBut}
use Rattle.acc_machine.proofs.Places.{number_listed, of_number}

-- ---- the list, by number

module _ (d : Design) (w : World) (steady : IsSteady d w) where
  in_frame : (g : Frame) → IsIn (unfinished w) g → frame_at g.t w ≡ Some g
  in_frame g is = (of_number d w steady is.0 g is.1).frame

  frame_in_list : (u : ℕ) (g : Frame) → frame_at u w ≡ Some g → IsIn (unfinished w) g
  frame_in_list u g h = let a = number_listed d w steady u g h in (a.j, a.is)

  pub unfinished_apart : AreApart (unfinished w)
  unfinished_apart f g a b e = same_Some f g (sym (in_frame f a) ∙ (ap (λ n. frame_at n w) e ∙ in_frame g b))

-- ---- other transactions stay

-- all transactions but number t are as before
abbrev pub OthersStay : ℕ → World → World → Type 0
OthersStay t w w2 = (u : ℕ) → u ≢ t → transaction_at u w2.transactions ≡ transaction_at u w.transactions

pub agree_after : (d d2 : Design) (w w2 : World) (t : ℕ) → IsSteady d w → IsSteady d2 w2 → OthersStay t w w2
    → AgreeBut t (unfinished w) (unfinished w2)
agree_after d d2 w w2 t steady steady2 stay g n =
    let same : frame_at g.t w2 ≡ frame_at g.t w = ap (option_and_then frame_in) (stay g.t n) in (
      (λ is. frame_in_list d2 w2 steady2 g.t g (same ∙ in_frame d w steady g is)),
      (λ is. frame_in_list d w steady g.t g (sym same ∙ in_frame d2 w2 steady2 g is)),
    )

pub same_stays : (t : ℕ) (w w2 : World) → w2 ≡ w → OthersStay t w w2
same_stays t w w2 e u n = ap (λ (z : World). transaction_at u z.transactions) e

set_stays : (t : ℕ) (ts : List Transaction) (x : Transaction) → 0 < t → (u : ℕ) → u ≢ t → transaction_at u (set ts (t - 1) x) ≡ transaction_at u ts
set_stays t ts x p u n = by (u == 0) refl
  where
    by : (b : Bool) → (u == 0) ≡ b → (if b then None else slice_get (set ts (t - 1) x) (u - 1)) ≡ (if b then None else slice_get ts (u - 1))
    by true e = refl
    by false e = let q : 0 < u = grind (arith, nat_tests) in set_other ts (t - 1) (u - 1) x (λ z. n (omega arith))

push_other : (ts : List Transaction) (j : ℕ) (x : Transaction) → j ≢ length ts → slice_get (ts ++ x ∷ []) j ≡ slice_get ts j
push_other [] zero x n = absurd (n refl)
push_other [] (suc j) x n = refl
push_other (y ∷ ts) zero x n = refl
push_other (y ∷ ts) (suc j) x n = push_other ts j x (λ e. n (ap suc e))

push_stays : (ts : List Transaction) (x : Transaction) (u : ℕ) → u ≢ length ts + 1 → transaction_at u (ts ++ x ∷ []) ≡ transaction_at u ts
push_stays ts x u n = by (u == 0) refl
  where
    by : (b : Bool) → (u == 0) ≡ b → (if b then None else slice_get (ts ++ x ∷ []) (u - 1)) ≡ (if b then None else slice_get ts (u - 1))
    by true e = refl
    by false e = let q : 0 < u = grind (arith, nat_tests) in push_other ts (u - 1) x (λ z. n (omega arith))

push_new : (fs : List Frame) (f : Frame) → slice_get (fs ++ f ∷ []) (length fs) ≡ Some f
push_new [] f = refl
push_new (g ∷ fs) f = push_new fs f

pub last_is : (fs : List Frame) (f : Frame) → slice_get (fs ++ f ∷ []) (length (fs ++ f ∷ []) - 1) ≡ Some f
last_is fs f =
    let one : length (fs ++ f ∷ []) ≡ length fs + 1 = length-append fs (f ∷ []) in
    ap (slice_get (fs ++ f ∷ [])) (omega (arith, one)) ∙ push_new fs f

-- ---- by event

module _ (d : Design) (w w2 : World) where
  pub begins_so : (call : Call) → after_event d w (Begin call) ≡ Some w2 → w2 ≡ with_begun d w call
  begins_so call h = sym (cond_some _ (with_begun d w call) w2 h).1

  pub begin_stays : (call : Call) → after_event d w (Begin call) ≡ Some w2 → OthersStay (next_number w) w w2
  begin_stays call h u n =
      ap (λ (z : World). transaction_at u z.transactions) (begins_so call h)
      ∙ push_stays w.transactions (Forward (begun d (next_number w) call)) u n

  -- the one that began is the last of the list
  pub begun_last : (call : Call) → after_event d w (Begin call) ≡ Some w2
      → unfinished w2 ≡ unfinished w ++ begun d (next_number w) call ∷ []
  begun_last call h =
      ap unfinished (begins_so call h) ∙ filter_map-append frame_in w.transactions (Forward (begun d (next_number w) call) ∷ [])

  module _ (t : ℕ) where
    became_stays : (e : Event) (x : Transaction) → transaction_at t w.transactions ≡ Some x → (o : Option (List Row × Transaction))
        → becomes w e t o ≡ Some w2 → OthersStay t w w2
    became_stays e x at None h = absurd (none-some w2 h)
    became_stays e x at (Some z) h = λ u n.
        sym (ap (λ (y : World). transaction_at u y.transactions) (same_Some (became w e t z) w2 h))
        ∙ set_stays t w.transactions z.1 (at_place t w.transactions x at).0 u n

    abbrev after_of : Event → Option Transaction → Option World
    after_of e o = becomes w e t (changed d w.rows e o)

    pub step_stays : after_event d w (Step t) ≡ Some w2 → OthersStay t w w2
    step_stays h = by (transaction_at t w.transactions) refl h
      where
        by : (o : Option Transaction) → transaction_at t w.transactions ≡ o → after_of (Step t) o ≡ Some w2 → OthersStay t w w2
        by None e k = absurd (none-some w2 k)
        by (Some x) e k = became_stays (Step t) x e (changed d w.rows (Step t) (Some x)) k

    pub undo_stays : after_event d w (Undo t) ≡ Some w2 → OthersStay t w w2
    undo_stays h = by (transaction_at t w.transactions) refl h
      where
        by : (o : Option Transaction) → transaction_at t w.transactions ≡ o → after_of (Undo t) o ≡ Some w2 → OthersStay t w w2
        by None e k = absurd (none-some w2 k)
        by (Some x) e k = became_stays (Undo t) x e (changed d w.rows (Undo t) (Some x)) k

    pub abort_stays : (c : Cause) → after_event d w (Abort t c) ≡ Some w2 → OthersStay t w w2
    abort_stays c h = by (transaction_at t w.transactions) refl h
      where
        by : (o : Option Transaction) → transaction_at t w.transactions ≡ o → after_of (Abort t c) o ≡ Some w2 → OthersStay t w w2
        by None e k = absurd (none-some w2 k)
        by (Some x) e k = became_stays (Abort t c) x e (changed d w.rows (Abort t c) (Some x)) k

  -- t is the event's number; where one began, it is that of the last of the list
  pub record IsNumberOf (e : Event) (frames : List Frame) (t : ℕ) : Type 0 where
    pub known : (n : ℕ) → number_in e ≡ Some n → t ≡ n
    pub newest : number_in e ≡ None → (fs : List Frame) (f : Frame) → frames ≡ fs ++ f ∷ [] → t ≡ f.t

  pub event_stays : (e : Event) (t : ℕ) → IsNumberOf e (unfinished w2) t → after_event d w e ≡ Some w2 → OthersStay t w w2
  event_stays (Begin call) t is h =
      subst (λ n. OthersStay n w w2) (sym (is.newest refl (unfinished w) (begun d (next_number w) call) (begun_last call h)))
      (begin_stays call h)
  event_stays (Step n) t is h = subst (λ k. OthersStay k w w2) (sym (is.known n refl)) (step_stays n h)
  event_stays (Abort n c) t is h = subst (λ k. OthersStay k w w2) (sym (is.known n refl)) (abort_stays n c h)
  event_stays (Undo n) t is h = subst (λ k. OthersStay k w w2) (sym (is.known n refl)) (undo_stays n h)
