-- A state is stuck where each of the unfinished is held back.
use Rattle.std.proofs.Common.{◌≡◌, ℕ, ◌+◌, ◌<◌, ◌≤◌, ◌⊎◌, inl, inr, arith, Bool, true, false, List, [], length, sym, ap, subst, refl, ◌∙◌}
use Rattle.std.proofs.Common.{Some, None}
use Rattle.std.specs.Prelude.{◌==◌, ◌≢◌, slice_get}
use Rattle.std.proofs.lemmas.Option.{same_Some}
use Rattle.acc_base.specs.declared.designs.Design.{Design}
use Rattle.acc_base.specs.declared.designs.Side.TheVariants.{Next, Undo as UndoSide}
use Rattle.acc_base.specs.declared.machines.Frame.{Frame}
use Rattle.acc_base.specs.declared.machines.Transaction.{Transaction}
use Rattle.acc_base.specs.declared.machines.Transaction.TheVariants.{Forward, Undoing, Ended}
use Rattle.acc_base.specs.Machine.{World, transaction_at, frame_in, unfinished}
use Rattle.acc_base.specs.Locks.{frame_at, IsHeldUp, IsStuck}
use Rattle.acc_base.specs.Invariant.{IsKept, IsSteady}
use Rattle.acc_lift.proofs.Becoming.{number_cases}
use Rattle.acc_lift.proofs.Transactions.{got_within, opened, frame_from}
use Rattle.acc_machine.specs.Holders.{IsForward, IsListed, IsHeldBack, TellsHolder}
use Rattle.acc_machine.proofs.Places.{number_listed, of_number}

module _ (d : Design) (w : World) (steady : IsSteady d w) where
  -- the side tells whether it is forward
  pub forward_by : (f : Frame) → IsListed w f → f.side ≡ Next → IsForward w f
  forward_by f l e = let n = of_number d w steady l.0 f l.1 in let o =
      opened f.t w f n.frame in by o.x o.at o.frame (steady.each f.t o.x o.at)
    where
      by : (x : Transaction) → transaction_at f.t w.transactions ≡ Some x → frame_in x ≡ Some f → IsKept d w.rows f.t x → IsForward w f
      by (Forward g) at q k = at ∙ ap (λ z. Some (Forward z)) (same_Some g f q)
      by (Undoing g c) at q k =
          let s : UndoSide ≡ Next = sym k.side_is ∙ (ap (λ (z : Frame). z.side) (same_Some g f q) ∙ e) in cc
      by (Ended r) at q k = cc

  pub not_forward : (f : Frame) → IsForward w f → f.side ≡ UndoSide → ⊥
  not_forward f at e = let k = steady.each f.t (Forward f) at in let s : Next ≡ UndoSide = sym k.side_is ∙ e in cc

  pub stuck_from : unfinished w ≢ [] → ((j : ℕ) (g : Frame) → slice_get (unfinished w) j ≡ Some g → IsHeldBack d w g) → IsStuck d w
  stuck_from some all = record { some = some; each = each }
    where
      held : (t : ℕ) (f : Frame) → frame_at t w ≡ Some f → IsHeldBack d w f
      held t f h = let a = number_listed d w steady t f h in all a.j f a.is

      each : (t : ℕ) (x : Transaction) → transaction_at t w.transactions ≡ Some x → IsHeldUp d w x
      each t (Forward f) at = let k = held t f (frame_from t w f (Forward f) at refl) in (k.1, k.2)
      each t (Undoing f c) at =
          let k = held t f (frame_from t w f (Undoing f c) at refl) in
          let s = steady.each t (Undoing f c) at in
          let same : Undoing f c ≡ Forward f =
          same_Some (Undoing f c) (Forward f) (sym at ∙ subst (λ n. transaction_at n w.transactions ≡ Some (Forward f)) s.number k.0)
          in cc
      each t (Ended r) at = tt

  pub held_in : IsStuck d w → (j : ℕ) (g : Frame) → slice_get (unfinished w) j ≡ Some g → IsHeldBack d w g
  held_in stuck j g h = let n = of_number d w steady j g h in let o =
      opened g.t w g n.frame in by o.x o.at o.frame (stuck.each g.t o.x o.at)
    where
      by : (x : Transaction) → transaction_at g.t w.transactions ≡ Some x → frame_in x ≡ Some g → IsHeldUp d w x → IsHeldBack d w g
      by (Forward f) at q k =
          let s = same_Some f g q in
          let m = subst (λ z. IsHeldUp d w (Forward z)) s k in (at ∙ ap (λ z. Some (Forward z)) s, m.0, m.1)
      by (Undoing f c) at q k = absurd k
      by (Ended r) at q k = cc

  -- by who blocks it
  pub held_by : (f : Frame) (found : ℕ × ℕ) → IsForward w f → TellsHolder d w f (Some found) → IsHeldBack d w f
  held_by f found at h = (at, h.0, (found.0, found.1, h.1.blocked))

  pub not_held : (f : Frame) → TellsHolder d w f None → IsHeldBack d w f → ⊥
  not_held f h k = h k.1 k.2.0 k.2.1 k.2.2

-- what holds of the frames before a place and of the one there holds of those before the next
pub more : (Q : Frame → Type 0) (fs : List Frame) (i : ℕ) (g : Frame) → slice_get fs i ≡ Some g
    → ((j : ℕ) (f : Frame) → j < i → slice_get fs j ≡ Some f → Q f) → Q g → (j : ℕ) (f : Frame) → j < i + 1 → slice_get fs j ≡ Some f → Q f
more Q fs i g at before here j f l e = by (number_cases j i)
  where
    by : (j ≡ i) ⊎ (j ≢ i) → Q f
    by (inl q) = subst Q (same_Some g f (sym at ∙ (ap (slice_get fs) (sym q) ∙ e))) here
    by (inr n) = before j f (omega arith) e

pub not_empty : (fs us : List Frame) (b : Bool) → b ≡ (length fs == 0) → b ≡ false → fs ≡ us → us ≢ []
not_empty fs us b e n q z = let t : true ≡ false = sym (ap (λ xs. length xs == 0) (q ∙ z)) ∙ (sym e ∙ n) in cc

pub all_so_far : (Q : Frame → Type 0) (fs us : List Frame) (i : ℕ) → ((j : ℕ) (f : Frame) → j < i → slice_get fs j ≡ Some f → Q f)
    → length fs ≤ i → fs ≡ us → (j : ℕ) (f : Frame) → slice_get us j ≡ Some f → Q f
all_so_far Q fs us i before l q j f e =
    let at : slice_get fs j ≡ Some f = ap (λ xs. slice_get xs j) q ∙ e in
    let k = got_within fs j f at in
    before j f (omega arith) at
