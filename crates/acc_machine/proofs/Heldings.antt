-- Who blocks a transaction, by its number.
use Rattle.std.proofs.Common.{◌≡◌, ℕ, List, sym, ap, subst, refl, ◌∙◌, Option, Some, None}
use Rattle.std.specs.Prelude.{◌≢◌, slice_get}
use Rattle.std.proofs.lemmas.Option.{same_Some}
use Rattle.acc_base.specs.declared.designs.Design.{Design}
use Rattle.acc_base.specs.declared.machines.Frame.{Frame}
use Rattle.acc_base.specs.declared.machines.Transaction.TheVariants.{Forward}
use Rattle.acc_base.specs.Machine.{World, transaction_at, frame_in, unfinished}
use Rattle.acc_base.specs.Locks.{frame_at}
use Rattle.acc_base.specs.Invariant.{IsSteady}
use Rattle.acc_lift.proofs.Transactions.{frame_from}
use Rattle.acc_lock_index.specs.Indexed.{IsIn}
use Rattle.acc_machine.specs.Holders.{IsForward, IsListed, TellsHolder}
use Rattle.acc_machine.specs.Turns.{TellsHeldAt}
use Rattle.acc_machine.proofs.Places.{number_listed}

module _ (d : Design) (w : World) (steady : IsSteady d w) where
  -- by the frame of that number
  pub held_at : (t : ℕ) (f : Frame) (r : Option (ℕ × ℕ)) → f.t ≡ t → IsForward w f → TellsHolder d w f r → TellsHeldAt d w t r
  held_at t f None n at h =
      let here : transaction_at t w.transactions ≡ Some (Forward f) =
      subst (λ k. transaction_at k w.transactions ≡ Some (Forward f)) n at in
      λ g e s. let same : f ≡ g = forward_same f g (same_Some (Forward f) (Forward g) (sym here ∙ e)) in
      subst (λ z. Rattle.acc_base.specs.Locks.IsUnblocked d w z) same
      (h (subst (λ z. Rattle.acc_base.specs.Machine.stop_of d w.rows z ≡ None) (sym same) s))
    where
      forward_same : (a b : Frame) → Forward a ≡ Forward b → a ≡ b
      forward_same a b e = same_Some a b (ap frame_in e)
  held_at t f (Some x) n at h =
      record { frame = f; forward = subst (λ k. transaction_at k w.transactions ≡ Some (Forward f)) n at; free = h.0; lowest = h.1 }

  -- one that is undone is held by nobody
  pub held_none : (t : ℕ) (f : Frame) → f.t ≡ t → (IsForward w f → ⊥) → IsListed w f → TellsHeldAt d w t None
  held_none t f n not_forward l =
      λ g e s. let k = steady.each t (Forward g) e in absurd (not_forward (other g e))
    where
      other : (g : Frame) → transaction_at t w.transactions ≡ Some (Forward g) → IsForward w f
      other g e =
          let a = Rattle.acc_machine.proofs.Places.of_number d w steady l.0 f l.1 in
          let b : frame_at f.t w ≡ Some g =
          frame_from f.t w g (Forward g) (subst (λ k. transaction_at k w.transactions ≡ Some (Forward g)) (sym n) e) refl in
          let same : g ≡ f = same_Some g f (sym b ∙ a.frame) in
          subst (λ k. transaction_at k w.transactions ≡ Some (Forward f)) (sym n) (e ∙ ap (λ z. Some (Forward z)) same)

  -- no frame has the number
  pub held_nowhere : (t : ℕ) (fs : List Frame) → fs ≡ unfinished w → ((g : Frame) → IsIn fs g → g.t ≢ t) → TellsHeldAt d w t None
  held_nowhere t fs q none =
      λ g e s. let a = number_listed d w steady t g (frame_from t w g (Forward g) e refl) in
      absurd (none g (a.j, ap (λ xs. slice_get xs a.j) q ∙ a.is) (steady.each t (Forward g) e).number)

-- a frame of the list
pub listed_in : (w : World) (fs : List Frame) (f : Frame) → fs ≡ unfinished w → IsIn fs f → IsListed w f
listed_in w fs f q is = (is.0, ap (λ xs. slice_get xs is.0) (sym q) ∙ is.1)
