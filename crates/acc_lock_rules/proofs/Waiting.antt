-- A pass in which nobody goes on would leave all stuck.
use Rattle.std.proofs.Common.{◌≡◌, ℕ, zero, suc, ◌+◌, ◌<◌, ◌≤◌, ◌⊎◌, inl, inr, List, [], ◌∷◌, length, Some, refl, sym, ap, subst}
use Rattle.std.proofs.Common.{◌∙◌}
use Rattle.std.proofs.Common.{arith}
use Rattle.std.specs.Prelude.{◌≢◌, map, slice_get, IsSome, IsSomeAnd, option_and_then}
use Rattle.std.proofs.lemmas.Option.{same_Some, none-some}
use Rattle.acc_base.specs.declared.designs.Design.{Design}
use Rattle.acc_base.specs.declared.machines.Frame.{Frame}
use Rattle.acc_base.specs.Locks.{frame_at}
use Rattle.acc_base.specs.Invariant.{IsSteady}
use Rattle.acc_base.specs.Machine.{World, frame_in, unfinished}
use Rattle.acc_lift.proofs.Transactions.{got_within, opened}
use Rattle.acc_plain.specs.Turned.{IsUnfinished}
use Rattle.acc_machine.specs.Holders.{IsHeldBack}
use Rattle.acc_machine.proofs.Places.{of_number}
use Rattle.acc_machine.proofs.Stucks.{stuck_from, more}
use Rattle.acc_lock_rules.specs.Passes.{Waits, Moves}

-- ---- a whole pass

-- there are more events; or nothing has changed, and each of the first i of the frames waits
abbrev pub Passes : Design → World → List Frame → ℕ → World → Type 0
Passes d was frames i w = (length was.events < length w.events)
    ⊎ ((w ≡ was) × ((j : ℕ) (f : Frame) → j < i → slice_get frames j ≡ Some f → Waits d was f.t))

unfinished_at : (w : World) (t : ℕ) (g : Frame) → frame_at t w ≡ Some g → IsUnfinished t w
unfinished_at w t g h = let o = opened t w g h in
    subst (λ z. IsSomeAnd z (λ x. IsSome (frame_in x))) (sym o.at) (subst IsSome (sym o.frame) refl)

pub passes_more : (d : Design) (was w new : World) → IsSteady d was → (i : ℕ) (f : Frame) → slice_get (unfinished was) i ≡ Some f
    → Passes d was (unfinished was) i w → Moves d w f.t new → Passes d was (unfinished was) (i + 1) new
passes_more d was w new steady i f at (inl l) (inl m) = inl (omega (arith, l, m))
passes_more d was w new steady i f at (inl l) (inr m) = inl (subst (λ (z : World). length was.events < length z.events) (sym m.0) l)
passes_more d was w new steady i f at (inr l) (inl m) = inl (subst (λ (z : World). length z.events < length new.events) l.0 m)
passes_more d was w new steady i f at (inr l) (inr m) = inr (m.0 ∙ l.0, more (λ g. Waits d was g.t) (unfinished was) i f at l.1 here)
  where
    here : Waits d was f.t
    here = subst (λ (z : World). Waits d z f.t) l.0
        (m.1 (subst (IsUnfinished f.t) (sym l.0) (unfinished_at was f.t f (of_number d was steady i f at).frame)))

held_at : (d : Design) (w : World) → IsSteady d w → (j : ℕ) (g : Frame) → slice_get (unfinished w) j ≡ Some g → Waits d w g.t
    → IsHeldBack d w g
held_at d w steady j g at waits =
    let frame : frame_at g.t w ≡ Some g = (of_number d w steady j g at).frame in
    let is : frame_at g.t w ≡ Some waits.frame =
    ap (λ k. frame_at k w) (sym waits.number) ∙ ap (option_and_then frame_in) waits.held.0 in
    subst (IsHeldBack d w) (same_Some waits.frame g (sym is ∙ frame)) waits.held

first_of : (fs : List Frame) → fs ≢ [] → (f : Frame) × (slice_get fs 0 ≡ Some f) × (0 < length fs)
first_of [] some = absurd (some refl)
first_of (f ∷ fs) some = (f, refl, omega arith)

-- in a pass over all that is unfinished somebody goes on
pub pass_goes_on : (d : Design) (was w : World) (i : ℕ) → IsSteady d was → unfinished was ≢ [] → length (unfinished was) ≤ i
    → Passes d was (unfinished was) i w → length was.events < length w.events
pass_goes_on d was w i steady some past (inl l) = l
pass_goes_on d was w i steady some past (inr l) =
    let f = first_of (unfinished was) some in
    let held : (j : ℕ) (g : Frame) → slice_get (unfinished was) j ≡ Some g → IsHeldBack d was g =
    λ j g at.
    let within = got_within (unfinished was) j g at in
    held_at d was steady j g at (l.1 j g (omega (arith, within, past)) at)
    in
    absurd ((l.1 0 f.0 (omega (arith, f.2, past)) f.1).loose (stuck_from d was steady some held))

pub as_many : (fs : List Frame) → length (map (λ (f : Frame). f.t) fs) ≡ length fs
as_many [] = refl
as_many (f ∷ fs) = ap suc (as_many fs)

-- the frame whose number stands at a place of the numbers
pub frame_of : (fs : List Frame) (i t : ℕ) → slice_get (map (λ (f : Frame). f.t) fs) i ≡ Some t
    → (f : Frame) × (slice_get fs i ≡ Some f) × (f.t ≡ t)
frame_of [] i t h = absurd (none-some t h)
frame_of (f ∷ fs) zero t h = (f, refl, same_Some f.t t h)
frame_of (f ∷ fs) (suc i) t h = frame_of fs i t h
