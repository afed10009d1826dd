-- Small lawful runs: what nobody blocks, and how a lawful list of events is taken apart.
use Rattle.std.proofs.Common.{◌≡◌, ℕ, zero, suc, ◌-◌, inl, inr, List, [], ◌∷◌, Bool, true, false, Option, Some, None, refl, sym, subst}
use Rattle.std.proofs.Common.{ap, ◌∙◌, arith, ℤ}
use Rattle.std.specs.Prelude.{◌==◌, ◌≢◌, slice_get, if◌then◌else◌, option_and_then, option_map}
use Rattle.std.specs.List.{AllByRecursion}
use Rattle.std.proofs.lemmas.Option.{same_Some, none-some}
use Rattle.acc_base.specs.declared.steps.Target.{Target}
use Rattle.acc_base.specs.declared.steps.Target.TheVariants.{Point as ToPoint, Commit, Undone, Refuse}
use Rattle.acc_base.specs.declared.designs.At.{At}
use Rattle.acc_base.specs.declared.designs.Design.{Design}
use Rattle.acc_base.specs.declared.designs.Entry.{Entry}
use Rattle.acc_base.specs.declared.designs.Side.{Side}
use Rattle.acc_base.specs.declared.designs.Side.TheVariants.{Next, Undo as UndoSide}
use Rattle.acc_base.specs.declared.machines.Event.{Event}
use Rattle.acc_base.specs.declared.machines.Frame.{Frame}
use Rattle.acc_base.specs.declared.machines.Transaction.{Transaction}
use Rattle.acc_base.specs.declared.machines.Transaction.TheVariants.{Forward}
use Rattle.acc_base.specs.Reads.{Reading}
use Rattle.acc_base.specs.Effects.{Effect, Goes, Refuses, OutOfRange, effect_of}
use Rattle.acc_base.specs.Machine.{World, start, transaction_at, frame_in, after_event}
use Rattle.acc_base.specs.Cells.{cells}
use Rattle.acc_base.specs.Guarded.{guarded, one_at_a_time, has_read, reads_next}
use Rattle.acc_base.specs.Entries.{at_of, Forbids}
use Rattle.acc_base.specs.Locks.{frame_at, ClashesEither, ClashesAfter, BlocksEffect, IsBlockedBy, IsUnblocked}
use Rattle.acc_base.specs.Lawful.{HasLeave, LeadLawfully}

-- ---- lists of events

-- the state that an event leaves
abbrev pub left : Option World → World
left None = start
left (Some w) = w

-- what a lawful list says of its first event, and of the others from the state that this leaves
pub peeled :
    (d : Design) (w : World) (e : Event) (rest : List Event) (after next : World) → after_event d w e ≡ Some next
    → LeadLawfully d w (e ∷ rest) after → HasLeave d w e × LeadLawfully d next rest after
peeled d w e rest after next h lawful =
    let is : lawful.0 ≡ next = same_Some lawful.0 next (sym lawful.1.event ∙ h) in
    (lawful.1.leave, subst (λ x. LeadLawfully d x rest after) is lawful.2)

-- ---- what blocks

-- an entry that forbids a forward step where the holder stands
pub record HasBlocker (d : Design) (w : World) (f : Frame) (h n : ℕ) : Type 0 where
  pub holder : Frame
  pub is_holder : frame_at h w ≡ Some holder
  pub reading : Reading
  pub forbids : Forbids d (at_of holder) holder.locals (at_of f) Next reading.locals n

-- where no entry forbids undo steps, only such an entry blocks
module _ (d : Design) (no_undo : (held step : At) (l m : List ℤ) (n : ℕ) → ¬ Forbids d held l step UndoSide m n) where
  no_clash : (a b : At) (l m : List ℤ) (n : ℕ) → ¬ ClashesEither d a l b m n
  no_clash a b l m n (inl c) = no_undo _ _ m l n c.forbids
  no_clash a b l m n (inr c) = no_undo _ _ l m n c.forbids

  no_later_clash : (f h : Frame) (n : ℕ) (s : Reading) (to : Target) → ¬ ClashesAfter d f h n s to
  no_later_clash f h n s (ToPoint p) c = no_clash _ _ _ _ n c
  no_later_clash f h n s Commit c = c
  no_later_clash f h n s Undone c = c
  no_later_clash f h n s (Refuse m) c = c

  by_effect :
      (w : World) (f g : Frame) (h n : ℕ) → frame_at h w ≡ Some g
      → (effect : Effect) → BlocksEffect d f g n effect → HasBlocker d w f h n
  by_effect w f g h n is (Goes db s i to) (inl x) = record { holder = g; is_holder = is; reading = s; forbids = x }
  by_effect w f g h n is (Goes db s i to) (inr c) = absurd (no_later_clash f g n s to c)
  by_effect w f g h n is (Refuses s m) x = record { holder = g; is_holder = is; reading = s; forbids = x }
  by_effect w f g h n is OutOfRange x = absurd x

  pub blocker : (w : World) (f : Frame) (h n : ℕ) → IsBlockedBy d w f h n → HasBlocker d w f h n
  blocker w f h n b = by_effect w f b.holder h n b.is_holder (effect_of d w.rows f Next) b.blocks

-- ---- the cells, without an entry

no_entry : (held step : At) (l m : List ℤ) (side : Side) (n : ℕ) → ¬ Forbids cells held l step side m n
no_entry held step l m side n x = none-some x.entry x.is_entry

pub free_cells : (w : World) (f : Frame) → IsUnblocked cells w f
free_cells w f h n b =
    let x = blocker cells (λ held step l m k. no_entry held step l m UndoSide k) w f h n b in
    no_entry _ _ _ _ Next n x.forbids

-- ---- the cells with their entry

one_entry : (i : ℕ) (e : Entry) → slice_get guarded.entries i ≡ Some e → e ≡ one_at_a_time
one_entry zero e h = sym (same_Some one_at_a_time e h)
one_entry (suc i) e h = absurd (none-some e h)

no_undo_entry : (held step : At) (l m : List ℤ) (n : ℕ) → ¬ Forbids guarded held l step UndoSide m n
no_undo_entry held step l m n x =
    let is_next : Next ≡ UndoSide = sym (ap (λ e. e.side) (one_entry (n - 1) x.entry x.is_entry)) ∙ x.side_is in
    cc

-- only the step of a counter that is about to read is blocked
free_step : (w : World) (f : Frame) → at_of f ≢ reads_next → IsUnblocked guarded w f
free_step w f other h n b =
    let x = (blocker guarded no_undo_entry w f h n b).forbids in
    other (sym x.step_is ∙ ap (λ e. e.step) (one_entry (n - 1) x.entry x.is_entry))

pub free_elsewhere :
    (w : World) (t : ℕ) (f : Frame) (at : At) → frame_at t w ≡ Some f → option_map at_of (frame_at t w) ≡ Some at
    → at ≢ reads_next → IsUnblocked guarded w f
free_elsewhere w t f at is there other =
    let here : at ≡ at_of f = same_Some at (at_of f) (sym there ∙ ap (option_map at_of) is) in
    free_step w f (λ e. other (here ∙ e))

-- and only where another has read
abbrev pub HasNotRead : Transaction → Type 0
HasNotRead x = (g : Frame) → frame_in x ≡ Some g → at_of g ≢ has_read

pub ended_has_not_read : (g : Frame) → None ≡ Some g → at_of g ≢ has_read
ended_has_not_read g e h = none-some g e

pub start_has_not_read : (f : Frame) → f.point ≡ 0 → HasNotRead (Forward f)
start_has_not_read f first g e h =
    let same : f.point ≡ 1 = ap (λ (x : Frame). x.point) (same_Some f g e) ∙ ap (λ a. a.point) h in
    omega arith

item_of : (P : Transaction → Type 0) (xs : List Transaction) (i : ℕ) (x : Transaction) → AllByRecursion P xs → slice_get xs i ≡ Some x → P x
item_of P [] i x all h = absurd (none-some x h)
item_of P (y ∷ xs) zero x all h = subst P (same_Some y x h) all.0
item_of P (y ∷ xs) (suc i) x all h = item_of P xs i x all.1 h

frame_of :
    (P : Transaction → Type 0) (xs : List Transaction) (t : ℕ) (g : Frame) → AllByRecursion P xs
    → option_and_then frame_in (transaction_at t xs) ≡ Some g → (x : Transaction) × P x × (frame_in x ≡ Some g)
frame_of P xs t g all h = at (t == 0) h
  where
    found :
        (o : Option Transaction) → slice_get xs (t - 1) ≡ o → option_and_then frame_in o ≡ Some g
        → (x : Transaction) × P x × (frame_in x ≡ Some g)
    found None is e = absurd (none-some g e)
    found (Some x) is e = (x, item_of P xs (t - 1) x all is, e)

    at :
        (b : Bool) → option_and_then frame_in (if b then None else slice_get xs (t - 1)) ≡ Some g
        → (x : Transaction) × P x × (frame_in x ≡ Some g)
    at true e = absurd (none-some g e)
    at false e = found (slice_get xs (t - 1)) refl e

pub free_read : (w : World) (f : Frame) → AllByRecursion HasNotRead w.transactions → IsUnblocked guarded w f
free_read w f all h n b =
    let x = blocker guarded no_undo_entry w f h n b in
    let g = frame_of HasNotRead w.transactions h x.holder all x.is_holder in
    g.1 x.holder g.2 (sym x.forbids.held_is ∙ ap (λ e. e.held) (one_entry (n - 1) x.forbids.entry x.forbids.is_entry))
