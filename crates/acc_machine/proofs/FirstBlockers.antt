-- The first of the unfinished that blocks a step is the lowest holder; and where none of them does, the step is free.
use Rattle.std.proofs.Common.{◌≡◌, ℕ, ◌<◌, inl, inr, List, sym, subst, ◌∙◌, Some, ℤ}
use Rattle.std.specs.Prelude.{slice_get}
use Rattle.std.proofs.lemmas.Option.{same_Some}
use Rattle.acc_base.specs.declared.steps.Target.{Target}
use Rattle.acc_base.specs.declared.steps.Target.TheVariants.{Point as ToPoint, Commit, Undone, Refuse}
use Rattle.acc_base.specs.declared.designs.Design.{Design}
use Rattle.acc_base.specs.declared.designs.Side.TheVariants.{Next}
use Rattle.acc_base.specs.declared.machines.Frame.{Frame}
use Rattle.acc_base.specs.Reads.{Reading}
use Rattle.acc_base.specs.Effects.{Effect, Goes, Refuses, OutOfRange, effect_of}
use Rattle.acc_base.specs.Machine.{World, unfinished}
use Rattle.acc_base.specs.Entries.{Forbids}
use Rattle.acc_plain.specs.Outlook.{Outlook}
use Rattle.acc_plain.specs.Outlooks.{outlook_of}
use Rattle.acc_base.specs.Locks.{frame_at, point_at, ClashesAfter, BlocksEffect, IsBlockedBy, IsUnblocked}
use Rattle.acc_base.specs.Invariant.{IsSteady}
use Rattle.acc_lift.proofs.Becoming.{stands_at}
use Rattle.acc_machine.specs.Blocked.{ClashesAt, Blocks, LetsPass, IsFirstBlocker}
use Rattle.acc_machine.specs.Lowest.{IsLowestBlocker}
use Rattle.acc_machine.proofs.Places.{number_listed, of_number}

-- ---- by what the step would do

clash_same : (d : Design) (f h : Frame) (n : ℕ) (s : Reading) (to : Target) → ClashesAt d f s.locals h n to → ClashesAfter d f h n s to
clash_same d f h n s (ToPoint p) c = c
clash_same d f h n s Commit c = c
clash_same d f h n s Undone c = c
clash_same d f h n s (Refuse m) c = c

same_clash : (d : Design) (f h : Frame) (n : ℕ) (s : Reading) (to : Target) → ClashesAfter d f h n s to → ClashesAt d f s.locals h n to
same_clash d f h n s (ToPoint p) c = c
same_clash d f h n s Commit c = c
same_clash d f h n s Undone c = c
same_clash d f h n s (Refuse m) c = c

-- the locals are those after the reads, where there are such
abbrev pub Agrees : Effect → List ℤ → Type 0
Agrees (Goes db s i to) locals = s.locals ≡ locals
Agrees (Refuses s n) locals = s.locals ≡ locals
Agrees OutOfRange locals = Unit {0}

module _ (d : Design) (f h : Frame) (n : ℕ) (locals : List ℤ) where
  pub blocks_effect : (E : Effect) → Agrees E locals → Blocks d f locals h (outlook_of E) n → BlocksEffect d f h n E
  blocks_effect (Goes db s i to) e (inl b) =
      inl (subst (λ z. Forbids d (point_at h.ty h.point) h.locals (point_at f.ty f.point) Next z n) (sym e) b)
  blocks_effect (Goes db s i to) e (inr b) = inr (clash_same d f h n s to (subst (λ z. ClashesAt d f z h n to) (sym e) b))
  blocks_effect (Refuses s m) e b = subst (λ z. Forbids d (point_at h.ty h.point) h.locals (point_at f.ty f.point) Next z n) (sym e) b
  blocks_effect OutOfRange e b = b

  pub effect_blocks : (E : Effect) → Agrees E locals → BlocksEffect d f h n E → Blocks d f locals h (outlook_of E) n
  effect_blocks (Goes db s i to) e (inl b) =
      inl (subst (λ z. Forbids d (point_at h.ty h.point) h.locals (point_at f.ty f.point) Next z n) e b)
  effect_blocks (Goes db s i to) e (inr b) = inr (subst (λ z. ClashesAt d f z h n to) e (same_clash d f h n s to b))
  effect_blocks (Refuses s m) e b = subst (λ z. Forbids d (point_at h.ty h.point) h.locals (point_at f.ty f.point) Next z n) e b
  effect_blocks OutOfRange e b = b

module _ (d : Design) (w : World) (steady : IsSteady d w) (f : Frame) (locals : List ℤ) (outlook : Outlook)
    (looks : outlook ≡ outlook_of (effect_of d w.rows f Next)) (agrees : Agrees (effect_of d w.rows f Next) locals) where
  passes : (g : Frame) → LetsPass d f locals outlook g → (u m : ℕ) → frame_at u w ≡ Some g → IsBlockedBy d w f u m → ⊥
  passes g l u m at b =
      let same : b.holder ≡ g = same_Some b.holder g (sym b.is_holder ∙ at) in
      let number : g.t ≡ u = (stands_at d w steady u g at).stands.number in
      let blocks : BlocksEffect d f g m (effect_of d w.rows f Next) =
      subst (λ z. BlocksEffect d f z m (effect_of d w.rows f Next)) same b.blocks in
      l (λ q. b.other (sym number ∙ q)) m
      (subst (λ o. Blocks d f locals g o m) (sym looks) (effect_blocks d f g m locals (effect_of d w.rows f Next) agrees blocks))

  -- where each lets it pass
  pub unblocked : ((j : ℕ) (g : Frame) → slice_get (unfinished w) j ≡ Some g → LetsPass d f locals outlook g) → IsUnblocked d w f
  unblocked all u m b = let a = number_listed d w steady u b.holder b.is_holder in passes b.holder (all a.j b.holder a.is) u m b.is_holder b

  -- where one is the first that blocks it
  pub lowest_blocker : (h n : ℕ) → IsFirstBlocker d (unfinished w) f locals outlook (h, n) → IsLowestBlocker d w f h n
  lowest_blocker h n b =
      let o = of_number d w steady b.place b.holder b.is_holder in
      let at : frame_at h w ≡ Some b.holder = subst (λ z. frame_at z w ≡ Some b.holder) b.number o.frame in
      record {
        blocked = record {
          holder = b.holder;
          is_holder = at;
          other = λ q. b.other (b.number ∙ q);
          blocks =
              blocks_effect d f b.holder n locals (effect_of d w.rows f Next) agrees
              (subst (λ z. Blocks d f locals b.holder z n) looks b.blocks);
        };
        holder = λ u m l c. let k = o.fewer u c.holder (subst (λ z. u < z) (sym b.number) l) c.is_holder in
            passes c.holder (b.before k.0 c.holder k.1 k.2) u m c.is_holder c;
        entry = λ m l c. passes_entry at m l c;
      }
    where
      passes_entry : frame_at h w ≡ Some b.holder → (m : ℕ) → m < n → IsBlockedBy d w f h m → ⊥
      passes_entry at m l c =
          let same : c.holder ≡ b.holder = same_Some c.holder b.holder (sym c.is_holder ∙ at) in
          let blocks : BlocksEffect d f b.holder m (effect_of d w.rows f Next) =
          subst (λ z. BlocksEffect d f z m (effect_of d w.rows f Next)) same c.blocks in
          b.lowest m l (subst (λ z. Blocks d f locals b.holder z m) (sym looks)
          (effect_blocks d f b.holder m locals (effect_of d w.rows f Next) agrees blocks))
