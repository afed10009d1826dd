-- Two transactions stay compatible: as one begins, and as one is undone.
use Rattle.std.proofs.Common.{◌≡◌, ℕ, ◌-◌, inl, inr, List, [], ◌∷◌, sym, subst, refl, ap, ◌∙◌, ℤ}
use Rattle.std.specs.Prelude.{All}
use Rattle.std.proofs.lemmas.List.Elements.{All-head, All-tail, All-nil, All-cons}
use Rattle.acc_base.specs.declared.steps.Target.TheVariants.{Point as ToPoint, Undone}
use Rattle.acc_base.specs.declared.designs.Design.{Design}
use Rattle.acc_base.specs.declared.designs.At.{At}
use Rattle.acc_base.specs.declared.designs.Side.{Side}
use Rattle.acc_base.specs.declared.designs.Side.TheVariants.{Undo as UndoSide}
use Rattle.acc_base.specs.Linear.{var}
use Rattle.acc_base.specs.Entries.{Forbids}
use Rattle.acc_lift.specs.RunRules.{HasRunRules, IsEntryOf, IsUnassigned}
use Rattle.acc_base.specs.Locks.{point_at, LeadsBack, Reaches, here, on, AreCompatible}

pub compatible_turned : (d : Design) (a b : At) (la lb : List ℤ) → AreCompatible d a la b lb → AreCompatible d b lb a la
compatible_turned d a b la lb h n (inl c) = h n (inr c)
compatible_turned d a b la lb h n (inr c) = h n (inl c)

-- an undo step leaves two points compatible
pub compatible_undo :
    (d : Design) (ty p q : ℕ) (b : At) (la lb : List ℤ) → LeadsBack d ty p q → AreCompatible d (point_at ty p) la b lb
    → AreCompatible d (point_at ty q) la b lb
compatible_undo d ty p q b la lb l h n (inl c) =
    h n
    (inl (record { step = c.step; held = c.held; step_reached = on l c.step_reached; held_reached = c.held_reached; forbids = c.forbids }))
compatible_undo d ty p q b la lb l h n (inr c) =
    h n
    (inr (record { step = c.step; held = c.held; step_reached = c.step_reached; held_reached = on l c.held_reached; forbids = c.forbids }))

-- an undo step of the one is not forbidden by the other
pub undo_free : (d : Design) (a b : At) (la lb : List ℤ) → AreCompatible d a la b lb → (n : ℕ) → Forbids d b lb a UndoSide la n → ⊥
undo_free d a b la lb h n f = h n (inl (record { step = a.point; held = b.point; step_reached = here; held_reached = here; forbids = f }))

-- ---- locals that no undo step assigns

module _ (d : Design) (well : HasRunRules d) (ty : ℕ) (old new : List ℤ)
    (same : (x : ℕ) → IsUnassigned d ty x → var new x ≡ var old x) where
  step_pairs :
      (held : List ℤ) (pairs : List (ℕ × ℕ)) → All (λ pair. IsUnassigned d ty pair.1) pairs → All (λ p. var held p.0 ≡ var new p.1) pairs
      → All (λ p. var held p.0 ≡ var old p.1) pairs
  step_pairs held [] u h = All-nil (λ p. var held p.0 ≡ var old p.1)
  step_pairs held (q ∷ pairs) u h =
      All-cons (λ p. var held p.0 ≡ var old p.1) q pairs
      (All-head (λ p. var held p.0 ≡ var new p.1) q pairs h ∙ same q.1 (All-head (λ pair. IsUnassigned d ty pair.1) q pairs u))
      (step_pairs held pairs (All-tail (λ pair. IsUnassigned d ty pair.1) q pairs u) (All-tail (λ p. var held p.0 ≡ var new p.1) q pairs h))

  held_pairs :
      (step : List ℤ) (pairs : List (ℕ × ℕ)) → All (λ pair. IsUnassigned d ty pair.0) pairs → All (λ p. var new p.0 ≡ var step p.1) pairs
      → All (λ p. var old p.0 ≡ var step p.1) pairs
  held_pairs step [] u h = All-nil (λ p. var old p.0 ≡ var step p.1)
  held_pairs step (q ∷ pairs) u h =
      All-cons (λ p. var old p.0 ≡ var step p.1) q pairs
      (sym (same q.0 (All-head (λ pair. IsUnassigned d ty pair.0) q pairs u)) ∙ All-head (λ p. var new p.0 ≡ var step p.1) q pairs h)
      (held_pairs step pairs (All-tail (λ pair. IsUnassigned d ty pair.0) q pairs u) (All-tail (λ p. var new p.0 ≡ var step p.1) q pairs h))

  step_forbids :
      (held : At) (hl : List ℤ) (p : ℕ) (side : Side) (n : ℕ) → Forbids d held hl (point_at ty p) side new n
      → Forbids d held hl (point_at ty p) side old n
  step_forbids held hl p side n h =
      let i : IsEntryOf d h.entry = well.entries (n - 1) h.entry h.is_entry in
      let u : All (λ pair. IsUnassigned d ty pair.1) h.entry.pairs =
      subst (λ m. All (λ pair. IsUnassigned d m pair.1) h.entry.pairs) (ap (λ a. a.ty) h.step_is) i.step_kept in
      record {
        entry = h.entry;
        first = h.first;
        is_entry = h.is_entry;
        held_is = h.held_is;
        step_is = h.step_is;
        side_is = h.side_is;
        pairs = step_pairs hl h.entry.pairs u h.pairs;
      }

  held_forbids :
      (p : ℕ) (step : At) (sl : List ℤ) (side : Side) (n : ℕ) → Forbids d (point_at ty p) new step side sl n
      → Forbids d (point_at ty p) old step side sl n
  held_forbids p step sl side n h =
      let i : IsEntryOf d h.entry = well.entries (n - 1) h.entry h.is_entry in
      let u : All (λ pair. IsUnassigned d ty pair.0) h.entry.pairs =
      subst (λ m. All (λ pair. IsUnassigned d m pair.0) h.entry.pairs) (ap (λ a. a.ty) h.held_is) i.held_kept in
      record {
        entry = h.entry;
        first = h.first;
        is_entry = h.is_entry;
        held_is = h.held_is;
        step_is = h.step_is;
        side_is = h.side_is;
        pairs = held_pairs sl h.entry.pairs u h.pairs;
      }

  pub compatible_locals :
      (p : ℕ) (b : At) (lb : List ℤ) → AreCompatible d (point_at ty p) old b lb → AreCompatible d (point_at ty p) new b lb
  compatible_locals p b lb h n (inl c) =
      h n
      (inl
      (record {
        step = c.step;
        held = c.held;
        step_reached = c.step_reached;
        held_reached = c.held_reached;
        forbids = step_forbids (point_at b.ty c.held) lb c.step UndoSide n c.forbids;
      }))
  compatible_locals p b lb h n (inr c) =
      h n
      (inr
      (record {
        step = c.step;
        held = c.held;
        step_reached = c.step_reached;
        held_reached = c.held_reached;
        forbids = held_forbids c.held (point_at b.ty c.step) lb UndoSide n c.forbids;
      }))

-- ---- a start is compatible with all

module _ (d : Design) (well : HasRunRules d) where
  start_leads : (ty q : ℕ) → LeadsBack d ty 0 q → ⊥
  start_leads ty q l =
      let e : Undone ≡ ToPoint q = sym (well.starts ty l.step l.is_step l.place l.path l.is_path) ∙ l.target in cc

  start_only : (ty p q : ℕ) → Reaches d ty p q → p ≡ 0 → q ≡ 0
  start_only ty p q here e = e
  start_only ty p q (on {q = m} l r) e = absurd (start_leads ty m (subst (λ z. LeadsBack d ty z m) e l))

  pub compatible_start : (ty : ℕ) (la : List ℤ) (b : At) (lb : List ℤ) → AreCompatible d (point_at ty 0) la b lb
  compatible_start ty la b lb n (inl c) =
      let i : IsEntryOf d c.forbids.entry = well.entries (n - 1) c.forbids.entry c.forbids.is_entry in
      i.step c.forbids.side_is (ap (λ a. a.point) c.forbids.step_is ∙ start_only ty 0 c.step c.step_reached refl)
  compatible_start ty la b lb n (inr c) =
      let i : IsEntryOf d c.forbids.entry = well.entries (n - 1) c.forbids.entry c.forbids.is_entry in
      i.held (ap (λ a. a.point) c.forbids.held_is ∙ start_only ty 0 c.held c.held_reached refl)
