-- Who blocks a step can be told: each of the definitions that tell it has an answer.
use Rattle.std.proofs.Common.{◌≡◌, ◌⊎◌, ◌<◌, inl, inr, ℕ, zero, suc, List, [], ◌∷◌, Option, Some, None, refl, sym, subst, ◌∙◌, arith, ℤ}
use Rattle.std.specs.Prelude.{◌≢◌, slice_get}
use Rattle.std.proofs.lemmas.Option.{none-some, same_Some}
use Rattle.std.proofs.lemmas.List.Elements.{All-head, All-tail}
use Rattle.acc_base.specs.declared.steps.Target.{Target}
use Rattle.acc_base.specs.declared.steps.Target.TheVariants.{Point as ToPoint, Commit, Undone, Refuse}
use Rattle.acc_base.specs.declared.designs.At.{At}
use Rattle.acc_base.specs.declared.designs.Design.{Design}
use Rattle.acc_base.specs.declared.designs.Side.{Side}
use Rattle.acc_base.specs.declared.designs.Side.TheVariants.{Next}
use Rattle.acc_base.specs.declared.machines.Cause.{Cause}
use Rattle.acc_base.specs.declared.machines.Frame.{Frame}
use Rattle.acc_base.specs.Effects.{first_from, effect_of}
use Rattle.acc_base.specs.Entries.{Forbids}
use Rattle.acc_base.specs.Locks.{point_at, ClashesEither}
use Rattle.acc_base.specs.Machine.{World, unfinished, stop_of}
use Rattle.acc_formed.specs.WellFormed.{IsWellFormed}
use Rattle.acc_lift.proofs.Becoming.{number_cases}
use Rattle.acc_step.specs.declared.looks.Outlook.{Outlook}
use Rattle.acc_step.specs.declared.looks.Outlook.TheVariants.{Range, Refused, Goes as Leads}
use Rattle.acc_step.specs.Outlooks.{outlook_of}
use Rattle.acc_table.specs.Entries.{entry_forbids, either_clashes, IsPointOf, TellsLowest}
use Rattle.acc_table.proofs.Formed.{leads_within, point_within}
use Rattle.acc_table.proofs.Telling.{tells, forbids_to, forbids_from, either_to, either_from}
use Rattle.acc_machine.specs.Blocked.{lower, ClashesAt, Blocks, LeadsTo, LooksTo, LetsPass, TellsBlocker, AreAtPoints}
use Rattle.acc_machine.specs.HeldUp.{locals_of, TellsHeldUp}
use Rattle.acc_machine.specs.Holders.{TellsHolder}
use Rattle.acc_machine.specs.Kept.{IsKept}
use Rattle.acc_machine.proofs.Lowers.{lower_tells}
use Rattle.acc_machine.proofs.Standing.{at_points, tells_holder}
use Rattle.acc_machine.proofs.Stops.{looks_to}
use Rattle.acc_lock_rules.proofs.Closures.{closure}

-- ---- the lowest entry

-- the lowest number of which P holds, or word that there is none
abbrev HasLowest : (ℕ → Type 0) → Type 0
HasLowest P = (found : Option ℕ) × TellsLowest P found

module _ (d : Design) (form : IsWellFormed d) where
  forbidding : (held : At) (held_locals : List ℤ) (step : At) (side : Side) (locals : List ℤ)
      → HasLowest (Forbids d held held_locals step side locals)
  forbidding held held_locals step side locals =
      let test = entry_forbids held held_locals step side locals in (
        first_from test 1 d.entries,
        tells (Forbids d held held_locals step side locals) d.entries test (forbids_to d held held_locals step side locals)
            (forbids_from d held held_locals step side locals) (first_from test 1 d.entries) refl,
      )

  clashing : (a : At) (a_locals : List ℤ) (b : At) (b_locals : List ℤ) → IsPointOf d a.ty a.point → IsPointOf d b.ty b.point
      → HasLowest (ClashesEither d a a_locals b b_locals)
  clashing a a_locals b b_locals at bt =
      let p = closure d a.ty a.point (leads_within d form a.ty) (point_within d form a.ty a.point at) in
      let q = closure d b.ty b.point (leads_within d form b.ty) (point_within d form b.ty b.point bt) in
      let test = either_clashes a.ty p.0 a_locals b.ty q.0 b_locals in (
        first_from test 1 d.entries,
        tells (ClashesEither d a a_locals b b_locals) d.entries test (either_to d a p.0 a_locals b q.0 b_locals p.1 q.1)
            (either_from d a p.0 a_locals b q.0 b_locals p.1 q.1) (first_from test 1 d.entries) refl,
      )

  clashing_at : (f : Frame) (locals : List ℤ) (h : Frame) (to : Target) → IsPointOf d h.ty h.point → LeadsTo d f.ty to
      → HasLowest (λ n. ClashesAt d f locals h n to)
  clashing_at f locals h (ToPoint p) at leads = clashing (point_at f.ty p) locals (point_at h.ty h.point) h.locals leads at
  clashing_at f locals h Commit at leads = (None, λ n c. c)
  clashing_at f locals h Undone at leads = (None, λ n c. c)
  clashing_at f locals h (Refuse m) at leads = (None, λ n c. c)

  blocking : (f : Frame) (locals : List ℤ) (h : Frame) (outlook : Outlook) → IsPointOf d h.ty h.point → LooksTo d f.ty outlook
      → HasLowest (Blocks d f locals h outlook)
  blocking f locals h Range at leads = (None, λ n b. b)
  blocking f locals h (Refused m) at leads = forbidding (point_at h.ty h.point) h.locals (point_at f.ty f.point) Next locals
  blocking f locals h (Leads to) at leads =
      let a = forbidding (point_at h.ty h.point) h.locals (point_at f.ty f.point) Next locals in
      let b = clashing_at f locals h to at leads in (
        lower a.0 b.0,
        lower_tells (Forbids d (point_at h.ty h.point) h.locals (point_at f.ty f.point) Next locals) (λ n. ClashesAt d f locals h n to)
            a.0 b.0 a.1 b.1,
      )

-- ---- the first of the frames

module _ (d : Design) (form : IsWellFormed d) (f : Frame) (locals : List ℤ) (outlook : Outlook) (leads : LooksTo d f.ty outlook) where
  -- another frame that blocks it, and its lowest entry
  record BlocksIt (h : Frame) : Type 0 where
    n : ℕ
    other : h.t ≢ f.t
    blocks : Blocks d f locals h outlook n
    lowest : (m : ℕ) → m < n → ¬ Blocks d f locals h outlook m

  one_blocks : (h : Frame) → IsPointOf d h.ty h.point → LetsPass d f locals outlook h ⊎ BlocksIt h
  one_blocks h at =
      let b = blocking d form f locals h outlook at leads in
      by (number_cases h.t f.t) b.0 b.1
    where
      by : (h.t ≡ f.t) ⊎ (h.t ≢ f.t) → (o : Option ℕ) → TellsLowest (Blocks d f locals h outlook) o
          → LetsPass d f locals outlook h ⊎ BlocksIt h
      by (inl same) o told = inl (λ other n. absurd (other same))
      by (inr other) None told = inl (λ k. told)
      by (inr other) (Some n) told = inr (record { n = n; other = other; blocks = told.0; lowest = told.1 })

  abbrev Told : List Frame → Type 0
  Told frames = (found : Option (ℕ × ℕ)) × TellsBlocker d frames f locals outlook found

  -- the first of them, or the first of the others
  first_told : (h : Frame) (frames : List Frame) → LetsPass d f locals outlook h ⊎ BlocksIt h → (o : Option (ℕ × ℕ))
      → TellsBlocker d frames f locals outlook o → Told (h ∷ frames)
  first_told h frames (inr b) o rest = (
    Some (h.t, b.n),
    record {
      place = 0;
      holder = h;
      is_holder = refl;
      number = refl;
      other = b.other;
      blocks = b.blocks;
      lowest = b.lowest;
      before = λ j g less at. absurd (omega (arith, less));
    },
  )
  first_told h frames (inl lets) None rest = (None, all)
    where
      all : (j : ℕ) (g : Frame) → slice_get (h ∷ frames) j ≡ Some g → LetsPass d f locals outlook g
      all zero g at = subst (LetsPass d f locals outlook) (same_Some h g at) lets
      all (suc j) g at = rest j g at
  first_told h frames (inl lets) (Some x) rest = (
    Some x,
    record {
      place = suc rest.place;
      holder = rest.holder;
      is_holder = rest.is_holder;
      number = rest.number;
      other = rest.other;
      blocks = rest.blocks;
      lowest = rest.lowest;
      before = before;
    },
  )
    where
      before : (j : ℕ) (g : Frame) → j < suc rest.place → slice_get (h ∷ frames) j ≡ Some g → LetsPass d f locals outlook g
      before zero g less at = subst (LetsPass d f locals outlook) (same_Some h g at) lets
      before (suc j) g less at = rest.before j g (omega (arith, less)) at

  blocker : (frames : List Frame) → AreAtPoints d frames → Told frames
  blocker [] at = (None, λ j g here. absurd (none-some g here))
  blocker (h ∷ frames) at =
      let rest = blocker frames (All-tail (λ (g : Frame). IsPointOf d g.ty g.point) h frames at) in
      first_told h frames (one_blocks h (All-head (λ (g : Frame). IsPointOf d g.ty g.point) h frames at)) rest.0 rest.1

-- ---- the holder

module _ (d : Design) (w : World) (kept : IsKept d w) (f : Frame) where
  held_up : (o : Option (ℕ × ℕ)) → stop_of d w.rows f ≡ None
      → TellsBlocker d (unfinished w) f (locals_of (effect_of d w.rows f Next)) (outlook_of (effect_of d w.rows f Next)) o
      → TellsHeldUp d w.rows (unfinished w) f o
  held_up None free told = λ stop. told
  held_up (Some x) free told = (free, told)

  -- who blocks its step, if nothing stops it
  pub holder : (found : Option (ℕ × ℕ)) × TellsHolder d w f found
  holder =
      let form = kept.accepted.formed in
      let b = blocker d form f (locals_of (effect_of d w.rows f Next)) (outlook_of (effect_of d w.rows f Next))
      (looks_to d w.rows f form (outlook_of (effect_of d w.rows f Next)) refl) (unfinished w) (at_points d w kept) in
      by (stop_of d w.rows f) refl b.0 b.1
    where
      by : (o : Option Cause) → stop_of d w.rows f ≡ o → (b : Option (ℕ × ℕ))
          → TellsBlocker d (unfinished w) f (locals_of (effect_of d w.rows f Next)) (outlook_of (effect_of d w.rows f Next)) b
          → (found : Option (ℕ × ℕ)) × TellsHolder d w f found
      by None free b told = (b, tells_holder d w kept f b (held_up b free told))
      by (Some c) stop b told = (None, λ free. absurd (none-some c (sym free ∙ stop)))
