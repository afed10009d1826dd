-- The obligations that a path keeps clauses, from whether it changes their tables and what an entry leaves open.
use Rattle.std.proofs.Common.{◌≡◌, ℕ, Bool, true, false, List, [], ◌∷◌, length, refl, ap, sym, subst, ◌∙◌}
use Rattle.std.specs.Prelude.{Result, Option, Some, None, IsTrue, ◌↔◌, if◌then◌else◌}
use Rattle.std.specs.List.{list_any}
use Rattle.acc_base.specs.declared.forms.Rel.{Rel}
use Rattle.acc_base.specs.declared.forms.Clause.{Clause}
use Rattle.acc_base.specs.declared.designs.Side.{Side}
use Rattle.acc_base.specs.declared.designs.Side.TheVariants.{Next, Undo}
use Rattle.acc_base.specs.declared.designs.Entry.{Entry}
use Rattle.acc_base.specs.declared.designs.Design.{Design}
use Rattle.acc_base.specs.declared.sequents.Origin.{Origin}
use Rattle.acc_base.specs.declared.sequents.Sequent.{Sequent}
use Rattle.acc_base.specs.declared.sequents.Rule.TheVariants.{Always, Spares}
use Rattle.acc_oblig.specs.Settings.{Setting, last_now}
use Rattle.acc_oblig.specs.Drafts.{Draft, of_some, path_drafts, path_origin, setting_of}
use Rattle.acc_oblig.specs.PathPromises.{clause_names, always_at}
use Rattle.acc_oblig.specs.Spares.{entry_for, judged_var, pairs_differ, spare_drafts, by_entry, spare_at}
use Rattle.acc_oblig_goals.specs.declared.errors.ObligError.{ObligError}
use Rattle.acc_oblig_goals.specs.Causes.{Adds}
use Rattle.acc_oblig_places.specs.DesignPlaces.{PointPlace, PathPlace, at_path_place}
use Rattle.acc_oblig_paths.specs.Openings.{judged_among, open_by}

-- the setting of a path
abbrev pub setting_at : Design → PathPlace → Setting
setting_at d q = setting_of d q.x q.p q.step q.w.path q.path

module _ (r : Result (Unit {0}) ObligError) (old new : List Sequent) (d : Design) (q : PathPlace) (k : ℕ) (c : Clause) (b : Bool) where
  pub always_added :
      b ≡ clause_names q.path.actions c → Adds r old new (if b then path_drafts Always (setting_at d q) k q.w [] c else [])
      → Adds r old new (at_path_place (always_at d k c) q)
  always_added e a = subst (λ t. Adds r old new (if t then path_drafts Always (setting_at d q) k q.w [] c else [])) e a

pub judged_is : (s : Setting) (last : List ℕ) (side : Side) (y : ℕ) → last ≡ last_now s → judged_among last side y ≡ judged_var s side y
judged_is s last Next y e = ap (λ (ys : List ℕ). judged_among ys Next y) e
judged_is s last Undo y e = refl

pub some_pairs : (xs : List (ℕ × ℕ)) (b : Bool) → b ≡ false → (IsTrue b ↔ (xs ≡ [])) → list_any (λ (p : ℕ × ℕ). true) xs ≡ true
some_pairs [] b e h = let t : b ≡ true = h.1 refl in cc
some_pairs (x ∷ xs) b e h = refl

by_entry_is :
    (origin : ℕ → Origin) (s : Setting) (side : Side) (clauses : List Clause) (held : ℕ) (c : Clause) (o : Option Entry)
    → of_some (λ (pairs : List Rel). spare_drafts origin s clauses held pairs c) (open_by s side o)
    ≡ by_entry origin s side clauses held c o
by_entry_is origin s side clauses held c None = refl
by_entry_is origin s side clauses held c (Some e) = by (list_any (λ p. true) e.pairs)
  where
    by :
        (b : Bool)
        → of_some (λ (pairs : List Rel). spare_drafts origin s clauses held pairs c)
        (if b then Some (pairs_differ s side e.pairs ∷ []) else None)
        ≡ (if b then spare_drafts origin s clauses held (pairs_differ s side e.pairs ∷ []) c else [])
    by true = refl
    by false = refl

module _ (r : Result (Unit {0}) ObligError) (old new : List Sequent) (d : Design) (held : PointPlace) (q : PathPlace) (k : ℕ)
    (c : Clause) where
  -- the obligations of what is left open
  abbrev pub opened : Option (List Rel) → List Draft
  opened o =
      of_some (λ (pairs : List Rel). spare_drafts (path_origin Spares (Some held.at) k q.w) (setting_at d q) held.p.clauses
      (length held.x.locals) pairs c) o

  pub spare_skipped : clause_names q.path.actions c ≡ false → Adds r old new [] →
      Adds r old new (at_path_place (spare_at d held.at held.x held.p k c) q)
  spare_skipped e a =
      let entry = entry_for d.entries held.at q.w.at q.w.side in
      let s = setting_at d q in
      subst (λ b. Adds r old new (if b then by_entry (path_origin Spares (Some held.at) k q.w) s q.w.side held.p.clauses
      (length held.x.locals) c entry else [])) (sym e) a

  pub spare_opened :
      (o : Option (List Rel)) → clause_names q.path.actions c ≡ true
      → o ≡ open_by (setting_at d q) q.w.side (entry_for d.entries held.at q.w.at q.w.side) → Adds r old new (opened o)
      → Adds r old new (at_path_place (spare_at d held.at held.x held.p k c) q)
  spare_opened o e f a =
      let entry = entry_for d.entries held.at q.w.at q.w.side in
      let s = setting_at d q in
      let by : opened o ≡ by_entry (path_origin Spares (Some held.at) k q.w) s q.w.side held.p.clauses (length held.x.locals) c entry =
      ap opened f ∙ by_entry_is (path_origin Spares (Some held.at) k q.w) s q.w.side held.p.clauses (length held.x.locals) c entry in
      subst (λ b. Adds r old new (if b then by_entry (path_origin Spares (Some held.at) k q.w) s q.w.side held.p.clauses
      (length held.x.locals) c entry else [])) (sym e) (subst (Adds r old new) by a)
