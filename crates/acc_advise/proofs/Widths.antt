-- The numbers of obligations that a step spares a held point don't depend on the pairs of an entry.
use Rattle.std.proofs.Common.{◌≡◌, ℕ, ◌+◌, Bool, true, false, List, [], ◌∷◌, ◌++◌, length, map, Option, Some, None, refl, sym, ap, ap₂, ◌∙◌}
use Rattle.std.specs.Prelude.{◌≢◌, if◌then◌else◌}
use Rattle.std.specs.List.{list_any}
use Rattle.acc_base.specs.declared.forms.Form.{Form}
use Rattle.acc_base.specs.declared.forms.Rel.{Rel}
use Rattle.acc_base.specs.declared.forms.Clause.{Clause}
use Rattle.acc_base.specs.declared.steps.Path.{Path}
use Rattle.acc_base.specs.declared.designs.Side.{Side}
use Rattle.acc_base.specs.declared.designs.Entry.{Entry}
use Rattle.acc_base.specs.declared.designs.Point.{Point}
use Rattle.acc_base.specs.declared.designs.TxType.{TxType}
use Rattle.acc_base.specs.declared.designs.Design.{Design}
use Rattle.acc_base.specs.declared.sequents.Origin.{Origin}
use Rattle.acc_base.specs.declared.sequents.Rule.TheVariants.{Spares}
use Rattle.acc_base.specs.Effects.{step_at}
use Rattle.acc_preconditions.specs.Preconditions.{wp_of}
use Rattle.acc_oblig.specs.Naming.{own_naming, own_clauses, named_rel}
use Rattle.acc_oblig.specs.Relations.{is_less}
use Rattle.acc_oblig.specs.Settings.{Setting, step_vars, frame_bounds, step_bounds, step_rels, step_hyps, path_actions}
use Rattle.acc_oblig.specs.Drafts.{Draft, is_clause_wide, each_from, goals_of, path_origin, setting_of}
use Rattle.acc_oblig.specs.PathPromises.{clause_names}
use Rattle.acc_oblig.specs.Spares.{ordered_drafts, held_names, spare_drafts, pairs_differ, by_entry}
use Rattle.acc_oblig_goals.specs.Causes.{first_wide}
use Rattle.acc_advise.specs.declared.advice.Question.{Question}
use Rattle.acc_advise.specs.TriedDesigns.{keyed, free_drafts, keyed_drafts}
use Rattle.acc_advise.proofs.Entering.{all_points, spares_by, finds_own, keyed_is, free_is}

-- ---- lists

abbrev or_wide : Option Origin → Option Origin → Option Origin
or_wide None o = o
or_wide (Some o) p = Some o

wide_of_both : (xs ys : List Draft) → first_wide (xs ++ ys) ≡ or_wide (first_wide xs) (first_wide ys)
wide_of_both [] ys = refl
wide_of_both (x ∷ xs) ys = by x.wide (wide_of_both xs ys)
  where
    by :
        (b : Bool) → first_wide (xs ++ ys) ≡ or_wide (first_wide xs) (first_wide ys)
        → (if b then Some x.sequent.origin else first_wide (xs ++ ys))
        ≡ or_wide (if b then Some x.sequent.origin else first_wide xs) (first_wide ys)
    by true ih = refl
    by false ih = ih

wide_of_each :
    {T : Type 0} (f g : ℕ → T → List Draft) → ((i : ℕ) (x : T) → first_wide (f i x) ≡ first_wide (g i x)) → (i : ℕ) (xs : List T)
    → first_wide (each_from i f xs) ≡ first_wide (each_from i g xs)
wide_of_each f g h i [] = refl
wide_of_each f g h i (x ∷ xs) =
    wide_of_both (f i x) (each_from (i + 1) f xs)
    ∙ (ap₂ or_wide (h i x) (wide_of_each f g h (i + 1) xs) ∙ sym (wide_of_both (g i x) (each_from (i + 1) g xs)))

wide_of_if :
    (b : Bool) (xs ys : List Draft) → first_wide xs ≡ first_wide ys → first_wide (if b then xs else []) ≡ first_wide (if b then ys else [])
wide_of_if true xs ys h = h
wide_of_if false xs ys h = refl

-- ---- one clause and path

wide_of_ordered :
    (origin : ℕ → Origin) (vars : ℕ) (hyps : List Clause) (first : List Rel) (lower higher : Rel) (rest other : List Rel) (wide : Bool)
    (case : ℕ) (gs : List Form)
    → first_wide (ordered_drafts origin vars hyps first lower higher rest wide case gs)
    ≡ first_wide (ordered_drafts origin vars hyps first lower higher other wide case gs)
wide_of_ordered origin vars hyps first lower higher rest other wide case [] = refl
wide_of_ordered origin vars hyps first lower higher rest other wide case (g ∷ gs) =
    ap (λ (o : Option Origin). if wide then Some (origin case) else if wide then Some (origin (case + 1)) else o)
    (wide_of_ordered origin vars hyps first lower higher rest other wide (case + 2) gs)

module _ (origin : ℕ → Origin) (s : Setting) (clauses : List Clause) (held : ℕ) (c : Clause) where
  wide_of_spares :
      (rels : List Rel) → first_wide (spare_drafts origin s clauses held rels c) ≡ first_wide (spare_drafts origin s clauses held [] c)
  wide_of_spares rels =
      let vars = step_vars s + (held + 1) + length c.vars in
      let n = own_naming (held_names s held) (step_vars s + (held + 1)) (length c.vars) in
      let actions = path_actions s vars in
      let guards = map (named_rel n) c.guards in
      let r = named_rel n c.rel in
      let bounds = step_bounds s (length s.reads) ++ frame_bounds (step_vars s) held (step_vars s + held) in
      wide_of_ordered origin vars (step_hyps s vars ++ own_clauses (held_names s held) vars clauses) (bounds ++ step_rels s vars)
      (is_less (step_vars s + held) s.locals) (is_less s.locals (step_vars s + held)) (rels ++ map (wp_of actions) guards)
      (map (wp_of actions) guards) (is_clause_wide actions guards r) 1 (goals_of (wp_of actions r))

  wide_of_entry :
      (side : Side) (e : Entry) → list_any (λ p. true) e.pairs ≡ true
      → first_wide (by_entry origin s side clauses held c (Some e)) ≡ first_wide (by_entry origin s side clauses held c None)
  wide_of_entry side e some =
      ap (λ b. first_wide (if b then spare_drafts origin s clauses held (pairs_differ s side e.pairs ∷ []) c else [])) some
      ∙ wide_of_spares (pairs_differ s side e.pairs ∷ [])

-- ---- all

module _ (d : Design) (q : Question) where
  wide_of_points :
      (e : Entry) → list_any (λ p. true) e.pairs ≡ true → (x : TxType) (p : Point) (y : TxType) (r : Point)
      → first_wide (spares_by d q x p y r (Some e)) ≡ first_wide (spares_by d q x p y r None)
  wide_of_points e some x p y r =
      let cell : Option Entry → ℕ → Clause → ℕ → Path → List Draft =
      λ o k c j path. if clause_names path.actions c
      then by_entry (path_origin Spares (Some q.held) k (record { at = q.step; side = q.side; path = j }))
      (setting_of d y r (step_at q.side r) j path) q.side p.clauses (length x.locals) c o
      else [] in
      wide_of_each (λ k c. each_from 0 (cell (Some e) k c) (step_at q.side r).paths)
      (λ k c. each_from 0 (cell None k c) (step_at q.side r).paths)
      (λ k c. wide_of_each (cell (Some e) k c) (cell None k c)
      (λ j path. wide_of_if (clause_names path.actions c)
      (by_entry (path_origin Spares (Some q.held) k (record { at = q.step; side = q.side; path = j }))
      (setting_of d y r (step_at q.side r) j path) q.side p.clauses (length x.locals) c (Some e))
      (by_entry (path_origin Spares (Some q.held) k (record { at = q.step; side = q.side; path = j }))
      (setting_of d y r (step_at q.side r) j path) q.side p.clauses (length x.locals) c None)
      (wide_of_entry (path_origin Spares (Some q.held) k (record { at = q.step; side = q.side; path = j }))
      (setting_of d y r (step_at q.side r) j path) p.clauses (length x.locals) c q.side e some)) 0 (step_at q.side r).paths) 0 p.clauses

  -- with an entry that has pairs the first number that is too large is that without one
  wide_is :
      (pairs : List (ℕ × ℕ)) → list_any (λ p. true) pairs ≡ true → first_wide (keyed_drafts d q pairs) ≡ first_wide (free_drafts d q)
  wide_is pairs some =
      let e = keyed q pairs in
      ap first_wide (sym (keyed_is d q pairs))
      ∙ (all_points d q (λ xs ys. first_wide xs ≡ first_wide ys) refl (e ∷ []) []
      (λ x p y r. ap (λ o. first_wide (spares_by d q x p y r o)) (finds_own e []) ∙ wide_of_points e some x p y r)
      ∙ ap first_wide (free_is d q))

pub wide_with_some :
    (d : Design) (q : Question) (pairs : List (ℕ × ℕ)) → pairs ≢ [] → first_wide (keyed_drafts d q pairs) ≡ first_wide (free_drafts d q)
wide_with_some d q [] some = absurd (some refl)
wide_with_some d q (x ∷ xs) some = wide_is d q (x ∷ xs) refl
