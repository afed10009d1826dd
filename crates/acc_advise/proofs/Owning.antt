-- The obligations that are tried are those of the design that come from the step of a question, as ones that spare its held point.
use Rattle.std.proofs.Common.{◌≡◌, ℕ, zero, suc, ◌+◌, Bool, true, false, List, [], ◌∷◌, ◌++◌, length, map, Option, Some, None, refl, sym, ap, subst, ◌∙◌, arith}
use Rattle.std.specs.Prelude.{slice_get, option_map, option_and_then, if◌then◌else◌}
use Rattle.std.specs.List.{AllByRecursion, Contains, list_any}
use Rattle.std.proofs.lemmas.List.Elements.{All-contains_itself, recursion_from_All}
use Rattle.std.proofs.lemmas.Option.{same_Some}
use Rattle.acc_base.specs.declared.forms.Form.{Form}
use Rattle.acc_base.specs.declared.forms.Rel.{Rel}
use Rattle.acc_base.specs.declared.forms.Clause.{Clause}
use Rattle.acc_base.specs.declared.steps.Path.{Path}
use Rattle.acc_base.specs.declared.steps.Step.{Step}
use Rattle.acc_base.specs.declared.designs.At.{At}
use Rattle.acc_base.specs.declared.designs.Side.{Side}
use Rattle.acc_base.specs.declared.designs.Side.TheVariants.{Next, Undo}
use Rattle.acc_base.specs.declared.designs.Entry.{Entry}
use Rattle.acc_base.specs.declared.designs.Point.{Point}
use Rattle.acc_base.specs.declared.designs.TxType.{TxType}
use Rattle.acc_base.specs.declared.designs.Design.{Design}
use Rattle.acc_base.specs.declared.sequents.Rule.TheVariants.{Spares}
use Rattle.acc_base.specs.Effects.{step_at}
use Rattle.acc_preconditions.proofs.Alls.{all-append}
use Rattle.acc_preconditions.specs.Preconditions.{wp_of}
use Rattle.acc_oblig.specs.Naming.{own_naming, own_clauses, named_rel}
use Rattle.acc_oblig.specs.Relations.{is_less}
use Rattle.acc_oblig.specs.Settings.{Setting, step_vars, frame_bounds, step_bounds, step_rels, step_hyps, path_actions}
use Rattle.acc_oblig.specs.Drafts.{Draft, Place, is_clause_wide, goals_of, each_from, each, each_path, step_paths, point_paths, of_some, path_origin, setting_of}
use Rattle.acc_oblig.specs.PathPromises.{clause_names}
use Rattle.acc_oblig.specs.Spares.{entry_for, held_names, ordered_drafts, spare_drafts, by_entry, pairs_differ, spare_at, held_drafts, all_spare_drafts}
use Rattle.acc_oblig.proofs.Listed.{each_at, path_at}
use Rattle.acc_oblig_places.specs.DesignPlaces.{PointPlace}
use Rattle.acc_advise.specs.declared.advice.Question.{Question}
use Rattle.acc_advise.specs.TriedDesigns.{point_in, point_place_at, clause_spares, spares_of, spares_in}
use Rattle.acc_advise.specs.Laws.{IsAsked}
use Rattle.acc_advise.proofs.StepSpares.{path_spares}

abbrev place : At → TxType → Point → PointPlace
place at x p = record { at = at; x = x; p = p }

-- ---- walks: what holds of all that is made of each item holds of all that is made

module _ {U : Type 0} (P : U → Type 0) where
  all_each_from :
      {T : Type 0} (make : ℕ → T → List U) (i : ℕ) (xs : List T)
      → ((k : ℕ) (x : T) → slice_get xs k ≡ Some x → AllByRecursion P (make (i + k) x)) → AllByRecursion P (each_from i make xs)
  all_each_from make i [] h = tt
  all_each_from make i (x ∷ xs) h =
      let e : i + zero ≡ i = omega arith in
      all-append P (make i x) (each_from (i + 1) make xs) (subst (λ n. AllByRecursion P (make n x)) e (h zero x refl))
      (all_each_from make (i + 1) xs (λ k y g. let f : i + suc k ≡ i + 1 + k = omega arith in
      subst (λ n. AllByRecursion P (make n y)) f (h (suc k) y g)))

  pub all_each :
      {T : Type 0} (make : ℕ → T → List U) (xs : List T)
      → ((k : ℕ) (x : T) → slice_get xs k ≡ Some x → AllByRecursion P (make k x)) → AllByRecursion P (each make xs)
  all_each make xs h =
      all_each_from make 0 xs (λ k x g. let e : k ≡ 0 + k = omega arith in subst (λ n. AllByRecursion P (make n x)) e (h k x g))

  pub all_paths :
      (d : Design) (make : Place → TxType → Point → Step → Path → List U)
      → ((w : Place) (x : TxType) (p : Point) (path : Path) → slice_get d.types w.at.ty ≡ Some x → slice_get x.points w.at.point ≡ Some p
      → slice_get (step_at w.side p).paths w.path ≡ Some path → AllByRecursion P (make w x p (step_at w.side p) path))
      → AllByRecursion P (each_path d make)
  all_paths d make h =
      all_each (λ ty x. each (λ i p. point_paths make ty x i p) x.points) d.types (λ ty x a.
      all_each (λ i p. point_paths make ty x i p) x.points (λ i p b. whole ty x a i p b))
    where
      of_side :
          (ty : ℕ) (x : TxType) → slice_get d.types ty ≡ Some x → (i : ℕ) (p : Point) → slice_get x.points i ≡ Some p → (side : Side)
          → AllByRecursion P (step_paths make (record { ty = ty; point = i }) side x p (step_at side p))
      of_side ty x a i p b side =
          all_each (λ j path. make (record { at = record { ty = ty; point = i }; side = side; path = j }) x p (step_at side p) path)
          (step_at side p).paths (λ j path g. h (record { at = record { ty = ty; point = i }; side = side; path = j }) x p path a b g)

      whole :
          (ty : ℕ) (x : TxType) → slice_get d.types ty ≡ Some x → (i : ℕ) (p : Point) → slice_get x.points i ≡ Some p
          → AllByRecursion P (point_paths make ty x i p)
      whole ty x a i p b =
          all-append P (step_paths make (record { ty = ty; point = i }) Next x p (step_at Next p))
          (step_paths make (record { ty = ty; point = i }) Undo x p (step_at Undo p)) (of_side ty x a i p b Next) (of_side ty x a i p b Undo)

  pub all_if : (b : Bool) (xs : List U) → AllByRecursion P xs → AllByRecursion P (if b then xs else [])
  all_if true xs h = h
  all_if false xs h = tt

module _ (P : Draft → Type 0) (d : Design) where
  -- of a point that may be there
  of_place :
      (at : At) (make : PointPlace → List Draft)
      → ((x : TxType) (p : Point) → slice_get d.types at.ty ≡ Some x → slice_get x.points at.point ≡ Some p
      → AllByRecursion P (make (record { at = at; x = x; p = p }))) → AllByRecursion P (of_some make (point_place_at d at))
  of_place at make h = by (slice_get d.types at.ty) refl
    where
      by_point :
          (x : TxType) → slice_get d.types at.ty ≡ Some x → (o : Option Point) → slice_get x.points at.point ≡ o
          → AllByRecursion P (of_some make (option_map (λ (p : Point). record { at = at; x = x; p = p }) o))
      by_point x a None b = tt
      by_point x a (Some p) b = h x p a b

      by : (o : Option TxType) → slice_get d.types at.ty ≡ o → AllByRecursion P (of_some make (option_and_then (point_in at) o))
      by None a = tt
      by (Some x) a = by_point x a (slice_get x.points at.point) refl

  -- of all that a step spares a held point
  all_spares :
      (q : Question)
      → ((x : TxType) (p : Point) (k : ℕ) (c : Clause) (y : TxType) (r : Point) (j : ℕ) (path : Path)
      → slice_get d.types q.held.ty ≡ Some x → slice_get x.points q.held.point ≡ Some p → slice_get p.clauses k ≡ Some c
      → slice_get d.types q.step.ty ≡ Some y → slice_get y.points q.step.point ≡ Some r → slice_get (step_at q.side r).paths j ≡ Some path
      → AllByRecursion P (path_spares d q.side (place q.held x p) (place q.step y r) (step_at q.side r) k c j path))
      → AllByRecursion P (spares_in d q)
  all_spares q h =
      of_place q.held (λ (z : PointPlace). of_some (λ (s : PointPlace). spares_of d q.side z s (step_at q.side s.p)) (point_place_at d q.step))
      (λ x p a b. of_place q.step (λ (s : PointPlace). spares_of d q.side (place q.held x p) s (step_at q.side s.p))
      (λ y r e f. all_each P (clause_spares d q.side (place q.held x p) (place q.step y r) (step_at q.side r)) p.clauses
      (λ k c g. all_each P (path_spares d q.side (place q.held x p) (place q.step y r) (step_at q.side r) k c) (step_at q.side r).paths
      (λ j path m. h x p k c y r j path a b g e f m))))

-- ---- from all of the design to those that are tried

place_is : (d : Design) (at : At) (x : TxType) (p : Point) → slice_get d.types at.ty ≡ Some x → slice_get x.points at.point ≡ Some p
    → point_place_at d at ≡ Some (place at x p)
place_is d at x p a b =
    ap (λ (o : Option TxType). option_and_then (point_in at) o) a ∙ ap (λ (o : Option Point). option_map (λ (r : Point). place at x r) o) b

module _ (P : Draft → Type 0) (d : Design) (q : Question) where
  pub tried_of_all : AllByRecursion P (all_spare_drafts d) → AllByRecursion P (spares_in d q)
  tried_of_all h =
      all_spares P d q (λ x p k c y r j path a b g e f m.
      path_at P d (spare_at d q.held x p k c)
      (each_at P (λ n z. each_path d (spare_at d q.held x p n z)) p.clauses k c
      (each_at P (held_drafts d q.held.ty x) x.points q.held.point p
      (each_at P (λ ty z. each (held_drafts d ty z) z.points) d.types q.held.ty x h a) b) g)
      q.step.ty q.step.point y r q.side j path e f m)

  -- those of one clause and path
  one_of_tried :
      (x : TxType) (p : Point) (k : ℕ) (c : Clause) (y : TxType) (r : Point) (j : ℕ) (path : Path)
      → slice_get d.types q.held.ty ≡ Some x → slice_get x.points q.held.point ≡ Some p → slice_get p.clauses k ≡ Some c
      → slice_get d.types q.step.ty ≡ Some y → slice_get y.points q.step.point ≡ Some r → slice_get (step_at q.side r).paths j ≡ Some path
      → AllByRecursion P (spares_in d q)
      → AllByRecursion P (path_spares d q.side (place q.held x p) (place q.step y r) (step_at q.side r) k c j path)
  one_of_tried x p k c y r j path a b g e f m h =
      let held : PointPlace = place q.held x p in
      let step : PointPlace = place q.step y r in
      let is : spares_in d q ≡ spares_of d q.side held step (step_at q.side r) =
      ap (λ (o : Option PointPlace). of_some (λ (z : PointPlace). of_some (λ (s : PointPlace). spares_of d q.side z s (step_at q.side s.p))
      (point_place_at d q.step)) o) (place_is d q.held x p a b)
      ∙ ap (λ (o : Option PointPlace). of_some (λ (s : PointPlace). spares_of d q.side held s (step_at q.side s.p)) o)
      (place_is d q.step y r e f) in
      each_at P (path_spares d q.side held step (step_at q.side r) k c) (step_at q.side r).paths j path
      (each_at P (clause_spares d q.side held step (step_at q.side r)) p.clauses k c (subst (AllByRecursion P) is h) g) m

-- ---- where they come from

abbrev pub FromIt : Question → Draft → Type 0
FromIt q x = IsAsked q x.sequent.origin

-- the question of a held point and a path
abbrev pub of_path : At → Place → Question
of_path held w = record { held = held; step = w.at; side = w.side }

module _ (held : At) (k : ℕ) (w : Place) where
  ordered_from :
      (vars : ℕ) (hyps : List Clause) (first : List Rel) (lower higher : Rel) (rest : List Rel) (wide : Bool) (case : ℕ) (gs : List Form)
      → AllByRecursion (FromIt (of_path held w))
      (ordered_drafts (path_origin Spares (Some held) k w) vars hyps first lower higher rest wide case gs)
  ordered_from vars hyps first lower higher rest wide case [] = tt
  ordered_from vars hyps first lower higher rest wide case (g ∷ gs) =
      ((refl, refl, refl, refl), ((refl, refl, refl, refl), ordered_from vars hyps first lower higher rest wide (case + 2) gs))

  module _ (s : Setting) (clauses : List Clause) (n : ℕ) (c : Clause) where
    drafts_from : (rels : List Rel) → AllByRecursion (FromIt (of_path held w)) (spare_drafts (path_origin Spares (Some held) k w) s clauses n rels c)
    drafts_from rels =
        let vars = step_vars s + (n + 1) + length c.vars in
        let names = own_naming (held_names s n) (step_vars s + (n + 1)) (length c.vars) in
        let actions = path_actions s vars in
        let guards = map (named_rel names) c.guards in
        let r = named_rel names c.rel in
        let bounds = step_bounds s (length s.reads) ++ frame_bounds (step_vars s) n (step_vars s + n) in
        ordered_from vars (step_hyps s vars ++ own_clauses (held_names s n) vars clauses) (bounds ++ step_rels s vars)
        (is_less (step_vars s + n) s.locals) (is_less s.locals (step_vars s + n)) (rels ++ map (wp_of actions) guards)
        (is_clause_wide actions guards r) 1 (goals_of (wp_of actions r))

    entry_from :
        (o : Option Entry)
        → AllByRecursion (FromIt (of_path held w)) (by_entry (path_origin Spares (Some held) k w) s w.side clauses n c o)
    entry_from None = drafts_from []
    entry_from (Some e) =
        all_if (FromIt (of_path held w)) (list_any (λ p. true) e.pairs)
        (spare_drafts (path_origin Spares (Some held) k w) s clauses n (pairs_differ s w.side e.pairs ∷ []) c)
        (drafts_from (pairs_differ s w.side e.pairs ∷ []))

pub spare_from :
    (d : Design) (held : At) (x : TxType) (p : Point) (k : ℕ) (c : Clause) (w : Place) (y : TxType) (r : Point) (step : Step) (path : Path)
    → AllByRecursion (FromIt (of_path held w)) (spare_at d held x p k c w y r step path)
spare_from d held x p k c w y r step path =
    let s : Setting = setting_of d y r step w.path path in
    let o = entry_for d.entries held w.at w.side in
    all_if (FromIt (of_path held w)) (clause_names path.actions c)
    (by_entry (path_origin Spares (Some held) k w) s w.side p.clauses (length x.locals) c o) (entry_from held k w s p.clauses (length x.locals) c o)

pub tried_from : (d : Design) (q : Question) → AllByRecursion (FromIt q) (spares_in d q)
tried_from d q =
    all_spares (FromIt q) d q (λ x p k c y r j path a b g e f m.
    spare_from d q.held x p k c (record { at = q.step; side = q.side; path = j }) y r (step_at q.side r) path)

-- ---- from there they are all

module _ (d : Design) (q : Question) where
  abbrev pub IsTried : Draft → Type 0
  IsTried x = FromIt q x → Contains (spares_in d q) x

  tried_if :
      (z : Question) (xs : List Draft) → AllByRecursion (FromIt z) xs → (z ≡ q → AllByRecursion (Contains (spares_in d q)) xs)
      → AllByRecursion IsTried xs
  tried_if z [] h f = tt
  tried_if z (x ∷ xs) h f = ((λ asked. (f (same asked)).0), tried_if z xs h.1 (λ e. (f e).1))
    where
      same : FromIt q x → z ≡ q
      same asked =
          let held : z.held ≡ q.held = same_Some z.held q.held (sym h.0.1 ∙ asked.1) in
          let step : z.step ≡ q.step = same_Some z.step q.step (sym h.0.2 ∙ asked.2) in
          let side : z.side ≡ q.side = sym h.0.3 ∙ asked.3 in
          (λ i. record { held = held i; step = step i; side = side i })

  pub spares_tried : AllByRecursion IsTried (all_spare_drafts d)
  spares_tried =
      all_each IsTried (λ ty x. each (held_drafts d ty x) x.points) d.types (λ ty x a.
      all_each IsTried (held_drafts d ty x) x.points (λ i p b.
      all_each IsTried (λ k c. each_path d (spare_at d (record { ty = ty; point = i }) x p k c)) p.clauses (λ k c g.
      all_paths IsTried d (spare_at d (record { ty = ty; point = i }) x p k c) (λ w y r path e f m.
      one (record { ty = ty; point = i }) x p k c w y r path a b g e f m))))
    where
      one :
          (held : At) (x : TxType) (p : Point) (k : ℕ) (c : Clause) (w : Place) (y : TxType) (r : Point) (path : Path)
          → slice_get d.types held.ty ≡ Some x → slice_get x.points held.point ≡ Some p → slice_get p.clauses k ≡ Some c
          → slice_get d.types w.at.ty ≡ Some y → slice_get y.points w.at.point ≡ Some r → slice_get (step_at w.side r).paths w.path ≡ Some path
          → AllByRecursion IsTried (spare_at d held x p k c w y r (step_at w.side r) path)
      one held x p k c w y r path a b g e f m =
          let z = of_path held w in
          let xs = spare_at d held x p k c w y r (step_at w.side r) path in
          tried_if z xs (spare_from d held x p k c w y r (step_at w.side r) path)
          (λ is. subst (λ (t : Question). AllByRecursion (Contains (spares_in d t)) xs) is
          (one_of_tried (Contains (spares_in d z)) d z x p k c y r w.path path a b g e f m
          (recursion_from_All (Contains (spares_in d z)) (spares_in d z) (All-contains_itself (spares_in d z)))))
