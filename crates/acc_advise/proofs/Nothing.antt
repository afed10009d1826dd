-- An entry without pairs leaves nothing to spare, and a point that isn't there has nothing.
use Rattle.std.proofs.Common.{◌≡◌, ℕ, ◌+◌, Bool, true, false, List, [], ◌∷◌, ◌++◌, length, Option, Some, None, refl, sym, ap, ap₂, subst, ◌∙◌}
use Rattle.std.specs.Prelude.{if◌then◌else◌, option_map, Result, Ok}
use Rattle.acc_base.specs.declared.forms.Clause.{Clause}
use Rattle.acc_base.specs.declared.steps.Path.{Path}
use Rattle.acc_base.specs.declared.designs.Point.{Point}
use Rattle.acc_base.specs.declared.designs.TxType.{TxType}
use Rattle.acc_base.specs.declared.designs.Design.{Design}
use Rattle.acc_base.specs.declared.designs.Entry.{Entry}
use Rattle.acc_base.specs.declared.sequents.Origin.{Origin}
use Rattle.acc_base.specs.declared.sequents.Rule.TheVariants.{Spares}
use Rattle.acc_base.specs.Effects.{step_at}
use Rattle.acc_axioms.specs.declared.nodes.Proof.{Proof}
use Rattle.acc_oblig.specs.Drafts.{Draft, each_from, of_some, path_origin, setting_of}
use Rattle.acc_oblig.specs.PathPromises.{clause_names}
use Rattle.acc_oblig.specs.Spares.{by_entry}
use Rattle.acc_oblig_goals.specs.Causes.{sequents, first_wide}
use Rattle.acc_oblig_places.specs.declared.places.PointPlace.{PointPlace as HeldPoint}
use Rattle.acc_oblig_places.specs.ManyEntries.{with_entries}
use Rattle.acc_oblig_places.specs.SeenPlaces.{point_place}
use Rattle.acc_oblig_places.specs.DesignPlaces.{PointPlace}
use Rattle.acc_advise.specs.declared.advice.Advice.TheVariants.{Free, Keyed}
use Rattle.acc_advise.specs.declared.advice.AdviseError.{AdviseError}
use Rattle.acc_advise.specs.declared.advice.Beyond.{Beyond}
use Rattle.acc_advise.specs.declared.advice.Obstacle.{Obstacle}
use Rattle.acc_advise.specs.declared.trials.SpareTrial.{SpareTrial}
use Rattle.acc_advise.specs.declared.trials.SpareTrial.TheVariants as trial
use Rattle.acc_advise.specs.declared.advice.Question.{Question}
use Rattle.acc_advise.specs.declared.passes.Grown.{Grown}
use Rattle.acc_advise.specs.declared.spares.Inquiry.{Inquiry}
use Rattle.acc_advise.specs.TriedDesigns.{without_entry, keyed, point_place_at, spares_of, spares_in, free_drafts, keyed_drafts}
use Rattle.acc_advise.specs.Stops.{AllProved, AreProofs}
use Rattle.acc_advise.specs.Candidates.{candidates as candidates_of}
use Rattle.acc_advise.specs.Advices.{Settles, Advises}
use Rattle.acc_advise.specs.Cases.{TriesAll}
use Rattle.acc_advise.specs.Steps.{IsBacked, IsSettled}
use Rattle.acc_advise.proofs.Trying.{open_not_proved}
use Rattle.acc_advise.proofs.Entering.{all_points, spares_by, finds_own, keyed_is, free_is}

none_of_each : {T U : Type 0} (make : ℕ → T → List U) → ((i : ℕ) (x : T) → make i x ≡ []) → (i : ℕ) (xs : List T) → each_from i make xs ≡ []
none_of_each make h i [] = refl
none_of_each make h i (x ∷ xs) = ap₂ (λ ys zs. ys ++ zs) (h i x) (none_of_each make h (i + 1) xs)

none_of_if : (b : Bool) (ds : List Draft) → ds ≡ [] → (if b then ds else []) ≡ []
none_of_if true ds e = e
none_of_if false ds e = refl

module _ (d : Design) (q : Question) where
  none_of_points : (x : TxType) (p : Point) (y : TxType) (r : Point) → spares_by d q x p y r (Some (keyed q [])) ≡ []
  none_of_points x p y r =
      none_of_each (λ (k : ℕ) (c : Clause). each_from 0 (λ (j : ℕ) (path : Path). if clause_names path.actions c
      then by_entry (path_origin Spares (Some q.held) k (record { at = q.step; side = q.side; path = j }))
      (setting_of d y r (step_at q.side r) j path) q.side p.clauses (length x.locals) c (Some (keyed q []))
      else []) (step_at q.side r).paths)
      (λ k c. none_of_each (λ (j : ℕ) (path : Path). if clause_names path.actions c
      then by_entry (path_origin Spares (Some q.held) k (record { at = q.step; side = q.side; path = j }))
      (setting_of d y r (step_at q.side r) j path) q.side p.clauses (length x.locals) c (Some (keyed q []))
      else []) (λ j path. none_of_if (clause_names path.actions c) [] refl) 0 (step_at q.side r).paths) 0 p.clauses

  none_without_pairs : keyed_drafts d q [] ≡ []
  none_without_pairs =
      sym (keyed_is d q [])
      ∙ all_points d q (λ xs ys. xs ≡ []) refl (keyed q [] ∷ []) []
      (λ x p y r. ap (spares_by d q x p y r) (finds_own (keyed q []) []) ∙ none_of_points x p y r)

pub backed_first : (c : Inquiry) (g : Grown) → g.pairs ≡ [] → g.proofs ≡ [] → IsBacked c g
backed_first c g e f =
    let d = c.d.now in
    let start : AreProofs d (sequents (keyed_drafts d c.question [])) [] =
    subst (λ ds. AreProofs d (sequents ds) []) (sym (none_without_pairs d c.question)) tt in
    subst (λ (ps : List Proof). AreProofs d (sequents (keyed_drafts d c.question g.pairs)) ps) (sym f)
    (subst (λ (xs : List (ℕ × ℕ)). AreProofs d (sequents (keyed_drafts d c.question xs)) []) (sym e) start)

-- ---- points that aren't there

module _ (d : Design) (q : Question) where
  abbrev free_of : PointPlace → Option PointPlace → List Draft
  free_of h o = of_some (λ (s : PointPlace). spares_of (without_entry d q) q.side h s (step_at q.side s.p)) o

  no_held : None ≡ point_place_at d q.held → free_drafts d q ≡ []
  no_held e = sym (ap (λ (o : Option PointPlace). of_some (λ (h : PointPlace). free_of h (point_place_at d q.step)) o) e)

  no_step : None ≡ point_place_at d q.step → free_drafts d q ≡ []
  no_step e =
      sym (ap (λ (o : Option PointPlace). of_some (λ (h : PointPlace). free_of h o) (point_place_at d q.held)) e) ∙ by (point_place_at d q.held)
    where
      by : (o : Option PointPlace) → of_some (λ (h : PointPlace). free_of h None) o ≡ []
      by None = refl
      by (Some h) = refl

  nothing_free : (ps : List Proof) → free_drafts d q ≡ [] → ps ≡ [] → Advises d q (Ok (Free ps))
  nothing_free ps e f =
      let free = λ (ds : List Draft). (first_wide ds ≡ None) × (AllProved d (sequents ds) × AreProofs d (sequents ds) ps) in
      subst free (sym e) (refl, (tt, subst (AreProofs d []) (sym f) tt))

  pub free_without_held :
      (o : Option HeldPoint) (ps : List Proof) → o ≡ None → option_map point_place o ≡ point_place_at d q.held → ps ≡ []
      → Advises d q (Ok (Free ps))
  free_without_held o ps e f g = nothing_free ps (no_held (sym (ap (option_map point_place) e) ∙ f)) g

  pub free_without_step :
      (o : Option HeldPoint) (ps : List Proof) → o ≡ None → option_map point_place o ≡ point_place_at d q.step → ps ≡ []
      → Advises d q (Ok (Free ps))
  free_without_step o ps e f g = nothing_free ps (no_step (sym (ap (option_map point_place) e) ∙ f)) g

pub place_is :
    (o p : Option PointPlace) (x : PointPlace) → o ≡ p → o ≡ Some x → p ≡ Some x
place_is o p x e f = sym e ∙ f

-- ---- what is advised

module _ (c : Inquiry) where
  pub free_advice :
      (t : SpareTrial) (ps : List Proof) → t ≡ trial.Proved ps → TriesAll c (free_drafts c.d.now c.question) (Ok t)
      → Advises c.d.now c.question (Ok (Free ps))
  free_advice t ps e h =
      let is : TriesAll c (free_drafts c.d.now c.question) (Ok (trial.Proved ps)) =
      subst (λ (s : SpareTrial). TriesAll c (free_drafts c.d.now c.question) (Ok s)) e h in (is.1, is.0)

  pub needs_entry :
      (t : SpareTrial) (o : Origin) (w : Obstacle) → t ≡ trial.Stopped o w → TriesAll c (free_drafts c.d.now c.question) (Ok t)
      → ¬ AllProved c.d.now (sequents (free_drafts c.d.now c.question))
  needs_entry t o w e h =
      let is : TriesAll c (free_drafts c.d.now c.question) (Ok (trial.Stopped o w)) =
      subst (λ (s : SpareTrial). TriesAll c (free_drafts c.d.now c.question) (Ok s)) e h in
      open_not_proved c.d.now (sequents (free_drafts c.d.now c.question)) o w is.0

  -- the obligations without an entry are those of no entry at all
  pub tried_free :
      (es : List Entry) (r : Result SpareTrial AdviseError) → es ≡ [] → TriesAll c (spares_in (with_entries c.d.now es) c.question) r
      → TriesAll c (free_drafts c.d.now c.question) r
  tried_free es r e h =
      subst (λ ds. TriesAll c ds r) (free_is c.d.now c.question)
      (subst (λ (xs : List Entry). TriesAll c (spares_in (with_entries c.d.now xs) c.question) r) e h)

  pub keyed_is_advised :
      (candidates : List (ℕ × ℕ)) (g : Grown) (bs : List Beyond) → candidates ≡ candidates_of c.d.now c.question
      → first_wide (free_drafts c.d.now c.question) ≡ None → (¬ AllProved c.d.now (sequents (free_drafts c.d.now c.question)))
      → IsSettled c candidates (g, bs) → Advises c.d.now c.question (Ok (Keyed g.pairs g.proofs bs))
  keyed_is_advised candidates g bs e none needed h =
      let settled = subst (λ (xs : List (ℕ × ℕ)). (n : ℕ) × Settles c.d.now c.question n [] xs g.pairs bs) e h.0 in
      (none, (needed, settled, h.1))
