-- The obligations of goals from the values that they were computed from.
use Rattle.std.proofs.Common.{◌≡◌, ℕ, ◌+◌, ◌≤◌, length, Bool, true, false, List, [], ◌∷◌, refl, ap, sym, subst, ◌∙◌}
use Rattle.std.specs.Prelude.{slice_get, Result, Some, None, Ok, Err, IsTrue, IsFalse, IsErrAnd, if◌then◌else◌}
use Rattle.std.proofs.lemmas.List.{append-nil}
use Rattle.std.proofs.lemmas.Result.{err_from_is_err_and}
use Rattle.std.proofs.lemmas.Option.{slice_get_past}
use Rattle.acc_base.specs.declared.forms.Lin.{Lin}
use Rattle.acc_base.specs.declared.forms.Form.{Form}
use Rattle.acc_base.specs.declared.forms.Rel.{Rel}
use Rattle.acc_base.specs.declared.forms.Clause.{Clause}
use Rattle.acc_base.specs.declared.sequents.Origin.{Origin}
use Rattle.acc_base.specs.declared.sequents.Sequent.{Sequent}
use Rattle.acc_base.specs.declared.sequents.Rule.TheVariants as rule
use Rattle.acc_oblig.specs.Settings.{Setting, first_now, step_vars, step_hyps}
use Rattle.acc_oblig.specs.Drafts.{Draft, Place, of_some, goal_drafts, path_origin, path_rels}
use Rattle.acc_oblig.specs.PointRules.{rest_origin, variant_form, rest_in, fall_in}
use Rattle.acc_oblig_goals.specs.declared.errors.ObligError.{ObligError}
use Rattle.acc_oblig_goals.specs.declared.errors.ObligError.TheVariants.{Wide, Memory}
use Rattle.acc_oblig_goals.specs.Causes.{first_wide, Adds, TellsClause, at_case}
use Rattle.acc_oblig_points.specs.declared.variants.Bound.{Bound}
use Rattle.acc_oblig_points.specs.Bounds.{bound_clause, bound_goal, fall_form, is_fall_wide}

pub nothing_added : (old : List Sequent) → Adds (Ok tt) old old []
nothing_added old = (sym (append-nil old), refl)

module _ (r : Result (Unit {0}) ObligError) (old new : List Sequent) where
  -- what is chosen by a test, where it is true
  pub chosen_added : (b : Bool) (ds : List Draft) → b ≡ true → Adds r old new ds → Adds r old new (if b then ds else [])
  chosen_added b ds e a = subst (λ z. Adds r old new (if z then ds else [])) (sym e) a

  pub goals_added :
      (origin : ℕ → Origin) (o : Origin) (v w : ℕ) (hs ks : List Clause) (rs ss : List Rel) (gs fs : List Form)
      → o ≡ origin 1 → v ≡ w → hs ≡ ks → rs ≡ ss → gs ≡ fs → at_case (origin 1) ≡ origin
      → Adds r old new (goal_drafts (at_case o) v hs rs false 1 gs) → Adds r old new (goal_drafts origin w ks ss false 1 fs)
  goals_added origin o v w hs ks rs ss gs fs eo ev eh er eg es a =
      subst (Adds r old new) (λ i. goal_drafts ((ap at_case eo ∙ es) i) (ev i) (eh i) (er i) false 1 (eg i)) a

  -- a bound of a point's variant
  pub bound_added :
      (b : Bound) (ty i : ℕ) (s t : Setting) (l : Lin) (o : Origin) (vars : ℕ) (hs : List Clause) (rs : List Rel) (g : Form)
      → o ≡ rest_origin (bound_clause b) ty i 1 → s ≡ t → vars ≡ step_vars s → hs ≡ step_hyps s vars → rs ≡ path_rels s vars
      → g ≡ bound_goal b (variant_form s (first_now s) vars l) → Adds r old new (goal_drafts (at_case o) vars hs rs false 1 (g ∷ []))
      → Adds r old new (rest_in (bound_clause b) ty i t l (bound_goal b) (step_vars t))
  bound_added b ty i s t l o vars hs rs g eo es ev eh er eg a =
      subst (λ (z : Setting). Adds r old new (rest_in (bound_clause b) ty i z l (bound_goal b) (step_vars z))) es
      (goals_added (rest_origin (bound_clause b) ty i) o vars (step_vars s) hs (step_hyps s (step_vars s)) rs (path_rels s (step_vars s))
      (g ∷ []) (bound_goal b (variant_form s (first_now s) (step_vars s) l) ∷ []) eo ev (eh ∙ ap (step_hyps s) ev)
      (er ∙ ap (path_rels s) ev)
      (ap (λ f. f ∷ []) (eg ∙ ap (λ v. bound_goal b (variant_form s (first_now s) v l)) ev)) refl a)

  -- a path makes the variant fall
  pub fall_added :
      (s t : Setting) (w : Place) (before behind : Lin) (o : Origin) (vars : ℕ) (hs : List Clause) (rs : List Rel) (g : Form)
      → o ≡ path_origin rule.Variants None 2 w 1 → s ≡ t → vars ≡ step_vars s → hs ≡ step_hyps s vars → rs ≡ path_rels s vars
      → g ≡ fall_form s before behind → IsFalse (is_fall_wide s before behind)
      → Adds r old new (goal_drafts (at_case o) vars hs rs false 1 (g ∷ []))
      → Adds r old new (fall_in t w before behind (step_vars t))
  fall_added s t w before behind o vars hs rs g eo es ev eh er eg ew a =
      let small =
      goals_added (path_origin rule.Variants None 2 w) o vars (step_vars s) hs (step_hyps s (step_vars s)) rs (path_rels s (step_vars s))
      (g ∷ []) (fall_form s before behind ∷ []) eo ev (eh ∙ ap (step_hyps s) ev) (er ∙ ap (path_rels s) ev) (ap (λ f. f ∷ []) eg) refl a in
      subst (λ (z : Setting). Adds r old new (fall_in z w before behind (step_vars z))) es
      (subst
      (λ b. Adds r old new (goal_drafts (path_origin rule.Variants None 2 w) (step_vars s) (step_hyps s (step_vars s))
      (path_rels s (step_vars s)) b 1
      (fall_form s before behind ∷ []))) (sym ew) small)

-- a number of that is too large
pub fall_wide :
    (s t : Setting) (w : Place) (before behind : Lin) (o : Origin) → s ≡ t → o ≡ path_origin rule.Variants None 2 w 1
    → IsTrue (is_fall_wide s before behind) → first_wide (fall_in t w before behind (step_vars t)) ≡ Some o
fall_wide s t w before behind o es eo ew =
    subst (λ (z : Setting). first_wide (fall_in z w before behind (step_vars z)) ≡ Some o) es
    (ap (λ (b : Bool). if b then Some (path_origin rule.Variants None 2 w 1) else None) ew ∙ ap Some (sym eo))

-- a clause whose numbers are too large refuses what begins with it
refused :
    (T : Type 0) (e : ObligError) (o : Origin) (wide : Bool) (old new : List Sequent) (ds : List Draft) →
    (IsTrue wide → first_wide ds ≡ Some o)
    → TellsClause {T = T} (Err e) o wide → Adds (Err e) old new ds
refused T (Wide x) o wide old new ds f h = f h.1 ∙ ap Some (sym h.0)
refused T Memory o wide old new ds f h = tt

pub clause_refused :
    (T : Type 0) (r : Result (Unit {0}) ObligError) (e : ObligError) (o : Origin) (wide : Bool) (old new : List Sequent) (ds : List Draft)
    → IsErrAnd r (λ y. y ≡ e) → (IsTrue wide → first_wide ds ≡ Some o) → TellsClause {T = T} (Err e) o wide → Adds r old new ds
clause_refused T r e o wide old new ds h f a =
    let p = err_from_is_err_and r h in
    let same : r ≡ Err e = p.1 ∙ ap Err p.2 in
    subst (λ (x : Result (Unit {0}) ObligError). Adds x old new ds) (sym same) (refused T e o wide old new ds f a)

-- nothing is made of an item that isn't there
pub past_added :
    {T : Type 0} (old : List Sequent) (make : T → List Draft) (xs ys : List T) (k : ℕ) → xs ≡ ys → length xs ≤ k
    → Adds (Ok tt) old old (of_some make (slice_get ys k))
past_added {T} old make xs ys k e h =
    let none : slice_get ys k ≡ None = ap (λ (zs : List T). slice_get zs k) (sym e) ∙ slice_get_past xs k h in
    subst (λ o. Adds (Ok tt) old old (of_some make o)) (sym none) (nothing_added old)
