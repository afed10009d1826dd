-- The obligations of a held clause from the values that they were computed from.
use Rattle.std.proofs.Common.{◌≡◌, ℕ, ◌+◌, List, length, ap, subst, ◌∙◌}
use Rattle.std.specs.Prelude.{Result}
use Rattle.acc_base.specs.declared.forms.Rel.{Rel}
use Rattle.acc_base.specs.declared.forms.Clause.{Clause}
use Rattle.acc_base.specs.declared.steps.Action.{Action}
use Rattle.acc_base.specs.declared.sequents.Origin.{Origin}
use Rattle.acc_base.specs.declared.sequents.Sequent.{Sequent}
use Rattle.acc_oblig.specs.declared.naming.Naming.{Naming}
use Rattle.acc_oblig.specs.Naming.{own_naming}
use Rattle.acc_oblig.specs.Settings.{Setting, step_vars, path_actions}
use Rattle.acc_oblig.specs.Spares.{held_names, spare_drafts}
use Rattle.acc_oblig_goals.specs.declared.errors.ObligError.{ObligError}
use Rattle.acc_oblig_goals.specs.Causes.{Adds, at_case}
use Rattle.acc_oblig_places.specs.DesignPlaces.{PointPlace}
use Rattle.acc_oblig_paths.specs.declared.orders.Ordered.{Ordered}
use Rattle.acc_oblig_paths.specs.Orders.{after_ordered}
use Rattle.acc_oblig_paths.specs.Helds.{ordered_of}

module _ (r : Result (Unit {0}) ObligError) (old new : List Sequent) (origin : Origin) (s : Setting) (q : PointPlace) (pairs : List Rel)
    (c : Clause) where
  pub spare_added :
      (own vars : ℕ) (o : Ordered) (acts : List Action) (n : Naming)
      → own ≡ step_vars s + (length q.x.locals + 1) → vars ≡ own + length c.vars → o ≡ ordered_of origin s q vars pairs →
      acts ≡ path_actions s vars
      → n ≡ own_naming (held_names s (length q.x.locals)) own (length c.vars) → Adds r old new (after_ordered o acts n c)
      → Adds r old new (spare_drafts (at_case origin) s q.p.clauses (length q.x.locals) pairs c)
  spare_added own vars o acts n eo ev ed ea en a =
      let e : vars ≡ step_vars s + (length q.x.locals + 1) + length c.vars = ev ∙ ap (λ z. z + length c.vars) eo in
      subst (Adds r old new)
      (λ i. after_ordered ((ed ∙ ap (λ v. ordered_of origin s q v pairs) e) i) ((ea ∙ ap (path_actions s) e) i)
      ((en ∙ ap (λ z. own_naming (held_names s (length q.x.locals)) z (length c.vars)) eo) i) c) a
