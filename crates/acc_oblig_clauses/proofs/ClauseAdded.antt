-- The obligations of a clause from the values that they were computed from.
use Rattle.std.proofs.Common.{◌≡◌, ℕ, ◌+◌, List, length, ap, subst, ◌∙◌}
use Rattle.std.specs.Prelude.{Result}
use Rattle.acc_base.specs.declared.forms.Rel.{Rel}
use Rattle.acc_base.specs.declared.forms.Clause.{Clause}
use Rattle.acc_base.specs.declared.steps.Action.{Action}
use Rattle.acc_base.specs.declared.sequents.Origin.{Origin}
use Rattle.acc_base.specs.declared.sequents.Sequent.{Sequent}
use Rattle.acc_oblig_assumptions.specs.Naming.{Naming}
use Rattle.acc_oblig_assumptions.specs.ObligNaming.{own_naming}
use Rattle.acc_oblig_assumptions.specs.Drafts.{clause_drafts}
use Rattle.acc_oblig_goals.specs.declared.errors.ObligError.{ObligError}
use Rattle.acc_oblig_goals.specs.Causes.{Adds, at_case}
use Rattle.acc_oblig_goals.specs.Shares.{after_drafts}

module _ (r : Result (Unit {0}) ObligError) (old new : List Sequent) (origin : Origin) (hyps : ℕ → List Clause) (rels : ℕ → List Rel)
    (actions : ℕ → List Action) (names : List ℕ) (own : ℕ) (c : Clause) where
  pub clause_added :
      (w v : ℕ) (hs : List Clause) (rs : List Rel) (acts : List Action) (n : Naming)
      → w ≡ own → v ≡ w + length c.vars → hs ≡ hyps v → rs ≡ rels v → acts ≡ actions v → n ≡ own_naming names w (length c.vars)
      → Adds r old new (after_drafts (record { origin = origin; vars = v; hyps = hs; rels = rs }) acts n c)
      → Adds r old new (clause_drafts (at_case origin) hyps rels actions names own c)
  clause_added w v hs rs acts n ew ev eh er ea en a =
      let e : v ≡ own + length c.vars = ev ∙ ap (λ z. z + length c.vars) ew in
      subst (Adds r old new)
      (λ i. after_drafts (record { origin = origin; vars = e i; hyps = (eh ∙ ap hyps e) i; rels = (er ∙ ap rels e) i })
      ((ea ∙ ap actions e) i)
      ((en ∙ ap (λ z. own_naming names z (length c.vars)) ew) i) c) a
