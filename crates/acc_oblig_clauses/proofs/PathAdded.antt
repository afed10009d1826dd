-- The obligations of a clause after a path from the values that they were computed from, and those of all paths from their list.
use Rattle.std.proofs.Common.{◌≡◌, ℕ, List, map, ap, subst, ◌∙◌}
use Rattle.std.specs.Prelude.{Result, Option}
use Rattle.acc_base.specs.declared.forms.Clause.{Clause}
use Rattle.acc_base.specs.declared.steps.Path.{Path}
use Rattle.acc_base.specs.declared.steps.Step.{Step}
use Rattle.acc_base.specs.declared.designs.At.{At}
use Rattle.acc_base.specs.declared.designs.Point.{Point}
use Rattle.acc_base.specs.declared.designs.TxType.{TxType}
use Rattle.acc_base.specs.declared.designs.Design.{Design}
use Rattle.acc_base.specs.declared.sequents.Origin.{Origin}
use Rattle.acc_base.specs.declared.sequents.Sequent.{Sequent}
use Rattle.acc_base.specs.declared.sequents.Rule.{Rule}
use Rattle.acc_oblig_assumptions.specs.Settings.{Setting, step_vars, step_hyps, path_actions}
use Rattle.acc_oblig_assumptions.specs.Drafts.{Draft, Place, clause_drafts, each_path, path_origin, path_rels}
use Rattle.acc_oblig_goals.specs.declared.errors.ObligError.{ObligError}
use Rattle.acc_oblig_goals.specs.Causes.{Adds}
use Rattle.acc_oblig_assumptions.specs.PathPlace.{PathPlace}
use Rattle.acc_oblig_clauses.specs.PathClauses.{path_clause_drafts}
use Rattle.acc_oblig_assumptions.specs.SeenPlaces.{path_place}
use Rattle.acc_oblig_assumptions.specs.DesignPlaces.{joined, at_path_place, path_places}
use Rattle.acc_oblig_assumptions.proofs.EachPath.{each_path_is}

module _ (r : Result (Unit {0}) ObligError) (old new : List Sequent) (rule : Rule) (held : Option At) (k : ℕ) (w : Place) (s : Setting)
    (names : List ℕ) (c : Clause) where
  pub path_added :
      (o : Origin) (t : Setting) (ns : List ℕ) (b : Clause) → o ≡ path_origin rule held k w 1 → t ≡ s → ns ≡ names → b ≡ c
      → Adds r old new (path_clause_drafts o t ns b)
      → Adds r old new (clause_drafts (path_origin rule held k w) (step_hyps s) (path_rels s) (path_actions s) names (step_vars s) c)
  path_added o t ns b eo et en eb a = subst (Adds r old new) (λ i. path_clause_drafts (eo i) (et i) (en i) (eb i)) a

pub paths_added :
    (r : Result (Unit {0}) ObligError) (old new : List Sequent) (d : Design) (make : Place → TxType → Point → Step → Path → List Draft)
    (ps : List PathPlace) → map path_place ps ≡ path_places d → Adds r old new (joined (at_path_place make) (map path_place ps)) →
    Adds r old new (each_path d make)
paths_added r old new d make ps e a = subst (Adds r old new) (ap (joined (at_path_place make)) e ∙ each_path_is d make) a
