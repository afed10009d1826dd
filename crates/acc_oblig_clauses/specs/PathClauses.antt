-- The obligations of a clause after a path, from the first one's place.
use Rattle.std.specs.Prelude.{ℕ, List}
use Rattle.acc_base.specs.declared.forms.Clause.{Clause}
use Rattle.acc_base.specs.declared.sequents.Origin.{Origin}
use Rattle.acc_oblig_assumptions.specs.Settings.{Setting, step_vars, step_hyps, path_actions}
use Rattle.acc_oblig_assumptions.specs.Drafts.{Draft, clause_drafts, path_rels}
use Rattle.acc_oblig_goals.specs.Causes.{at_case}

abbrev pub path_clause_drafts : Origin → Setting → List ℕ → Clause → List Draft
path_clause_drafts origin s names c =
    clause_drafts (at_case origin) (step_hyps s) (path_rels s) (path_actions s) names (step_vars s) c
