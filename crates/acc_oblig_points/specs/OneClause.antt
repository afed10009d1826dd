-- The obligations of one clause.
use Rattle.std.specs.Prelude.{ℕ, List, [], ◌∷◌, ◌++◌}
use Rattle.acc_base.specs.declared.forms.Clause.{Clause}
use Rattle.acc_base.specs.declared.designs.TxType.{TxType}
use Rattle.acc_base.specs.declared.designs.Design.{Design}
use Rattle.acc_base.specs.declared.sequents.Origin.{Origin}
use Rattle.acc_oblig.specs.Settings.{Setting, first_now, step_vars, step_hyps}
use Rattle.acc_oblig.specs.Drafts.{Draft, clause_drafts}
use Rattle.acc_oblig.specs.PathPromises.{empty_origin}
use Rattle.acc_oblig.specs.PointRules.{begin_rels, resting}
use Rattle.acc_oblig_goals.specs.Causes.{at_case}

-- that it holds of no rows
abbrev pub empty_clause_drafts : ℕ → Clause → List Draft
empty_clause_drafts k c = clause_drafts (empty_origin k) (λ vars. []) (λ vars. []) (λ vars. []) [] 0 c

-- that a transaction of the type which begins has it
abbrev pub begin_clause_drafts : Origin → Design → TxType → Clause → List Draft
begin_clause_drafts origin d x c =
    let s : Setting = resting d x [] in
    clause_drafts (at_case origin) (step_hyps s) (begin_rels x s) (λ vars. []) (first_now s ++ s.locals ∷ []) (step_vars s) c
