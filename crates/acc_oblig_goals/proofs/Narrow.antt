-- Obligations none of whose numbers is too large.
use Rattle.std.proofs.Common.{◌≡◌, ℕ, ◌+◌, false, List, [], ◌∷◌, refl}
use Rattle.std.specs.Prelude.{None}
use Rattle.acc_base.specs.declared.forms.Form.{Form}
use Rattle.acc_base.specs.declared.forms.Rel.{Rel}
use Rattle.acc_base.specs.declared.forms.Clause.{Clause}
use Rattle.acc_base.specs.declared.sequents.Origin.{Origin}
use Rattle.acc_oblig.specs.Drafts.{goal_drafts}
use Rattle.acc_oblig_goals.specs.Causes.{first_wide}

-- no number is too large where none of the goals' is
pub none_wide :
    (origin : ℕ → Origin) (vars : ℕ) (hyps : List Clause) (rels : List Rel) (n : ℕ) (gs : List Form)
    → first_wide (goal_drafts origin vars hyps rels false n gs) ≡ None
none_wide origin vars hyps rels n [] = refl
none_wide origin vars hyps rels n (g ∷ gs) = none_wide origin vars hyps rels (n + 1) gs
