-- The trial of a clause at values for all its variables, and what it tells of the clause's truth.
use Rattle.std.specs.Prelude.{◌≡◌, ⊤, ◌≤◌, Bool, true, false, IsTrue, IsFalse, List, [], ◌∷◌, length, All, Option, Some, None, ℤ}
use Rattle.std.specs.List.{list_all}
use Rattle.acc_base.specs.declared.tables.Row.{Row}
use Rattle.acc_base.specs.declared.forms.Rel.{Rel}
use Rattle.acc_base.specs.declared.forms.Clause.{Clause}
use Rattle.acc_base.specs.Atoms.{key_of}
use Rattle.acc_base.specs.Numbers.{IsSmall}
use Rattle.acc_base.specs.Runnable.{IsKey}
use Rattle.acc_base.specs.Sums.{Term}
use Rattle.acc_base.specs.Truth.{rel_true}
use Rattle.acc_audit_trial.specs.declared.trials.Trial.{Trial}
use Rattle.acc_audit_trial.specs.declared.trials.Trial.TheVariants as trial
use Rattle.acc_audit_trial.specs.Worths.{rel_worth}

-- ---- the trial

-- a guard, and the others where it is true
abbrev pub and_met : Option Bool → Option Bool → Option Bool
and_met None rest = None
and_met (Some false) rest = Some false
and_met (Some true) rest = rest

-- guards in order, up to the first that is false
abbrev pub all_met : List Row → List ℤ → List Rel → Option Bool
all_met db env [] = Some true
all_met db env (g ∷ gs) = and_met (rel_worth db env g) (all_met db env gs)

-- what guards and then a relation tell
abbrev pub told_by : Option Bool → Option Bool → Trial
told_by None rel = trial.Large
told_by (Some false) rel = trial.Holds
told_by (Some true) None = trial.Large
told_by (Some true) (Some false) = trial.Fails
told_by (Some true) (Some true) = trial.Holds

-- the clause's own variables come behind the others
abbrev pub trial_of : List Row → List ℤ → Clause → Trial
trial_of db env c = told_by (all_met db env c.guards) (rel_worth db env c.rel)

-- ---- what it tells

-- the guards are true and the relation isn't
pub record FailsAt (db : List Row) (env : List ℤ) (c : Clause) : Type 0 where
  pub guards : IsTrue (list_all (rel_true db env) c.guards)
  pub rel : IsFalse (rel_true db env c.rel)

-- the guards imply the relation
abbrev pub HoldsAt : List Row → List ℤ → Clause → Type 0
HoldsAt db env c = IsTrue (list_all (rel_true db env) c.guards) → IsTrue (rel_true db env c.rel)

abbrev pub TellsTruth : List Row → List ℤ → Clause → Trial → Type 0
TellsTruth db env c trial.Holds = HoldsAt db env c
TellsTruth db env c trial.Fails = FailsAt db env c
TellsTruth db env c trial.Large = ⊤

-- ---- what can be tried

-- nothing stands under an unknown, and its key is short, as in a well-formed design
pub record CanWeigh (t : Term) : Type 0 where
  pub bare : t.0.under ≡ []
  pub key : IsKey (key_of t.0.atom)

abbrev pub CanMeet : Rel → Type 0
CanMeet r = All CanWeigh r.form.terms

pub record CanTry (c : Clause) : Type 0 where
  pub guards : All CanMeet c.guards
  pub rel : CanMeet c.rel

-- the components of keys are in range, as those of rows that a run leaves
abbrev pub AreKeyed : List Row → Type 0
AreKeyed db = All (λ r. All IsSmall r.key.parts) db
