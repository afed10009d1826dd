-- What is wrong with clauses of rows.
use Rattle.std.specs.Prelude.{◌≡◌, ℕ, ◌+◌, ◌<◌, ◌^◌, nat_le, if◌then◌else◌, List, [], ◌∷◌, ◌++◌, length, map, drop, All, Option, Some, None}
use Rattle.std.specs.Prelude.{MatchOption, slice_get, ℤ}
use Rattle.acc_base.specs.declared.tables.Row.{Row}
use Rattle.acc_base.specs.declared.forms.Clause.{Clause}
use Rattle.acc_audit_ranges.specs.Ranges.{IsRange}
use Rattle.acc_audit_trial.specs.declared.trials.Trial.{Trial}
use Rattle.acc_audit_trial.specs.declared.trials.Trial.TheVariants as trial
use Rattle.acc_audit_trial.specs.Trials.{trial_of}
use Rattle.acc_audit_complaints.specs.declared.counts.TheConstants.{MOST_TUPLES}
use Rattle.acc_audit_complaints.specs.declared.searches.Complaint.{Complaint}
use Rattle.acc_audit_complaints.specs.declared.searches.Complaint.TheVariants.{False, Large}
use Rattle.acc_audit_complaints.specs.Tuples.{tuples}

-- ---- one clause

-- what is wrong at a trial, and where nothing is, what comes behind it
abbrev pub after_trial : List ℤ → Trial → Option Complaint → Option Complaint
after_trial own trial.Holds rest = rest
after_trial own trial.Fails rest = Some (False own)
after_trial own trial.Large rest = Some Large

-- what is wrong at the first of some lists of values at which something is; so many of the values come from outside the clause
abbrev pub first_bad : List Row → Clause → ℕ → List (List ℤ) → Option Complaint
first_bad db c n [] = None
first_bad db c n (values ∷ rest) = after_trial (drop n values) (trial_of db values c) (first_bad db c n rest)

-- the ranges of a clause's own variables, which come behind those outside
pub record AreRanges (db : List Row) (env : List ℤ) (c : Clause) (ranges : List (List ℤ)) : Type 0 where
  pub each_has : length ranges ≡ length c.vars
  pub each : (i : ℕ) (r : List ℤ) → slice_get ranges i ≡ Some r → IsRange db env c (length env + i) r

-- what is wrong at the first tuple of values at which something is; too many tuples are not tried
abbrev pub judged : List Row → List ℤ → Clause → List (List ℤ) → Option Complaint
judged db env c ranges =
    if nat_le (length (tuples ranges)) MOST_TUPLES then first_bad db c (length env) (map (λ own. env ++ own) (tuples ranges))
    else Some Large

-- this is what is wrong with a clause of rows, with these values for the variables outside it
pub record Judges (db : List Row) (env : List ℤ) (c : Clause) (found : Option Complaint) : Type 0 where
  pub ranges : List (List ℤ)
  pub are_ranges : AreRanges db env c ranges
  pub tells : found ≡ judged db env c ranges

-- ---- clauses, in order

-- the clause with number n, from 1, is the first with which something is wrong
pub record IsFirstAt (db : List Row) (env : List ℤ) (clauses : List Clause) (n : ℕ) (complaint : Complaint) : Type 0 where
  pub before : List Clause
  pub clause : Clause
  pub behind : List Clause
  pub parts : clauses ≡ before ++ clause ∷ behind
  pub number : n ≡ length before + 1
  pub clear : All (λ c. Judges db env c None) before
  pub tells : Judges db env clause (Some complaint)

-- the first clause with which something is wrong, and what that is; none where nothing is wrong with any
abbrev pub IsFirst : List Row → List ℤ → List Clause → Option (ℕ × Complaint) → Type 0
IsFirst db env clauses found =
    MatchOption found (All (λ c. Judges db env c None) clauses) (λ f. IsFirstAt db env clauses f.0 f.1)

-- the variables of a clause can be numbered
abbrev pub IsShort : List ℤ → Clause → Type 0
IsShort env c = length env + length c.vars < 2 ^ 32
