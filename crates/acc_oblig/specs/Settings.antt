-- What is assumed where a path is taken, and what its actions are.
use Rattle.std.specs.Prelude.{ℕ, ◌+◌, List, [], ◌∷◌, ◌++◌, length, map, slice_set}
use Rattle.acc_base.specs.declared.forms.Rel.{Rel}
use Rattle.acc_base.specs.declared.forms.LinRel.{LinRel}
use Rattle.acc_base.specs.declared.forms.Clause.{Clause}
use Rattle.acc_base.specs.declared.steps.Read.{Read}
use Rattle.acc_base.specs.declared.steps.Action.{Action}
use Rattle.acc_base.specs.declared.steps.Path.{Path}
use Rattle.acc_base.specs.Reads.{assigned}
use Rattle.acc_base.specs.Items.{numbers_from}
use Rattle.acc_oblig.specs.declared.naming.Naming.{Naming}
use Rattle.acc_oblig.specs.Naming.{own_clauses, named_action}
use Rattle.acc_oblig.specs.Relations.{value_bounds, number_bounds, read_rels, read_hyps, guard_rel, untaken}

-- a step of a transaction with so many locals: what holds always and at its point, its reads, the guards of the paths before the
-- taken one, and that one's guard and actions
pub record Setting : Type 0 where
  pub always : List Clause
  pub clauses : List Clause
  pub locals : ℕ
  pub reads : List Read
  pub earlier : List Path
  pub guard : List LinRel
  pub actions : List Action

-- ---- names

-- the variables of the locals, and behind them that of `self`, which is the variable `me`
abbrev pub with_self : List ℕ → ℕ → ℕ → Naming
with_self now me past = record { names = now ++ me ∷ []; past = past }

-- the variables of the locals after reads whose own variables are x and those behind it: each local has that of its last read
abbrev pub now_after : List ℕ → ℕ → List Read → List ℕ
now_after now x [] = now
now_after now x (r ∷ rs) = now_after (slice_set now (assigned r) x) (x + 1) rs

-- the locals' variables before and after the reads of a step
abbrev pub first_now : Setting → List ℕ
first_now s = numbers_from 0 s.locals

abbrev pub last_now : Setting → List ℕ
last_now s = now_after (first_now s) (s.locals + 1) s.reads

-- how many variables a step has: its locals, `self`, and one a read
abbrev pub step_vars : Setting → ℕ
step_vars s = s.locals + 1 + length s.reads

-- the names of a step's variables before its reads and after them, in a sequent of so many variables; a variable that the step
-- doesn't have is worth 0, as one behind all those of the sequent and of its hypotheses
abbrev pub step_naming : Setting → List ℕ → ℕ → Naming
step_naming s now vars = with_self now s.locals (vars + 1)

abbrev pub after_naming : Setting → ℕ → Naming
after_naming s vars = step_naming s (last_now s) vars

-- ---- along the reads

-- the relations of reads whose own variables are x and those behind it
abbrev pub all_read_rels : ℕ → ℕ → List ℕ → ℕ → List Read → List Rel
all_read_rels me vars now x [] = []
all_read_rels me vars now x (r ∷ rs) =
    read_rels (with_self now me (vars + 1)) x r ++ all_read_rels me vars (slice_set now (assigned r) x) (x + 1) rs

-- and what they make true for all numbers
abbrev pub all_read_hyps : ℕ → ℕ → List ℕ → ℕ → List Read → List Clause
all_read_hyps me vars now x [] = []
all_read_hyps me vars now x (r ∷ rs) =
    read_hyps (with_self now me (vars + 1)) vars x r ++ all_read_hyps me vars (slice_set now (assigned r) x) (x + 1) rs

abbrev pub all_bounds : List ℕ → List Rel
all_bounds [] = []
all_bounds (x ∷ xs) = value_bounds x ++ all_bounds xs

-- the paths before the taken one weren't taken
abbrev pub all_untaken : Naming → List Path → List Clause
all_untaken n [] = []
all_untaken n (p ∷ ps) = untaken n p.guard ∷ all_untaken n ps

-- ---- what is assumed, in a sequent of so many variables

-- so many locals of a transaction, from variable x on, and its number, which is the variable `me`, lie within the range
abbrev pub frame_bounds : ℕ → ℕ → ℕ → List Rel
frame_bounds x n me = all_bounds (numbers_from x n) ++ number_bounds me

-- the step's own bounds, with those of the first `bounded` of its reads
abbrev pub step_bounds : Setting → ℕ → List Rel
step_bounds s bounded = frame_bounds 0 s.locals s.locals ++ all_bounds (numbers_from (s.locals + 1) bounded)

-- what the reads and the guard of the path make true
abbrev pub step_rels : Setting → ℕ → List Rel
step_rels s vars =
    all_read_rels s.locals vars (first_now s) (s.locals + 1) s.reads ++ map (guard_rel (after_naming s vars)) s.guard

-- what holds always and at the point, what the reads make true for all numbers, and that no earlier path was taken
abbrev pub step_hyps : Setting → ℕ → List Clause
step_hyps s vars =
    own_clauses [] vars s.always
    ++ (own_clauses (first_now s ++ s.locals ∷ []) vars s.clauses
    ++ (all_read_hyps s.locals vars (first_now s) (s.locals + 1) s.reads
    ++ all_untaken (after_naming s vars) s.earlier))

-- the actions of the path, by the sequent's variables
abbrev pub path_actions : Setting → ℕ → List Action
path_actions s vars = map (named_action (after_naming s vars)) s.actions
