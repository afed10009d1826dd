-- The obligations on what a path leaves: what its target promises, what holds always, and the rows that it changes; and what holds
-- always of no rows.
use Rattle.std.specs.Prelude.{ℕ, ◌+◌, ◌==◌, Bool, false, ◌||◌, if◌then◌else◌, List, [], ◌∷◌, ◌++◌, take, Option, Some, None, slice_get, pos}
use Rattle.std.specs.Prelude.{negsuc}
use Rattle.std.specs.List.{list_any}
use Rattle.acc_base.specs.declared.bounds.TheConstants.{MOST_CLAUSES, MOST_ACTIONS}
use Rattle.acc_base.specs.declared.forms.Lin.{Lin}
use Rattle.acc_base.specs.declared.forms.Atom.{Atom}
use Rattle.acc_base.specs.declared.forms.Atom.TheVariants as atom
use Rattle.acc_base.specs.declared.forms.Rel.{Rel}
use Rattle.acc_base.specs.declared.forms.Clause.{Clause}
use Rattle.acc_base.specs.declared.steps.Action.{Action}
use Rattle.acc_base.specs.declared.steps.Action.TheVariants as action
use Rattle.acc_base.specs.declared.steps.Target.{Target}
use Rattle.acc_base.specs.declared.steps.Target.TheVariants as target
use Rattle.acc_base.specs.declared.steps.Path.{Path}
use Rattle.acc_base.specs.declared.steps.Step.{Step}
use Rattle.acc_base.specs.declared.designs.Side.TheVariants.{Next}
use Rattle.acc_base.specs.declared.designs.Point.{Point}
use Rattle.acc_base.specs.declared.designs.TxType.{TxType}
use Rattle.acc_base.specs.declared.designs.Design.{Design}
use Rattle.acc_base.specs.declared.sequents.Origin.{Origin}
use Rattle.acc_base.specs.declared.sequents.Rule.TheVariants.{Promises, Always, There, Empty}
use Rattle.acc_base.specs.Actions.{acted_table}
use Rattle.acc_base.specs.Atoms.{table_of}
use Rattle.acc_base.specs.Forms.{form, is_zero}
use Rattle.acc_oblig.specs.Relations.{times}
use Rattle.acc_oblig.specs.Settings.{Setting, last_now}
use Rattle.acc_oblig.specs.Drafts.{Draft, each, of_some, clause_drafts, setting_of, Place, each_path, each_number, path_drafts}

-- ---- promises: what a path's target promises

abbrev pub point_clauses : Option Point → List Clause
point_clauses None = []
point_clauses (Some p) = p.clauses

abbrev pub promised : TxType → Target → List Clause
promised x (target.Point p) = point_clauses (slice_get x.points p)
promised x target.Commit = x.posts
promised x target.Undone = x.repairs
promised x (target.Refuse n) = []

abbrev pub promise_at : Design → ℕ → Place → TxType → Point → Step → Path → List Draft
promise_at d k w x p step path =
    let s : Setting = setting_of d x p step w.path path in
    of_some (path_drafts Promises s k w (last_now s ++ s.locals ∷ [])) (slice_get (promised x path.target) k)

-- so many clauses are promised at most
abbrev pub promise_drafts : Design → List Draft
promise_drafts d = each_number 0 MOST_CLAUSES (λ k. each_path d (promise_at d k))

-- ---- always: what holds always

-- one of the actions is on this table, if it is one
abbrev pub change_table : List Action → Option ℕ → Bool
change_table actions None = false
change_table actions (Some t) = list_any (λ a. acted_table a == t) actions

-- an atom names a table of the actions
abbrev pub atom_names : List Action → Atom → Bool
atom_names actions a = change_table actions (table_of a)

abbrev pub rel_names : List Action → Rel → Bool
rel_names actions r = list_any (λ t. atom_names actions t.0.atom) r.form.terms

-- a clause names a table of the actions
abbrev pub clause_names : List Action → Clause → Bool
clause_names actions c = list_any (rel_names actions) c.guards || rel_names actions c.rel

abbrev pub always_at : Design → ℕ → Clause → Place → TxType → Point → Step → Path → List Draft
always_at d k c w x p step path =
    if clause_names path.actions c then path_drafts Always (setting_of d x p step w.path path) k w [] c else []

abbrev pub always_drafts : Design → List Draft
always_drafts d = each (λ k c. each_path d (always_at d k c)) d.always

-- ---- there: the row of each `set` and `add` is there

-- the table and key of a row that has to be there
abbrev pub changed_row : Action → Option (ℕ × List Lin)
changed_row (action.Put t k vs) = None
changed_row (action.Del t k) = None
changed_row (action.Set t k c v) = Some (t, k)
changed_row (action.Add t k c v) = Some (t, k)

-- the row is there
abbrev pub row_there : ℕ × List Lin → Clause
row_there r =
    record { vars = []; guards = []; rel = is_zero (form (times (pos 1) (atom.Has r.0 r.1) ∷ []) (negsuc 0)) }

-- before the action with number k: after those before it
abbrev pub there_at : Design → ℕ → Place → TxType → Point → Step → Path → List Draft
there_at d k w x p step path =
    let s : Setting = record (setting_of d x p step w.path path) { actions = take k path.actions } in
    let there = λ (r : ℕ × List Lin). path_drafts There s k w (last_now s ++ s.locals ∷ []) (row_there r) in
    of_some (λ a. of_some there (changed_row a)) (slice_get path.actions k)

abbrev pub there_drafts : Design → List Draft
there_drafts d = each_number 0 MOST_ACTIONS (λ k. each_path d (there_at d k))

-- ---- empty: what holds always of no rows

abbrev pub empty_origin : ℕ → ℕ → Origin
empty_origin clause case =
    record { rule = Empty; held = None; clause = clause + 1; at = None; side = Next; path = 0; case = case }

abbrev pub empty_drafts : Design → List Draft
empty_drafts d = each (λ k c. clause_drafts (empty_origin k) (λ vars. []) (λ vars. []) (λ vars. []) [] 0 c) d.always
