-- The obligations on ranges: the numbers of an undo step stay within bounds.
use Rattle.std.specs.Prelude.{ℕ, ◌+◌, ◌-◌, ◌/◌, nat_lt, Bool, true, false, if◌then◌else◌, List, [], ◌∷◌, ◌++◌, length, map, count_by, Some}
use Rattle.std.specs.Prelude.{None, slice_get, slice_set, pos, neg_ℤ, ◌*◌}
use Rattle.acc_base.specs.declared.bounds.TheConstants.{LARGEST_NUMBER, MOST_KEY_PARTS, MOST_COLUMNS, MOST_READS, MOST_ACTIONS}
use Rattle.acc_base.specs.declared.forms.Lin.{Lin}
use Rattle.acc_base.specs.declared.forms.Form.{Form}
use Rattle.acc_base.specs.declared.steps.Read.{Read}
use Rattle.acc_base.specs.declared.steps.Read.TheVariants as read
use Rattle.acc_base.specs.declared.steps.Action.{Action}
use Rattle.acc_base.specs.declared.steps.Action.TheVariants as action
use Rattle.acc_base.specs.declared.steps.Path.{Path}
use Rattle.acc_base.specs.declared.designs.At.{At}
use Rattle.acc_base.specs.declared.designs.Side.TheVariants.{Undo}
use Rattle.acc_base.specs.declared.designs.Point.{Point}
use Rattle.acc_base.specs.declared.designs.TxType.{TxType}
use Rattle.acc_base.specs.declared.designs.Design.{Design}
use Rattle.acc_base.specs.declared.sequents.Origin.{Origin}
use Rattle.acc_base.specs.declared.sequents.Rule.TheVariants.{Ranges}
use Rattle.acc_base.specs.Reads.{assigned, read_key}
use Rattle.acc_base.specs.Soundness.{adds_to}
use Rattle.acc_base.specs.Forms.{form}
use Rattle.acc_oblig.specs.declared.naming.Naming.{Naming}
use Rattle.acc_oblig.specs.Naming.{named_lin}
use Rattle.acc_oblig.specs.Relations.{variable, lin_form, negated, plus_number}
use Rattle.acc_oblig.specs.Settings.{Setting, with_self, first_now, after_naming, step_vars, step_bounds, step_rels, step_hyps}
use Rattle.acc_oblig.specs.Drafts.{Draft, Place, each, each_number, of_some, goal_drafts, path_origin, path_rels, setting_of}
use Rattle.acc_oblig.specs.PointRules.{each_point}

-- a value is at most so much, and at least minus that
abbrev pub within : Form → ℕ → List Form
within f most = plus_number f (neg_ℤ (pos most)) ∷ plus_number (negated f) (neg_ℤ (pos most)) ∷ []

-- ---- the numbers of reads: of each its key's, and then its value

-- a number, how many of the reads are bounded before it, and whether it has an obligation
pub record ReadNumber : Type 0 where
  pub value : Form
  pub bounded : ℕ
  pub asked : Bool

-- the rows bound these values by themselves
abbrev pub value_asked : Read → Bool
value_asked (read.Let y l) = true
value_asked (read.Col y t k c) = true
value_asked (read.Has y t k) = false
value_asked (read.Count y t p) = false
value_asked (read.Sum y t p c) = true
value_asked (read.Least y t p) = false
value_asked (read.Greatest y t p) = false
value_asked (read.Take y) = true
value_asked (read.Mul y u v) = true
value_asked (read.Div y u c) = true

abbrev pub key_number : Naming → ℕ → Lin → ReadNumber
key_number n i l = record { value = lin_form (named_lin n l); bounded = i; asked = true }

abbrev pub value_number : ℕ → ℕ → Read → ReadNumber
value_number x i r = record { value = form (variable (pos 1) x ∷ []) (pos 0); bounded = i; asked = value_asked r }

abbrev pub read_numbers : ℕ → ℕ → List ℕ → ℕ → ℕ → List Read → List ReadNumber
read_numbers me vars now x i [] = []
read_numbers me vars now x i (r ∷ rs) =
    (map (key_number (with_self now me (vars + 1)) i) (read_key r) ++ value_number x i r ∷ [])
    ++ read_numbers me vars (slice_set now (assigned r) x) (x + 1) (i + 1) rs

-- ---- the numbers of actions: of each its key's, and then its operands

-- a value and how far from 0 it may lie
pub record ActionNumber : Type 0 where
  pub value : Lin
  pub most : ℕ

abbrev pub in_range : Lin → ActionNumber
in_range l = record { value = l; most = LARGEST_NUMBER }

-- of k `add` actions on one table and column each has a k-th of the range
abbrev pub one_action_numbers : List Action → Action → List ActionNumber
one_action_numbers all (action.Put t k vs) = map in_range k ++ map in_range vs
one_action_numbers all (action.Del t k) = map in_range k
one_action_numbers all (action.Set t k c v) = map in_range k ++ in_range v ∷ []
one_action_numbers all (action.Add t k c v) =
    map in_range k ++ record { value = v; most = LARGEST_NUMBER / count_by (adds_to t c) all } ∷ []

abbrev pub numbers_of : List Action → List Action → List ActionNumber
numbers_of all [] = []
numbers_of all (a ∷ rest) = one_action_numbers all a ++ numbers_of all rest

-- ---- ranges

abbrev pub read_origin : ℕ → At → ℕ → Origin
read_origin k at case =
    record { rule = Ranges; held = None; clause = k + 1; at = Some at; side = Undo; path = 0; case = case }

-- the reads of an undo step, without a path
abbrev pub reads_setting : Design → TxType → Point → Setting
reads_setting d x p =
    record {
      always = d.always;
      clauses = p.clauses;
      locals = length x.locals;
      reads = p.undo.reads;
      earlier = [];
      guard = [];
      actions = [];
    }

abbrev pub setting_numbers : Setting → ℕ → List ReadNumber
setting_numbers s vars = read_numbers s.locals vars (first_now s) (s.locals + 1) 0 s.reads

abbrev pub read_range_in : ℕ → At → Setting → ℕ → ReadNumber → List Draft
read_range_in k at s vars m =
    let rels = step_bounds s m.bounded ++ step_rels s vars in
    if m.asked then goal_drafts (read_origin k at) vars (step_hyps s vars) rels false 1 (within m.value LARGEST_NUMBER) else []

abbrev pub action_range_in : ℕ → Place → Setting → ℕ → ActionNumber → List Draft
action_range_in k w s vars m =
    let value = lin_form (named_lin (after_naming s vars) m.value) in
    goal_drafts (path_origin Ranges None k w) vars (step_hyps s vars) (path_rels s vars) false 1 (within value m.most)

abbrev pub action_range_at : ℕ → ℕ → Place → Setting → List Draft
action_range_at k first w s =
    if nat_lt k first then []
    else of_some (action_range_in k w s (step_vars s)) (slice_get (numbers_of s.actions s.actions) (k - first))

-- the number with place k of a path, which come behind `first` of the reads
abbrev pub path_range_at : Design → ℕ → ℕ → At → TxType → Point → ℕ → Path → List Draft
path_range_at d k first at x p j path =
    action_range_at k first (record { at = at; side = Undo; path = j }) (setting_of d x p p.undo j path)

-- the number with place k: of the reads, or behind those of each path
abbrev pub range_at : Design → ℕ → ℕ → TxType → ℕ → Point → List Draft
range_at d k ty x i p =
    let s : Setting = reads_setting d x p in
    let numbers = setting_numbers s (step_vars s) in
    let at : At = record { ty = ty; point = i } in
    of_some (read_range_in k at s (step_vars s)) (slice_get numbers k)
    ++ each (path_range_at d k (length numbers) at x p) p.undo.paths

-- the numbers of a step: of each read its key's and its value, and of each action its key's and its operands
abbrev pub most_numbers : ℕ
most_numbers = MOST_READS * (MOST_KEY_PARTS + 1) + MOST_ACTIONS * (MOST_KEY_PARTS + MOST_COLUMNS)

abbrev pub range_drafts : Design → List Draft
range_drafts d = each_number 0 most_numbers (λ k. each_point d (range_at d k))
