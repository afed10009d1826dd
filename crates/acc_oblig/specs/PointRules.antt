-- The obligations on begins, on variants and on ends.
use Rattle.std.specs.Prelude.{ℕ, ◌+◌, ◌-◌, Bool, true, false, ◌&&◌, if◌then◌else◌, List, [], ◌∷◌, ◌++◌, length, map, codes, replicate}
use Rattle.std.specs.Prelude.{Option, Some, None, slice_get, pos, negsuc, neg_ℤ}
use Rattle.acc_base.specs.declared.bounds.TheConstants.{MOST_CLAUSES, LARGEST_VARIANT}
use Rattle.acc_base.specs.declared.tables.Table.{Table}
use Rattle.acc_base.specs.declared.forms.Lin.{Lin}
use Rattle.acc_base.specs.declared.forms.Atom.TheVariants as atom
use Rattle.acc_base.specs.declared.forms.Form.{Form}
use Rattle.acc_base.specs.declared.forms.Rel.{Rel}
use Rattle.acc_base.specs.declared.forms.Clause.{Clause}
use Rattle.acc_base.specs.declared.steps.Target.{Target}
use Rattle.acc_base.specs.declared.steps.Target.TheVariants as target
use Rattle.acc_base.specs.declared.steps.Path.{Path}
use Rattle.acc_base.specs.declared.steps.Step.{Step}
use Rattle.acc_base.specs.declared.designs.At.{At}
use Rattle.acc_base.specs.declared.designs.Side.{Side}
use Rattle.acc_base.specs.declared.designs.Side.TheVariants.{Next, Undo}
use Rattle.acc_base.specs.declared.designs.Point.{Point}
use Rattle.acc_base.specs.declared.designs.TxType.{TxType}
use Rattle.acc_base.specs.declared.designs.Design.{Design}
use Rattle.acc_base.specs.declared.sequents.Origin.{Origin}
use Rattle.acc_base.specs.declared.sequents.Rule.TheVariants.{Begins, Variants, Clears}
use Rattle.acc_base.specs.Sums.{form_sum, is_sum_wide}
use Rattle.acc_base.specs.PrivateRows.{type_puts}
use Rattle.acc_base.specs.Items.{numbers_from}
use Rattle.acc_base.specs.Forms.{form, is_zero}
use Rattle.acc_oblig.specs.Naming.{named_lin}
use Rattle.acc_oblig.specs.Relations.{lin_form, negated, plus_number, is_nothing, times, alone}
use Rattle.acc_oblig.specs.Settings.{Setting, first_now, last_now, step_naming, step_vars, step_bounds, step_hyps}
use Rattle.acc_oblig.specs.Drafts.{Draft, Place, each, each_number, each_path, of_some, goal_drafts, clause_drafts, path_origin}
use Rattle.acc_oblig.specs.Drafts.{path_drafts, path_rels, setting_of}
use Rattle.acc_oblig.specs.PathPromises.{point_clauses}

-- ---- a transaction that rests at a point

abbrev pub resting : Design → TxType → List Clause → Setting
resting d x clauses =
    record { always = d.always; clauses = clauses; locals = length x.locals; reads = []; earlier = []; guard = []; actions = [] }

-- ---- begins: a transaction that begins has its start point's assertion

abbrev pub zeros : List ℕ → List Rel
zeros [] = []
zeros (x ∷ xs) = is_nothing x ∷ zeros xs

-- the locals behind the parameters are 0
abbrev pub begin_rels : TxType → Setting → ℕ → List Rel
begin_rels x s vars = step_bounds s 0 ++ zeros (numbers_from x.params (length x.locals - x.params))

abbrev pub begin_origin : ℕ → ℕ → ℕ → Origin
begin_origin k ty case =
    record { rule = Begins; held = None; clause = k + 1; at = Some (record { ty = ty; point = 0 }); side = Next; path = 0; case = case }

abbrev pub begin_at : Design → ℕ → ℕ → TxType → List Draft
begin_at d k ty x =
    let s : Setting = resting d x [] in
    let names = first_now s ++ s.locals ∷ [] in
    let make = clause_drafts (begin_origin k ty) (step_hyps s) (begin_rels x s) (λ vars. []) names (step_vars s) in
    of_some make (slice_get (point_clauses (slice_get x.points 0)) k)

abbrev pub begin_drafts : Design → List Draft
begin_drafts d = each_number 0 MOST_CLAUSES (λ k. each (begin_at d k) d.types)

-- ---- variants: the variant lies from 0 to 65,536, and an undo path to a point makes it fall

abbrev pub rest_origin : ℕ → ℕ → ℕ → ℕ → Origin
rest_origin clause ty point case =
    let at : At = record { ty = ty; point = point } in
    record { rule = Variants; held = None; clause = clause; at = Some at; side = Next; path = 0; case = case }

-- a variant, where the locals have these variables
abbrev pub variant_form : Setting → List ℕ → ℕ → Lin → Form
variant_form s now vars l = lin_form (named_lin (step_naming s now vars) l)

-- in obligations of so many variables
abbrev pub rest_in : ℕ → ℕ → ℕ → Setting → Lin → (Form → Form) → ℕ → List Draft
rest_in clause ty i s variant goal vars =
    goal_drafts (rest_origin clause ty i) vars (step_hyps s vars) (path_rels s vars) false 1
    (goal (variant_form s (first_now s) vars variant) ∷ [])

abbrev pub rest_drafts : ℕ → Design → ℕ → TxType → ℕ → Point → (Form → Form) → List Draft
rest_drafts clause d ty x i p goal =
    rest_in clause ty i (resting d x p.clauses) p.variant goal (step_vars (resting d x p.clauses))

abbrev pub each_point : {U : Type 0} → Design → (ℕ → TxType → ℕ → Point → List U) → List U
each_point d make = each (λ ty x. each (λ i p. make ty x i p) x.points) d.types

-- the variant falls by at least 1; in obligations of so many variables
abbrev pub fall_in : Setting → Place → Lin → Lin → ℕ → List Draft
fall_in s w before behind vars =
    let first = variant_form s (first_now s) vars before in
    let last = variant_form s (last_now s) vars behind in
    goal_drafts (path_origin Variants None 2 w) vars (step_hyps s vars) (path_rels s vars) (is_sum_wide last (negsuc 0) first) 1
    (plus_number (form_sum last (negsuc 0) first) (pos 1) ∷ [])

abbrev pub fall_drafts : Setting → Place → Point → Point → List Draft
fall_drafts s w p q = fall_in s w p.variant q.variant (step_vars s)

abbrev pub point_at : TxType → Target → Option Point
point_at x (target.Point q) = slice_get x.points q
point_at x target.Commit = None
point_at x target.Undone = None
point_at x (target.Refuse n) = None

abbrev pub of_undo : {U : Type 0} → Side → List U → List U
of_undo Next us = []
of_undo Undo us = us

abbrev pub fall_at : Design → Place → TxType → Point → Step → Path → List Draft
fall_at d w x p step path =
    of_undo w.side (of_some (fall_drafts (setting_of d x p step w.path path) w p) (point_at x path.target))

abbrev pub variant_drafts : Design → List Draft
variant_drafts d =
    each_point d (λ ty x i p. rest_drafts 1 d ty x i p negated)
    ++ (each_point d (λ ty x i p. rest_drafts 2 d ty x i p (λ f. plus_number f (neg_ℤ (pos LARGEST_VARIANT)))) ++ each_path d (fall_at d))

-- ---- clears: what has ended leaves no private row that its type puts

abbrev pub is_end : Target → Bool
is_end (target.Point q) = false
is_end target.Commit = true
is_end target.Undone = true
is_end (target.Refuse n) = false

-- no row of the table has a key that ends in `self`, which is variable `me`; the other components are the clause's own variables
abbrev pub none_of : ℕ → ℕ → ℕ → Clause
none_of me t width =
    record {
      vars = replicate (width - 1) (codes "k");
      guards = [];
      rel = is_zero (form (times (pos 1) (atom.Has t (map alone (numbers_from (me + 1) (width - 1)) ++ alone me ∷ [])) ∷ []) (pos 0));
    }

abbrev pub clear_at : Design → ℕ → Table → Place → TxType → Point → Step → Path → List Draft
clear_at d t table w x p step path =
    let s : Setting = setting_of d x p step w.path path in
    let names = last_now s ++ length x.locals ∷ [] in
    if table.own && type_puts t (Some x) && is_end path.target then path_drafts Clears s t w names (none_of (length x.locals) t table.width)
    else []

abbrev pub clear_drafts : Design → List Draft
clear_drafts d = each (λ t table. each_path d (clear_at d t table)) d.tables
