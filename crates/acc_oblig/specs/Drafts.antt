-- How obligations are made: the goals of a clause after actions, and walks over the paths of a design.
use Rattle.std.specs.Prelude.{◌&&◌, ℕ, zero, suc, ◌+◌, Bool, ◌||◌, if◌then◌else◌, List, [], ◌∷◌, ◌++◌, length, map, take, Option, Some}
use Rattle.std.specs.Prelude.{None, pos, negsuc}
use Rattle.std.specs.List.{list_any}
use Rattle.acc_base.specs.declared.forms.Form.{Form}
use Rattle.acc_base.specs.declared.forms.Rel.{Rel}
use Rattle.acc_base.specs.declared.forms.Clause.{Clause}
use Rattle.acc_base.specs.declared.steps.Action.{Action}
use Rattle.acc_base.specs.declared.steps.Path.{Path}
use Rattle.acc_base.specs.declared.steps.Step.{Step}
use Rattle.acc_base.specs.declared.designs.At.{At}
use Rattle.acc_base.specs.declared.designs.Side.{Side}
use Rattle.acc_base.specs.declared.designs.Side.TheVariants.{Next, Undo}
use Rattle.acc_base.specs.declared.designs.Point.{Point}
use Rattle.acc_base.specs.declared.designs.TxType.{TxType}
use Rattle.acc_base.specs.declared.designs.Design.{Design}
use Rattle.acc_base.specs.declared.sequents.Origin.{Origin}
use Rattle.acc_base.specs.declared.sequents.Sequent.{Sequent}
use Rattle.acc_base.specs.declared.sequents.Rule.{Rule}
use Rattle.acc_base.specs.Effects.{step_at}
use Rattle.acc_base.specs.Sums.{form_sum, is_sum_wide}
use Rattle.acc_base.specs.Forms.{form}
use Rattle.acc_preconditions.specs.Preconditions.{wp_of, is_wp_wide}
use Rattle.acc_oblig.specs.Naming.{own_naming, named_rel}
use Rattle.acc_oblig.specs.Settings.{Setting, step_vars, step_bounds, step_rels, step_hyps, path_actions}

-- an obligation as it is made, and whether a number of it is too large
pub record Draft : Type 0 where
  pub sequent : Sequent
  pub wide : Bool

-- ---- walks

-- what is made of each item, which may depend on its number, the first of them having the number i
abbrev pub each_from : {T U : Type 0} → ℕ → (ℕ → T → List U) → List T → List U
each_from i make [] = []
each_from i make (x ∷ xs) = make i x ++ each_from (i + 1) make xs

abbrev pub each : {T U : Type 0} → (ℕ → T → List U) → List T → List U
each make xs = each_from 0 make xs

-- what is made of the item with a number, if there is one
abbrev pub of_some : {T U : Type 0} → (T → List U) → Option T → List U
of_some make None = []
of_some make (Some x) = make x

-- ---- goals

-- a form times -1
abbrev pub opposite : Form → Form
opposite f = form_sum (form [] (pos 0)) (negsuc 0) f

-- a relation as forms that are at most 0
abbrev pub goals_of : Rel → List Form
goals_of r = if r.equal then r.form ∷ opposite r.form ∷ [] else (r.form ∷ [])

-- whether a number of them is too large
abbrev pub are_goals_wide : Rel → Bool
are_goals_wide r = r.equal && is_sum_wide (form [] (pos 0)) (negsuc 0) r.form

-- whether a number of a clause after actions is too large
abbrev pub is_clause_wide : List Action → List Rel → Rel → Bool
is_clause_wide actions guards r =
    is_wp_wide actions r || are_goals_wide (wp_of actions r) || list_any (is_wp_wide actions) guards

-- one obligation a goal, the first with this case
abbrev pub goal_drafts : (ℕ → Origin) → ℕ → List Clause → List Rel → Bool → ℕ → List Form → List Draft
goal_drafts origin vars hyps rels wide case [] = []
goal_drafts origin vars hyps rels wide case (g ∷ gs) =
    record {
      sequent = record { origin = origin case; vars = vars; hyps = hyps; rels = rels; goal = g };
      wide = wide;
    } ∷ goal_drafts origin vars hyps rels wide (case + 1) gs

-- a clause after actions, where its first variables have these names and its own come behind `own` others
abbrev pub clause_drafts : (ℕ → Origin) → (ℕ → List Clause) → (ℕ → List Rel) → (ℕ → List Action) → List ℕ → ℕ → Clause → List Draft
clause_drafts origin hyps rels actions names own c =
    let vars = own + length c.vars in
    let n = own_naming names own (length c.vars) in
    let guards = map (named_rel n) c.guards in
    let r = named_rel n c.rel in
    let before = map (wp_of (actions vars)) guards in
    let wide = is_clause_wide (actions vars) guards r in
    goal_drafts origin vars (hyps vars) (rels vars ++ before) wide 1 (goals_of (wp_of (actions vars) r))

-- ---- the paths of a design

-- the setting of a path of a step
abbrev pub setting_of : Design → TxType → Point → Step → ℕ → Path → Setting
setting_of d x p step j path =
    record {
      always = d.always;
      clauses = p.clauses;
      locals = length x.locals;
      reads = step.reads;
      earlier = take j step.paths;
      guard = path.guard;
      actions = path.actions;
    }

-- a path of a design, with where it stands
pub record Place : Type 0 where
  pub at : At
  pub side : Side
  pub path : ℕ

-- what is made of each path, in order of type, point, side and path
abbrev pub step_paths : {U : Type 0} → (Place → TxType → Point → Step → Path → List U) → At → Side → TxType → Point → Step → List U
step_paths make at side x p step =
    each (λ j path. make (record { at = at; side = side; path = j }) x p step path) step.paths

abbrev pub point_paths : {U : Type 0} → (Place → TxType → Point → Step → Path → List U) → ℕ → TxType → ℕ → Point → List U
point_paths make ty x i p =
    step_paths make (record { ty = ty; point = i }) Next x p (step_at Next p)
    ++ step_paths make (record { ty = ty; point = i }) Undo x p (step_at Undo p)

abbrev pub each_path : {U : Type 0} → Design → (Place → TxType → Point → Step → Path → List U) → List U
each_path d make = each (λ ty x. each (λ i p. point_paths make ty x i p) x.points) d.types

-- so many numbers, one after the other
abbrev pub each_number : {U : Type 0} → ℕ → ℕ → (ℕ → List U) → List U
each_number i zero make = []
each_number i (suc n) make = make i ++ each_number (i + 1) n make

-- where the obligation of a path comes from: its rule, the held point if there is one, its clause's place, the path, and its case
abbrev pub path_origin : Rule → Option At → ℕ → Place → ℕ → Origin
path_origin rule held clause w case =
    record { rule = rule; held = held; clause = clause + 1; at = Some w.at; side = w.side; path = w.path + 1; case = case }

-- the relations of a path's obligation
abbrev pub path_rels : Setting → ℕ → List Rel
path_rels s vars = step_bounds s (length s.reads) ++ step_rels s vars

-- a clause after a path, whose first variables have these names
abbrev pub path_drafts : Rule → Setting → ℕ → Place → List ℕ → Clause → List Draft
path_drafts rule s k w names c =
    clause_drafts (path_origin rule None k w) (step_hyps s) (path_rels s) (path_actions s) names (step_vars s) c
