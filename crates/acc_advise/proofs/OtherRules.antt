-- The obligations of the other rules don't spare a held point.
use Rattle.std.proofs.Common.{ℕ, zero, suc, ◌+◌, Bool, true, false, List, [], ◌∷◌, ◌++◌, length, map, Option, Some, None}
use Rattle.std.specs.Prelude.{◌≢◌, ◌-◌, ◌&&◌, slice_get, take, if◌then◌else◌, nat_lt, pos, neg_ℤ}
use Rattle.std.specs.List.{AllByRecursion}
use Rattle.acc_base.specs.declared.bounds.TheConstants.{MOST_CLAUSES, MOST_ACTIONS, LARGEST_VARIANT, LARGEST_NUMBER}
use Rattle.acc_base.specs.declared.forms.Lin.{Lin}
use Rattle.acc_base.specs.declared.forms.Form.{Form}
use Rattle.acc_base.specs.declared.forms.Rel.{Rel}
use Rattle.acc_base.specs.declared.forms.Clause.{Clause}
use Rattle.acc_base.specs.declared.steps.Action.{Action}
use Rattle.acc_base.specs.declared.designs.At.{At}
use Rattle.acc_base.specs.declared.designs.Side.{Side}
use Rattle.acc_base.specs.declared.designs.Side.TheVariants.{Next, Undo}
use Rattle.acc_base.specs.declared.designs.Point.{Point}
use Rattle.acc_base.specs.declared.designs.TxType.{TxType}
use Rattle.acc_base.specs.declared.designs.Design.{Design}
use Rattle.acc_base.specs.declared.sequents.Origin.{Origin}
use Rattle.acc_base.specs.declared.sequents.Rule.{Rule}
use Rattle.acc_base.specs.declared.sequents.Rule.TheVariants.{Promises, Always, Spares, There, Clears}
use Rattle.acc_base.specs.Effects.{step_at}
use Rattle.acc_base.specs.PrivateRows.{type_puts}
use Rattle.acc_preconditions.specs.Preconditions.{wp_of}
use Rattle.acc_preconditions.proofs.Alls.{all-append}
use Rattle.acc_oblig.specs.Naming.{own_naming, named_rel}
use Rattle.acc_oblig.specs.Relations.{negated, plus_number}
use Rattle.acc_oblig.specs.Settings.{Setting, first_now, last_now, step_vars, step_bounds, step_rels, step_hyps, path_actions}
use Rattle.acc_oblig.specs.Drafts.{Draft, Place, is_clause_wide, goals_of, goal_drafts, clause_drafts, path_drafts, path_rels, path_origin, setting_of}
use Rattle.acc_oblig.specs.Drafts.{each, each_number, each_path, of_some}
use Rattle.acc_oblig.specs.PathPromises.{point_clauses, promised, promise_at, promise_drafts, clause_names, always_at, always_drafts}
use Rattle.acc_oblig.specs.PathPromises.{changed_row, row_there, there_at, there_drafts, empty_origin, empty_drafts}
use Rattle.acc_oblig.specs.PointRules.{resting, begin_rels, begin_origin, begin_at, begin_drafts, rest_drafts, each_point, fall_drafts, point_at, of_undo}
use Rattle.acc_oblig.specs.PointRules.{fall_at, variant_drafts, is_end, none_of, clear_at, clear_drafts}
use Rattle.acc_oblig.specs.Ranges.{ReadNumber, numbers_of, within, read_origin, reads_setting, setting_numbers, read_range_in}
use Rattle.acc_oblig.specs.Ranges.{action_range_in, action_range_at, path_range_at, range_at, most_numbers, range_drafts}
use Rattle.acc_advise.proofs.Owning.{all_each, all_paths, all_if}

-- the obligation is of another rule
abbrev pub IsOther : Draft → Type 0
IsOther x = x.sequent.origin.rule ≢ Spares

-- ---- walks

module _ {U : Type 0} (P : U → Type 0) where
  all_numbers : (make : ℕ → List U) (i n : ℕ) → ((k : ℕ) → AllByRecursion P (make k)) → AllByRecursion P (each_number i n make)
  all_numbers make i zero h = tt
  all_numbers make i (suc n) h = all-append P (make i) (each_number (i + 1) n make) (h i) (all_numbers make (i + 1) n h)

  all_some : {T : Type 0} (make : T → List U) (o : Option T) → ((x : T) → AllByRecursion P (make x)) → AllByRecursion P (of_some make o)
  all_some make None h = tt
  all_some make (Some x) h = h x

  all_else : (b : Bool) (xs : List U) → AllByRecursion P xs → AllByRecursion P (if b then [] else xs)
  all_else true xs h = tt
  all_else false xs h = h

  all_undo : (side : Side) (xs : List U) → AllByRecursion P xs → AllByRecursion P (of_undo side xs)
  all_undo Next xs h = tt
  all_undo Undo xs h = h

  all_points :
      (d : Design) (make : ℕ → TxType → ℕ → Point → List U) → ((ty : ℕ) (x : TxType) (i : ℕ) (p : Point) → AllByRecursion P (make ty x i p))
      → AllByRecursion P (each_point d make)
  all_points d make h =
      all_each P (λ ty x. each (λ i p. make ty x i p) x.points) d.types (λ ty x a.
      all_each P (λ i p. make ty x i p) x.points (λ i p b. h ty x i p))

-- ---- goals

all_goals :
    (origin : ℕ → Origin) (vars : ℕ) (hyps : List Clause) (rels : List Rel) (wide : Bool) (case : ℕ) (gs : List Form)
    → ((n : ℕ) → (origin n).rule ≢ Spares) → AllByRecursion IsOther (goal_drafts origin vars hyps rels wide case gs)
all_goals origin vars hyps rels wide case [] h = tt
all_goals origin vars hyps rels wide case (g ∷ gs) h = (h case, all_goals origin vars hyps rels wide (case + 1) gs h)

all_clause :
    (origin : ℕ → Origin) (hyps : ℕ → List Clause) (rels : ℕ → List Rel) (actions : ℕ → List Action) (names : List ℕ) (own : ℕ) (c : Clause)
    → ((n : ℕ) → (origin n).rule ≢ Spares) → AllByRecursion IsOther (clause_drafts origin hyps rels actions names own c)
all_clause origin hyps rels actions names own c h =
    let vars = own + length c.vars in
    let n = own_naming names own (length c.vars) in
    let guards = map (named_rel n) c.guards in
    let r = named_rel n c.rel in
    all_goals origin vars (hyps vars) (rels vars ++ map (wp_of (actions vars)) guards) (is_clause_wide (actions vars) guards r) 1
    (goals_of (wp_of (actions vars) r)) h

all_path_clause :
    (rule : Rule) (s : Setting) (k : ℕ) (w : Place) (names : List ℕ) (c : Clause) → rule ≢ Spares
    → AllByRecursion IsOther (path_drafts rule s k w names c)
all_path_clause rule s k w names c h =
    all_clause (path_origin rule None k w) (step_hyps s) (path_rels s) (path_actions s) names (step_vars s) c (λ n. h)

-- ---- rule by rule

pub others_begin : (d : Design) → AllByRecursion IsOther (begin_drafts d)
others_begin d =
    all_numbers IsOther (λ k. each (begin_at d k) d.types) 0 MOST_CLAUSES (λ k. all_each IsOther (begin_at d k) d.types (λ ty x a.
    let s : Setting = resting d x [] in
    let names = first_now s ++ s.locals ∷ [] in
    let make = clause_drafts (begin_origin k ty) (step_hyps s) (begin_rels x s) (λ vars. []) names (step_vars s) in
    all_some IsOther make (slice_get (point_clauses (slice_get x.points 0)) k)
    (λ c. all_clause (begin_origin k ty) (step_hyps s) (begin_rels x s) (λ vars. []) names (step_vars s) c (λ n e. cc))))

pub others_promise : (d : Design) → AllByRecursion IsOther (promise_drafts d)
others_promise d =
    all_numbers IsOther (λ k. each_path d (promise_at d k)) 0 MOST_CLAUSES (λ k. all_paths IsOther d (promise_at d k) (λ w x p path a b e.
    let s : Setting = setting_of d x p (step_at w.side p) w.path path in
    let names = last_now s ++ s.locals ∷ [] in
    all_some IsOther (path_drafts Promises s k w names) (slice_get (promised x path.target) k)
    (λ c. all_path_clause Promises s k w names c (λ e. cc))))

pub others_always : (d : Design) → AllByRecursion IsOther (always_drafts d)
others_always d =
    all_each IsOther (λ k c. each_path d (always_at d k c)) d.always (λ k c g. all_paths IsOther d (always_at d k c) (λ w x p path a b e.
    let s : Setting = setting_of d x p (step_at w.side p) w.path path in
    all_if IsOther (clause_names path.actions c) (path_drafts Always s k w [] c) (all_path_clause Always s k w [] c (λ e. cc))))

pub others_there : (d : Design) → AllByRecursion IsOther (there_drafts d)
others_there d =
    all_numbers IsOther (λ k. each_path d (there_at d k)) 0 MOST_ACTIONS (λ k. all_paths IsOther d (there_at d k) (λ w x p path a b e.
    let s : Setting = record (setting_of d x p (step_at w.side p) w.path path) { actions = take k path.actions } in
    let names = last_now s ++ s.locals ∷ [] in
    let there = λ (r : ℕ × List Lin). path_drafts There s k w names (row_there r) in
    all_some IsOther (λ (t : Action). of_some there (changed_row t)) (slice_get path.actions k)
    (λ t. all_some IsOther there (changed_row t) (λ r. all_path_clause There s k w names (row_there r) (λ e. cc)))))

others_actions : (k first : ℕ) (w : Place) (s : Setting) → AllByRecursion IsOther (action_range_at k first w s)
others_actions k first w s =
    let vars = step_vars s in
    all_else IsOther (nat_lt k first) (of_some (action_range_in k w s vars) (slice_get (numbers_of s.actions s.actions) (k - first)))
    (all_some IsOther (action_range_in k w s vars) (slice_get (numbers_of s.actions s.actions) (k - first)) (λ m. ((λ e. cc), ((λ e. cc), tt))))

others_reads : (k : ℕ) (at : At) (s : Setting) (vars : ℕ) (m : ReadNumber) → AllByRecursion IsOther (read_range_in k at s vars m)
others_reads k at s vars m =
    let rels = step_bounds s m.bounded ++ step_rels s vars in
    all_if IsOther m.asked (goal_drafts (read_origin k at) vars (step_hyps s vars) rels false 1 (within m.value LARGEST_NUMBER))
    ((λ e. cc), ((λ e. cc), tt))

pub others_ranges : (d : Design) → AllByRecursion IsOther (range_drafts d)
others_ranges d =
    all_numbers IsOther (λ k. each_point d (range_at d k)) 0 most_numbers (λ k. all_points IsOther d (range_at d k) (λ ty x i p.
    let s : Setting = reads_setting d x p in
    let numbers = setting_numbers s (step_vars s) in
    let at : At = record { ty = ty; point = i } in
    all-append IsOther (of_some (read_range_in k at s (step_vars s)) (slice_get numbers k))
    (each (path_range_at d k (length numbers) at x p) p.undo.paths)
    (all_some IsOther (read_range_in k at s (step_vars s)) (slice_get numbers k) (others_reads k at s (step_vars s)))
    (all_each IsOther (path_range_at d k (length numbers) at x p) p.undo.paths (λ j path g.
    others_actions k (length numbers) (record { at = at; side = Undo; path = j }) (setting_of d x p p.undo j path)))))

pub others_variants : (d : Design) → AllByRecursion IsOther (variant_drafts d)
others_variants d =
    let low = λ (ty : ℕ) (x : TxType) (i : ℕ) (p : Point). rest_drafts 1 d ty x i p negated in
    let high = λ (ty : ℕ) (x : TxType) (i : ℕ) (p : Point). rest_drafts 2 d ty x i p (λ f. plus_number f (neg_ℤ (pos LARGEST_VARIANT))) in
    all-append IsOther (each_point d low) (each_point d high ++ each_path d (fall_at d))
    (all_points IsOther d low (λ ty x i p. ((λ e. cc), tt)))
    (all-append IsOther (each_point d high) (each_path d (fall_at d)) (all_points IsOther d high (λ ty x i p. ((λ e. cc), tt)))
    (all_paths IsOther d (fall_at d) (λ w x p path a b e.
    let falls = fall_drafts (setting_of d x p (step_at w.side p) w.path path) w p in
    all_undo IsOther w.side (of_some falls (point_at x path.target)) (all_some IsOther falls (point_at x path.target) (λ q. ((λ e. cc), tt))))))

pub others_clear : (d : Design) → AllByRecursion IsOther (clear_drafts d)
others_clear d =
    all_each IsOther (λ t table. each_path d (clear_at d t table)) d.tables (λ t table g.
    all_paths IsOther d (clear_at d t table) (λ w x p path a b e.
    let s : Setting = setting_of d x p (step_at w.side p) w.path path in
    let names = last_now s ++ length x.locals ∷ [] in
    let none = none_of (length x.locals) t table.width in
    all_if IsOther (table.own && type_puts t (Some x) && is_end path.target) (path_drafts Clears s t w names none)
    (all_path_clause Clears s t w names none (λ e. cc))))

pub others_empty : (d : Design) → AllByRecursion IsOther (empty_drafts d)
others_empty d =
    all_each IsOther (λ k c. clause_drafts (empty_origin k) (λ vars. []) (λ vars. []) (λ vars. []) [] 0 c) d.always (λ k c g.
    all_clause (empty_origin k) (λ vars. []) (λ vars. []) (λ vars. []) [] 0 c (λ n e. cc))
