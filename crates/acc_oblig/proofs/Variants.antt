-- Where the obligations on variants are true, a variant lies from 0 to 65,536, and an undo path to a point makes it fall.
use Rattle.std.proofs.Common.{◌≡◌, ◌≢◌, ℕ, ◌+◌, ◌^◌, ◌≤◌, true, false, List, [], ◌∷◌, take, length, refl, ap, sym, ◌∙◌, subst, arith, Some}
use Rattle.std.proofs.Common.{None}
use Rattle.std.proofs.Common.{ℤ, pos, negsuc, neg_ℤ, ◌+ℤ◌, ◌*ℤ◌, ◌<ℤ◌, ◌≤ℤ◌}
use Rattle.std.specs.Prelude.{slice_get, option_and_then}
use Rattle.std.specs.List.{AllByRecursion}
use Rattle.std.proofs.lemmas.Int.{ints}
use Rattle.std.proofs.lemmas.Bool.{ltb-true}
use Rattle.std.proofs.lemmas.List.Elements.{recursion_from_All}
use Rattle.acc_base.specs.declared.tables.Row.{Row}
use Rattle.acc_base.specs.declared.forms.Lin.{Lin}
use Rattle.acc_base.specs.declared.forms.Form.{Form}
use Rattle.acc_base.specs.declared.steps.Target.{Target}
use Rattle.acc_base.specs.declared.steps.Target.TheVariants.{Point as ToPoint, Commit, Undone, Refuse}
use Rattle.acc_base.specs.declared.steps.Path.{Path}
use Rattle.acc_base.specs.declared.steps.Step.{Step}
use Rattle.acc_base.specs.declared.designs.Point.{Point}
use Rattle.acc_base.specs.declared.designs.TxType.{TxType}
use Rattle.acc_base.specs.declared.designs.Design.{Design}
use Rattle.acc_base.specs.declared.designs.Side.TheVariants.{Undo}
use Rattle.acc_base.specs.declared.machines.Frame.{Frame}
use Rattle.acc_base.specs.declared.sequents.Rule.TheVariants as rule
use Rattle.acc_base.specs.Numbers.{IsSmall}
use Rattle.acc_base.specs.Linear.{variables, lin_value}
use Rattle.acc_base.specs.Reads.{Reading, unread}
use Rattle.acc_base.specs.Truth.{form_value, ClauseTrue}
use Rattle.acc_base.specs.Assertions.{AllTrue, clauses_of}
use Rattle.acc_base.specs.Effects.{point_of, step_at}
use Rattle.acc_base.specs.Machine.{moved}
use Rattle.acc_base.specs.Sums.{form_sum, is_sum_wide}
use Rattle.acc_base.proofs.SumLaws.{form_sum-value}
use Rattle.acc_preconditions.proofs.PartValues.{minus_times}
use Rattle.acc_base.specs.Fits.{RowsFit, IsReady}
use Rattle.acc_base.specs.Soundness.{variant_of, variant_at, FallsAt}
use Rattle.acc_oblig.specs.Naming.{named_lin}
use Rattle.acc_oblig.specs.Relations.{negated, plus_number}
use Rattle.acc_oblig.specs.Settings.{Setting, first_now, last_now, step_naming, after_naming, step_vars, step_hyps}
use Rattle.acc_oblig.specs.Drafts.{Place, path_origin, path_rels, setting_of, each}
use Rattle.acc_oblig.specs.PointRules.{rest_in, rest_drafts, each_point, variant_form, rest_origin, fall_in, fall_drafts, fall_at, point_at}
use Rattle.acc_oblig.specs.PointRules.{variant_drafts}
use Rattle.acc_oblig.proofs.Names.{Agrees, lin_named}
use Rattle.acc_oblig.proofs.FormValues.{int_le_holds, lin_form_value, negated_value, plus_value}
use Rattle.acc_oblig.proofs.Carries.{carried, carried_long, self_agrees}
use Rattle.acc_oblig.proofs.Walks.{values_long}
use Rattle.acc_oblig.proofs.Reading.{read_values}
use Rattle.acc_oblig.proofs.Judged.{DraftTrue, GoalTrue, goals_true}
use Rattle.acc_oblig.proofs.Taken.{IsOn, E, vs, setting, here, after_agrees, hyps_true, rels_true}
use Rattle.acc_oblig.proofs.Listed.{all_front, all_back, each_at, some_at, path_at}
use Rattle.acc_oblig.proofs.OnPath.{OnPath}
use Rattle.acc_oblig.proofs.StepPlaces.{HeldAt, held_at, some_point}
use Rattle.acc_formed.specs.Ranges.{target_in}

-- ---- a transaction that rests

abbrev pub rest_path : Path
rest_path = record { guard = []; actions = []; target = Commit }

abbrev pub rest_step : Step
rest_step = record { reads = []; paths = rest_path ∷ [] }

pub record Rests (d : Design) (db : List Row) (f : Frame) (p : Point) : Type 0 where
  pub always : AllByRecursion (ClauseTrue db []) d.always
  pub holds : AllByRecursion (ClauseTrue db (variables f.t f.locals)) p.clauses
  pub small : AllByRecursion IsSmall f.locals
  pub first : 1 ≤ f.t
  pub number : f.t ≤ 2 ^ 45

pub rest_on : (d : Design) (db : List Row) (f : Frame) (p : Point) → Rests d db f p → IsOn d db f p rest_step (unread f) 0 rest_path
rest_on d db f p r = record {
  always = r.always;
  holds = r.holds;
  small = r.small;
  first = r.first;
  number = r.number;
  divisors = tt;
  looks = tt;
  reads = refl;
  taken = record { here = refl; before = tt };
}

pub rest_long :
    (d : Design) (db : List Row) (f : Frame) (p : Point) (r : Rests d db f p)
    → step_vars (setting d db f p rest_step (unread f) 0 rest_path (rest_on d db f p r)) ≡ length
    (E d db f p rest_step (unread f) 0 rest_path (rest_on d db f p r) [])
rest_long d db f p r = let l = carried_long f [] [] in omega (arith, l)

not_empty : rule.Variants ≢ rule.Empty
not_empty h = cc

not_begins : rule.Variants ≢ rule.Begins
not_begins h = cc

module _ (d : Design) (db : List Row) (fit : RowsFit d db) (f : Frame) (p : Point) (r : Rests d db f p) where
  on : IsOn d db f p rest_step (unread f) 0 rest_path
  on = rest_on d db f p r

  abbrev s : Setting
  s = record { always = d.always; clauses = p.clauses; locals = length f.locals; reads = []; earlier = []; guard = []; actions = [] }

  abbrev E' : List ℤ
  E' = carried f [] []

  rest_goal :
      (clause ty i : ℕ) (goal : Form → Form) → AllByRecursion (DraftTrue d) (rest_in clause ty i s p.variant goal (step_vars s))
      → GoalTrue d db E' fit (goal (variant_form s (first_now s) (length E') p.variant))
  rest_goal clause ty i goal h =
      (goals_true d db E' fit (rest_origin clause ty i)
      (λ k. record { empty = λ z. absurd (not_empty z); fresh = λ z. absurd (not_begins z) })
      (length E') refl (step_hyps s (length E')) (hyps_true d db f p rest_step (unread f) 0 rest_path on []) (path_rels s (length E'))
      (rels_true d db f p rest_step (unread f) 0 rest_path on []) false 1 (goal (variant_form s (first_now s) (length E') p.variant) ∷ [])
      (subst (λ vars. AllByRecursion (DraftTrue d) (rest_in clause ty i s p.variant goal vars)) (rest_long d db f p r) h)).0

  variant_worth : form_value db E' (variant_form s (first_now s) (length E') p.variant) ≡ lin_value (variables f.t f.locals) p.variant
  variant_worth =
      lin_form_value db E' (named_lin (step_naming s (first_now s) (length E')) p.variant)
      ∙ lin_named (step_naming s (first_now s) (length E')) E' (variables f.t f.locals)
      (after_agrees d db f p rest_step (unread f) 0 rest_path on []) p.variant

  pub at_least_0 :
      (ty i : ℕ) → AllByRecursion (DraftTrue d) (rest_in 1 ty i s p.variant negated (step_vars s))
      → pos 0 ≤ℤ lin_value (variables f.t f.locals) p.variant
  at_least_0 ty i h =
      let g = int_le_holds (form_value db E' (negated (variant_form s (first_now s) (length E') p.variant))) (pos 0)
      (rest_goal 1 ty i negated h) in
      let v = negated_value db E' (variant_form s (first_now s) (length E') p.variant) in
      let w = variant_worth in
      omega (arith, ints, g, v, w)

  pub at_most_65536 :
      (ty i : ℕ) → AllByRecursion (DraftTrue d) (rest_in 2 ty i s p.variant (λ z. plus_number z (neg_ℤ (pos 65536))) (step_vars s))
      → lin_value (variables f.t f.locals) p.variant ≤ℤ pos 65536
  at_most_65536 ty i h =
      let g = int_le_holds (form_value db E' (plus_number (variant_form s (first_now s) (length E') p.variant) (neg_ℤ (pos 65536)))) (pos 0)
      (rest_goal 2 ty i (λ z. plus_number z (neg_ℤ (pos 65536))) h) in
      let v = plus_value db E' (variant_form s (first_now s) (length E') p.variant) (neg_ℤ (pos 65536)) in
      let w = variant_worth in
      omega (arith, ints, g, v, w)

module _ (d : Design) (db : List Row) (f : Frame) (ready : IsReady d db f) (all : AllByRecursion (DraftTrue d) (variant_drafts d)) where
  at : HeldAt d f
  at = held_at d f ready.frame

  point_is : point_of d f.ty f.point ≡ Some at.h
  point_is = ap (λ z. option_and_then (λ (y : TxType). slice_get y.points f.point) z) at.is_type ∙ at.is_point

  rests : Rests d db f at.h
  rests = record {
    always = recursion_from_All (ClauseTrue db []) d.always ready.always;
    holds =
        recursion_from_All (ClauseTrue db (variables f.t f.locals)) at.h.clauses
        (subst (λ z. AllTrue (clauses_of z) db f.t f.locals) point_is ready.holds);
    small = recursion_from_All IsSmall f.locals at.frame.locals;
    first = at.frame.first;
    number = at.frame.number;
  }

  rest_drafts_at :
      (clause : ℕ) (goal : Form → Form) → AllByRecursion (DraftTrue d) (each_point d (λ ty x i p. rest_drafts clause d ty x i p goal))
      → AllByRecursion (DraftTrue d) (rest_in clause f.ty f.point
      (record { always = d.always; clauses = at.h.clauses; locals = length f.locals; reads = []; earlier = []; guard = []; actions = [] })
      at.h.variant goal (length f.locals + 1 + 0))
  rest_drafts_at clause goal h =
      let types = each_at (DraftTrue d) (λ ty x. each (λ i p. rest_drafts clause d ty x i p goal) x.points) d.types f.ty at.x h at.is_type
      in
      let points = each_at (DraftTrue d) (λ i p. rest_drafts clause d f.ty at.x i p goal) at.x.points f.point at.h types at.is_point in
      subst
      (λ n. AllByRecursion (DraftTrue d) (rest_in clause f.ty f.point
      (record { always = d.always; clauses = at.h.clauses; locals = n; reads = []; earlier = []; guard = []; actions = [] }) at.h.variant
      goal (n + 1 + 0))) (sym at.frame.each) points

  pub variant_bounds : (pos 0 ≤ℤ variant_of d f) × (variant_of d f ≤ℤ pos 65536)
  variant_bounds =
      let first = all_front (DraftTrue d) (each_point d (λ ty x i p. rest_drafts 1 d ty x i p negated)) _ all in
      let rest = all_back (DraftTrue d) (each_point d (λ ty x i p. rest_drafts 1 d ty x i p negated)) _ all in
      let second = all_front (DraftTrue d) (each_point d (λ ty x i p. rest_drafts 2 d ty x i p (λ z. plus_number z (neg_ℤ (pos 65536))))) _
      rest in
      subst (λ o. (pos 0 ≤ℤ variant_at f o) × (variant_at f o ≤ℤ pos 65536)) (sym point_is) (
        at_least_0 d db ready.rows f at.h rests f.ty f.point (rest_drafts_at 1 negated first),
        at_most_65536 d db ready.rows f at.h rests f.ty f.point (rest_drafts_at 2 (λ z. plus_number z (neg_ℤ (pos 65536))) second),
      )

-- ---- an undo path to a point

module _ (d : Design) (db : List Row) (f : Frame) (ready : IsReady d db f) (after : List Row) (last : Reading) (j : ℕ) (to : Target)
    (o : OnPath d db f Undo after last j to) (all : AllByRecursion (DraftTrue d) (variant_drafts d)) where
  abbrev step : Step
  step = step_at Undo o.p

  abbrev z : Setting
  z = record {
    always = d.always;
    clauses = o.p.clauses;
    locals = length f.locals;
    reads = step.reads;
    earlier = take j step.paths;
    guard = o.path.guard;
    actions = o.path.actions;
  }

  abbrev F : List ℤ
  F = E d db f o.p step last j o.path o.on []

  long : step_vars z ≡ length F
  long =
      let l = carried_long f (read_values db f (unread f) step.reads) [] in
      let v = values_long db f step.reads (unread f) in
      omega (arith, l, v)

  first_agrees : Agrees (step_naming z (first_now z) (length F)) F (variables f.t f.locals)
  first_agrees =
      let c = here d db f o.p step last j o.path o.on [] in
      self_agrees f (vs d db f o.p step last j o.path o.on) F (length F + 1) c (first_now z) f.locals c.locals

  falls_by : (l m x y : ℤ) → x ≡ l +ℤ negsuc 0 *ℤ m → y ≡ x +ℤ pos 1 → y ≤ℤ pos 0 → l <ℤ m
  falls_by l m x y e g h = let t = minus_times m in omega (arith, ints, e, g, h, t)

  fall :
      (w : Place) (behind : Lin) → AllByRecursion (DraftTrue d) (fall_in z w o.p.variant behind (step_vars z))
      → lin_value (variables f.t last.locals) behind <ℤ lin_value (variables f.t f.locals) o.p.variant
  fall w behind h =
      let first = variant_form z (first_now z) (length F) o.p.variant in
      let second = variant_form z (last_now z) (length F) behind in
      let goal = goals_true d db F ready.rows (path_origin rule.Variants None 2 w)
      (λ k. record { empty = λ q. absurd (not_empty q); fresh = λ q. absurd (not_begins q) }) (length F) refl (step_hyps z (length F))
      (hyps_true d db f o.p step last j o.path o.on []) (path_rels z (length F)) (rels_true d db f o.p step last j o.path o.on [])
      (is_sum_wide second (negsuc 0) first) 1 (plus_number (form_sum second (negsuc 0) first) (pos 1) ∷ [])
      (subst (λ vars. AllByRecursion (DraftTrue d) (fall_in z w o.p.variant behind vars)) long h) in
      let sum = form_sum-value db F second (negsuc 0) first in
      let one = plus_value db F (form_sum second (negsuc 0) first) (pos 1) in
      let before_is = lin_form_value db F (named_lin (step_naming z (first_now z) (length F)) o.p.variant)
      ∙ lin_named (step_naming z (first_now z) (length F)) F (variables f.t f.locals) first_agrees o.p.variant in
      let behind_is = lin_form_value db F (named_lin (after_naming z (length F)) behind)
      ∙ lin_named (after_naming z (length F)) F (variables f.t last.locals) (after_agrees d db f o.p step last j o.path o.on []) behind in
      falls_by _ _ (form_value db F (form_sum second (negsuc 0) first)) _ (sum ∙ (λ i. behind_is i +ℤ negsuc 0 *ℤ before_is i)) one
      (int_le_holds _ (pos 0) goal.0)

  pub falls : FallsAt d f last to
  falls = subst (λ t. FallsAt d f last t) o.target (by o.path.target refl)
    where
      point_is_of : (i : ℕ) (y : Point) → slice_get o.x.points i ≡ Some y → point_of d f.ty i ≡ Some y
      point_is_of i y g = ap (λ k. option_and_then (λ (v : TxType). slice_get v.points i) k) o.is_type ∙ g

      by : (t : Target) → o.path.target ≡ t → FallsAt d f last t
      by (ToPoint q) e =
          let y = some_point o.x.points q (ltb-true q (length o.x.points)
          (subst (λ t. target_in (length o.x.points) t ≡ true) e o.range.target)) in
          let w : Place = record { at = record { ty = f.ty; point = f.point }; side = Undo; path = j } in
          let rest = all_back (DraftTrue d) (each_point d (λ ty x i p. rest_drafts 2 d ty x i p (λ k. plus_number k (neg_ℤ (pos 65536))))) _
          (all_back (DraftTrue d) (each_point d (λ ty x i p. rest_drafts 1 d ty x i p negated)) _ all) in
          let made = path_at (DraftTrue d) d (fall_at d) rest f.ty f.point o.x o.p Undo j o.path o.is_type o.is_point o.is_path in
          let mine = some_at (DraftTrue d) (fall_drafts (setting_of d o.x o.p step j o.path) w o.p) (point_at o.x o.path.target) y.0
          (ap (point_at o.x) e ∙ y.1) made in
          let here_now = subst (λ n. AllByRecursion (DraftTrue d)
          (fall_drafts
          (record {
            always = d.always;
            clauses = o.p.clauses;
            locals = n;
            reads = step.reads;
            earlier = take j step.paths;
            guard = o.path.guard;
            actions = o.path.actions;
          }) w o.p y.0)) (sym o.each) mine in
          subst (λ k. variant_at (moved Undo f last q) k <ℤ variant_of d f) (sym (point_is_of q y.0 y.1))
          (subst (λ k. lin_value (variables f.t last.locals) y.0.variant <ℤ variant_at f k) (sym (point_is_of f.point o.p o.is_point))
          (fall w y.0.variant here_now))
      by Commit e = tt
      by Undone e = tt
      by (Refuse n) e = tt
