-- Where the obligations on ranges are true, an undo step stays in range, and its paths share the range.
use Rattle.std.proofs.Common.{◌≡◌, ◌≢◌, ℕ, zero, suc, ◌+◌, ◌-◌, ◌≤◌, ◌<◌, Bool, true, false, if◌then◌else◌, List, [], ◌∷◌, take, length}
use Rattle.std.proofs.Common.{refl, ap, sym, ◌∙◌, subst, arith, Some}
use Rattle.std.specs.Prelude.{slice_get, option_and_then}
use Rattle.std.specs.List.{list_all, AllByRecursion}
use Rattle.std.proofs.lemmas.Bool.{le-ltb}
use Rattle.std.proofs.lemmas.Option.{same_Some, none-some}
use Rattle.std.proofs.lemmas.List.Elements.{recursion_from_All, All-from_recursion}
use Rattle.acc_base.specs.declared.tables.Row.{Row}
use Rattle.acc_base.specs.declared.steps.Target.{Target}
use Rattle.acc_base.specs.declared.steps.Target.TheVariants.{Point as ToPoint, Commit, Undone, Refuse}
use Rattle.acc_base.specs.declared.steps.Path.{Path}
use Rattle.acc_base.specs.declared.steps.Step.{Step}
use Rattle.acc_base.specs.declared.designs.At.{At}
use Rattle.acc_base.specs.declared.designs.TxType.{TxType}
use Rattle.acc_base.specs.declared.designs.Design.{Design}
use Rattle.acc_base.specs.declared.designs.Side.TheVariants.{Undo}
use Rattle.acc_base.specs.declared.machines.Frame.{Frame}
use Rattle.acc_base.specs.Numbers.{IsSmall}
use Rattle.acc_base.specs.Linear.{variables, lin_rel_true}
use Rattle.acc_base.specs.Reads.{Reading, unread, after_reads}
use Rattle.acc_base.specs.Truth.{ClauseTrue}
use Rattle.acc_base.specs.Assertions.{AllTrue, clauses_of}
use Rattle.acc_base.specs.Effects.{Goes, OutOfRange, first_from, taken_path, leads, path_end, path_effect, choice, reads_end, step_effect}
use Rattle.acc_base.specs.Effects.{point_of, step_at, step_of, effect_of}
use Rattle.acc_base.specs.Shapes.{RowFits}
use Rattle.acc_formed.specs.WellFormed.{IsPathFormed, IsWellFormed}
use Rattle.acc_formed.proofs.Open.{some_path_taken}
use Rattle.acc_base.specs.Fits.{IsReady}
use Rattle.acc_base.specs.Soundness.{IsShared, AreShared, actions_of, actions_of_path}
use Rattle.acc_oblig.specs.Settings.{Setting, step_vars}
use Rattle.acc_oblig.specs.Drafts.{Place, each, of_some, setting_of}
use Rattle.acc_oblig.specs.PointRules.{each_point}
use Rattle.acc_oblig.specs.Ranges.{ReadNumber, ActionNumber, one_action_numbers, numbers_of, setting_numbers, read_range_in}
use Rattle.acc_oblig.specs.Ranges.{action_range_in, action_range_at, range_at, range_drafts}
use Rattle.acc_base.proofs.EffectParts.{parts}
use Rattle.acc_base.specs.Items.{numbers_from}
use Rattle.acc_oblig.proofs.Guards.{taken_is}
use Rattle.acc_oblig.proofs.Judged.{DraftTrue}
use Rattle.acc_oblig.proofs.Taken.{IsOn}
use Rattle.acc_oblig.proofs.Listed.{all_front, all_back, each_at, number_at, some_at}
use Rattle.acc_oblig.proofs.OnPath.{all_at, OnPath, FormedPoint, formed_point, FormedStep, formed_step, divisors, looks_below}
use Rattle.acc_oblig.proofs.PathRules.{within}
use Rattle.acc_oblig.proofs.StepPlaces.{HeldAt, held_at, by_places}
use Rattle.acc_oblig.proofs.ReadRanges.{CanRest, NumberTrue, number_true, all_stay, vars_are}
use Rattle.acc_oblig.proofs.ActionRanges.{Stays, actions_stay, actions_shared, number_stays}
use Rattle.acc_oblig.proofs.Counts.{small_tables, few_parts, FewParts, few_of_action, few_numbers, few_action_numbers}

-- the first that passes is there
first_there :
    {X : Type 0} (test : X → Bool) (i : ℕ) (xs : List X) (n : ℕ) → first_from test i xs ≡ Some n
    → (k : ℕ) × (n ≡ i + k) × (x : X) × (slice_get xs k ≡ Some x)
first_there test i [] n h = absurd (none-some n h)
first_there {X} test i (x ∷ xs) n h = by (test x) h (first_there test (i + 1) xs n)
  where
    by :
        (b : Bool) → (if b then Some i else first_from test (i + 1) xs) ≡ Some n
        → (first_from test (i + 1) xs ≡ Some n → (k : ℕ) × (n ≡ i + 1 + k) × (y : X) × (slice_get xs k ≡ Some y))
        → (k : ℕ) × (n ≡ i + k) × (y : X) × (slice_get (x ∷ xs) k ≡ Some y)
    by true g ih = (zero, let s = same_Some i n g in omega (arith, s), x, refl)
    by false g ih = let r = ih g in (suc r.0, let s = r.1 in omega (arith, s), r.2, r.3)

module _ (d : Design) (wf : IsWellFormed d) (db : List Row) (f : Frame) (ready : IsReady d db f)
    (all : AllByRecursion (DraftTrue d) (range_drafts d)) where
  pub at : HeldAt d f
  at = held_at d f ready.frame

  abbrev pub step : Step
  step = at.h.undo

  point_is : point_of d f.ty f.point ≡ Some at.h
  point_is = ap (λ z. option_and_then (λ (y : TxType). slice_get y.points f.point) z) at.is_type ∙ at.is_point

  fp : FormedPoint d f.ty f.point at.x at.h
  fp = formed_point d wf f.ty f.point at.x at.h at.is_type at.is_point

  fs : FormedStep d at.x Undo step
  fs = formed_step d f.ty f.point at.x at.h fp Undo

  shapes : AllByRecursion (RowFits d.tables) db
  shapes = recursion_from_All (RowFits d.tables) db ready.rows.shapes

  can : CanRest d db f at.h.clauses step.reads
  can = record {
    always = recursion_from_All (ClauseTrue db []) d.always ready.always;
    holds =
        recursion_from_All (ClauseTrue db (variables f.t f.locals)) at.h.clauses
        (subst (λ z. AllTrue (clauses_of z) db f.t f.locals) point_is ready.holds);
    small = recursion_from_All IsSmall f.locals at.frame.locals;
    first = at.frame.first;
    number = at.frame.number;
    divisors = divisors d at.x Undo step fs;
    looks = looks_below d at.x Undo step fs db shapes;
  }

  abbrev here : At
  here = record { ty = f.ty; point = f.point }

  abbrev rs : ℕ → Setting
  rs n = record { always = d.always; clauses = at.h.clauses; locals = n; reads = step.reads; earlier = []; guard = []; actions = [] }

  few_reads : AllByRecursion FewParts step.reads
  few_reads =
      recursion_from_All FewParts step.reads (λ k r l. few_parts d (small_tables d wf) _ (fs.formed.reads k r l).widths
      (fs.formed.reads k r l).short_prefix)

  read_count : (n vars : ℕ) → length (setting_numbers (rs n) vars) ≤ 224
  read_count n vars =
      let a = few_numbers n vars (numbers_from 0 n) (n + 1) 0 step.reads few_reads in
      let b = fs.formed.few_reads in
      omega (arith, a, b)

  -- the obligations of the number with place k
  placed : (k : ℕ) → k < 512 → AllByRecursion (DraftTrue d) (range_at d k f.ty at.x f.point at.h)
  placed k l =
      let walk = number_at (DraftTrue d) (λ n. each_point d (range_at d n)) 512 k l all in
      let types = each_at (DraftTrue d) (λ ty x. each (λ i p. range_at d k ty x i p) x.points) d.types f.ty at.x walk at.is_type in
      each_at (DraftTrue d) (λ i p. range_at d k f.ty at.x i p) at.x.points f.point at.h types at.is_point

  numbers_true :
      AllByRecursion (NumberTrue d db ready.rows f at.h.clauses step.reads can)
      (setting_numbers (rs (length f.locals)) (length f.locals + 1 + length step.reads))
  numbers_true =
      by_places (NumberTrue d db ready.rows f at.h.clauses step.reads can)
      (setting_numbers (rs (length f.locals)) (length f.locals + 1 + length step.reads)) one
    where
      one :
          (k : ℕ) (m : ReadNumber) → slice_get (setting_numbers (rs (length f.locals)) (length f.locals + 1 + length step.reads)) k ≡ Some m
          → NumberTrue d db ready.rows f at.h.clauses step.reads can m
      one k m e =
          let l = within (setting_numbers (rs (length f.locals)) (length f.locals + 1 + length step.reads)) k m e in
          let c = read_count (length f.locals) (length f.locals + 1 + length step.reads) in
          let made = all_front (DraftTrue d) (of_some (read_range_in k here (rs (length at.x.locals)) (step_vars (rs (length at.x.locals))))
          (slice_get (setting_numbers (rs (length at.x.locals)) (step_vars (rs (length at.x.locals)))) k)) _
          (placed k (omega (arith, l, c))) in
          let mine = subst (λ n. AllByRecursion (DraftTrue d)
          (of_some (read_range_in k here (rs n) (step_vars (rs n))) (slice_get (setting_numbers (rs n) (step_vars (rs n))) k)))
          (sym at.frame.each) made in
          let drafts = some_at (DraftTrue d) (read_range_in k here (rs (length f.locals)) (step_vars (rs (length f.locals))))
          (slice_get (setting_numbers (rs (length f.locals)) (step_vars (rs (length f.locals)))) k) m e mine in
          number_true d db ready.rows f at.h.clauses step.reads can k here m
          (subst (λ v. AllByRecursion (DraftTrue d) (read_range_in k here (rs (length f.locals)) v m))
          (vars_are d db ready.rows f at.h.clauses step.reads can) drafts)

  reads_go : (last : Reading) × (after_reads db f step.reads (unread f) ≡ Some last)
  reads_go =
      all_stay d db ready.rows f at.h.clauses step.reads can
      (subst (λ v. AllByRecursion (NumberTrue d db ready.rows f at.h.clauses step.reads can) (setting_numbers (rs (length f.locals)) v))
      (vars_are d db ready.rows f at.h.clauses step.reads can) numbers_true)

  -- ---- the numbers of a taken path

  module _ (last : Reading) (reads : after_reads db f step.reads (unread f) ≡ Some last) (j : ℕ) (path : Path)
      (taken : taken_path (variables f.t last.locals) step.paths ≡ Some j) (is_path : slice_get step.paths j ≡ Some path) where
    on : IsOn d db f at.h step last j path
    on = record {
      always = can.always;
      holds = can.holds;
      small = can.small;
      first = can.first;
      number = can.number;
      divisors = can.divisors;
      looks = can.looks;
      reads = reads;
      taken = taken_is (variables f.t last.locals) step.paths j path taken is_path;
    }

    formed : IsPathFormed d.tables at.x Undo fs.bare path
    formed = all_at (IsPathFormed d.tables at.x Undo fs.bare) step.paths j path fs.formed.paths is_path

    action_count : length (numbers_of path.actions path.actions) ≤ 288
    action_count =
        let a = few_action_numbers path.actions path.actions
        (recursion_from_All (λ a. length (one_action_numbers path.actions a) ≤ 18) path.actions
        (λ k r l. few_of_action d (small_tables d wf) path.actions _ (formed.actions k r l).widths)) in
        let b = formed.few in
        omega (arith, a, b)

    abbrev ps : ℕ → Setting
    ps n = record {
      always = d.always;
      clauses = at.h.clauses;
      locals = n;
      reads = step.reads;
      earlier = take j step.paths;
      guard = path.guard;
      actions = path.actions;
    }

    abbrev place : Place
    place = record { at = here; side = Undo; path = j }

    pub stay : AllByRecursion (Stays (variables f.t last.locals)) (numbers_of path.actions path.actions)
    stay = by_places (Stays (variables f.t last.locals)) (numbers_of path.actions path.actions) one
      where
        one : (k : ℕ) (m : ActionNumber) → slice_get (numbers_of path.actions path.actions) k ≡ Some m → Stays (variables f.t last.locals) m
        one k m e =
            let first = length (setting_numbers (rs (length at.x.locals)) (step_vars (rs (length at.x.locals)))) in
            let l = within (numbers_of path.actions path.actions) k m e in
            let c = read_count (length at.x.locals) (step_vars (rs (length at.x.locals))) in
            let b = action_count in
            let made = all_back (DraftTrue d) (of_some
            (read_range_in (first + k) here (rs (length at.x.locals)) (step_vars (rs (length at.x.locals))))
            (slice_get (setting_numbers (rs (length at.x.locals)) (step_vars (rs (length at.x.locals)))) (first + k))) _
            (placed (first + k) (omega (arith, l, c, b))) in
            let paths = each_at (DraftTrue d) (λ i q. action_range_at (first + k) first (record { at = here; side = Undo; path = i })
            (setting_of d at.x at.h step i q)) step.paths j path made is_path in
            let behind = subst (λ t. AllByRecursion (DraftTrue d)
            (if t then [] else of_some (action_range_in (first + k) place (ps (length at.x.locals)) (step_vars (ps (length at.x.locals))))
            (slice_get (numbers_of path.actions path.actions) (first + k - first)))) (le-ltb (first + k) first (omega arith)) paths in
            let n : first + k - first ≡ k = omega arith in
            let drafts = some_at (DraftTrue d) (action_range_in (first + k) place (ps (length at.x.locals))
            (step_vars (ps (length at.x.locals)))) (slice_get (numbers_of path.actions path.actions) (first + k - first)) m
            (ap (slice_get (numbers_of path.actions path.actions)) n ∙ e) behind in
            number_stays d db ready.rows f at.h step last j path on (first + k) place m
            (subst (λ v. AllByRecursion (DraftTrue d) (action_range_in (first + k) place (ps v) (step_vars (ps v)) m)) (sym at.frame.each)
            drafts)

  -- ---- the effect

  pub undo_in_range : effect_of d db f Undo ≢ OutOfRange
  undo_in_range =
      subst (λ o. step_effect db f Undo (option_and_then (λ y. Some (step_at Undo y)) o) ≢ OutOfRange) (sym point_is) reads_end_is
    where
      leads_on : (t : Target) (rows : List Row) (s : Reading) (i : ℕ) → leads t rows s i ≢ OutOfRange
      leads_on (ToPoint q) rows s i e = cc
      leads_on Commit rows s i e = cc
      leads_on Undone rows s i e = cc
      leads_on (Refuse n) rows s i e = cc

      path_on :
          (last : Reading) → after_reads db f step.reads (unread f) ≡ Some last → (j : ℕ) (path : Path)
          → taken_path (variables f.t last.locals) step.paths ≡ Some j → slice_get step.paths j ≡ Some path
          → path_effect db Undo f.t last j (Some path) ≢ OutOfRange
      path_on last r j path t e =
          let go = actions_stay (variables f.t last.locals) path.actions path.actions db (stay last r j path t e) in
          subst (λ o. path_end path.target last j o ≢ OutOfRange) (sym go.1) (leads_on path.target go.0 last j)

      choice_on :
          (last : Reading) → after_reads db f step.reads (unread f) ≡ Some last
          → choice db Undo f.t step.paths last (taken_path (variables f.t last.locals) step.paths) ≢ OutOfRange
      choice_on last r =
          let some = some_path_taken d.tables at.x Undo fs.bare step (variables f.t last.locals) fs.formed fs.range.some in
          let there = first_there (λ (p : Path). list_all (lin_rel_true (variables f.t last.locals)) p.guard) 0 step.paths some.0 some.1 in
          let same : there.0 ≡ some.0 = let s = there.1 in omega (arith, s) in
          let is_path = ap (slice_get step.paths) (sym same) ∙ there.3 in
          subst (λ o. choice db Undo f.t step.paths last o ≢ OutOfRange) (sym some.1)
          (subst (λ o. path_effect db Undo f.t last some.0 o ≢ OutOfRange) (sym is_path) (path_on last r some.0 there.2 some.1 is_path))

      reads_end_is : reads_end db Undo f.t step.paths (after_reads db f step.reads (unread f)) ≢ OutOfRange
      reads_end_is = subst (λ o. reads_end db Undo f.t step.paths o ≢ OutOfRange) (sym reads_go.1) (choice_on reads_go.0 reads_go.1)

  -- of an undo step that goes on or ends, each `add` has its share of the range
  pub undo_shared :
      (after : List Row) (last : Reading) (j : ℕ) (to : Target) → effect_of d db f Undo ≡ Goes after last j to
      → OnPath d db f Undo after last j to → AreShared (variables f.t last.locals) (actions_of (step_of d f.ty f.point Undo) j)
  undo_shared after last j to e o =
      let g = parts after last j to d db f Undo e in
      let step_is : step_of d f.ty f.point Undo ≡ Some step = ap (λ k. option_and_then (λ y. Some (step_at Undo y)) k) point_is in
      let same : g.step ≡ step = same_Some g.step step (sym g.is_step ∙ step_is) in
      let reads = subst (λ (s : Step). after_reads db f s.reads (unread f) ≡ Some last) same g.reads in
      let is_path = subst (λ (s : Step). slice_get s.paths j ≡ Some g.path) same g.is_path in
      let taken = subst (λ (s : Step). taken_path (variables f.t last.locals) s.paths ≡ Some j) same g.choice in
      let shared = actions_shared (variables f.t last.locals) g.path.actions g.path.actions (stay last reads j g.path taken is_path) in
      let actions_are : actions_of (step_of d f.ty f.point Undo) j ≡ g.path.actions = ap (λ k. actions_of k j) step_is
      ∙ ap actions_of_path is_path in
      subst (AreShared (variables f.t last.locals)) (sym actions_are)
      (All-from_recursion (IsShared (variables f.t last.locals) g.path.actions) g.path.actions shared)
