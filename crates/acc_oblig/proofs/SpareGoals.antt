-- Of a path and another transaction: what the obligations on that one's assertion assume is true, and what their goals give.
use Rattle.std.proofs.Common.{◌≡◌, ◌≢◌, ◌⊎◌, inl, inr, ℕ, ◌+◌, ◌^◌, ◌≤◌, ◌<◌, Bool, true, false, List, [], ◌∷◌, ◌++◌, map, length, refl, ap}
use Rattle.std.proofs.Common.{sym, ◌∙◌, subst, arith, Option, ℤ, pos, ◌<ℤ◌, append_assoc}
use Rattle.std.specs.Prelude.{nat_lt, ◌&&◌}
use Rattle.std.specs.List.{list_all, AllByRecursion}
use Rattle.std.proofs.lemmas.Int.{ints}
use Rattle.std.proofs.lemmas.Bool.{and_parts, ltb-true, ltb-false}
use Rattle.std.proofs.lemmas.List.Folds.{list_all-append}
use Rattle.std.proofs.lemmas.List.Elements.{All-from_recursion}
use Rattle.acc_base.specs.declared.tables.Row.{Row}
use Rattle.acc_base.specs.declared.forms.Form.{Form}
use Rattle.acc_base.specs.declared.forms.Rel.{Rel}
use Rattle.acc_base.specs.declared.forms.Clause.{Clause}
use Rattle.acc_base.specs.declared.steps.Path.{Path}
use Rattle.acc_base.specs.declared.steps.Step.{Step}
use Rattle.acc_base.specs.declared.designs.At.{At}
use Rattle.acc_base.specs.declared.designs.Point.{Point}
use Rattle.acc_base.specs.declared.designs.Design.{Design}
use Rattle.acc_base.specs.declared.machines.Frame.{Frame}
use Rattle.acc_base.specs.declared.sequents.Origin.{Origin}
use Rattle.acc_base.specs.declared.sequents.Rule.TheVariants.{Begins, Spares, Empty}
use Rattle.acc_base.specs.Numbers.{IsSmall}
use Rattle.acc_base.specs.Linear.{var, variables}
use Rattle.acc_base.specs.Reads.{Reading}
use Rattle.acc_base.specs.Truth.{rel_true, ClauseTrue}
use Rattle.acc_base.specs.Shapes.{ActionFits}
use Rattle.acc_preconditions.specs.Preconditions.{wp_of}
use Rattle.acc_base.specs.RowsAfter.{rows_after, AreThere}
use Rattle.acc_preconditions.proofs.Alls.{all-append}
use Rattle.acc_base.specs.Fits.{RowsFit}
use Rattle.acc_base.specs.Items.{numbers_from}
use Rattle.acc_oblig.specs.Naming.{own_naming, own_clauses, named_rel}
use Rattle.acc_oblig.specs.Relations.{is_less}
use Rattle.acc_oblig.specs.Settings.{Setting, step_vars, after_naming, frame_bounds, step_bounds, step_rels, step_hyps, path_actions}
use Rattle.acc_oblig.specs.Drafts.{is_clause_wide, Place, goals_of, path_origin}
use Rattle.acc_oblig.specs.Spares.{held_names, ordered_drafts, spare_in, spare_drafts}
use Rattle.acc_oblig.proofs.Names.{Agrees, AgreesBehind, agrees_by, actions_named}
use Rattle.acc_oblig.proofs.FormValues.{is_at_most_bound_true, is_number_true}
use Rattle.acc_oblig.proofs.Extremes.{is_less_true}
use Rattle.acc_oblig.proofs.Carries.{carried, carried_more}
use Rattle.acc_oblig.proofs.Walks.{TrueRel, bounds_true}
use Rattle.acc_oblig.proofs.Shapes.{actions_fit}
use Rattle.acc_oblig.proofs.Judged.{DraftTrue, passes, passes_append, OriginAsks, GoalTrue, goals_give, ClauseFits, rel_after, rels_after}
use Rattle.acc_oblig.proofs.Taken.{IsOn, here, after_agrees, hyps_true, rels_true, there_named, all_named, behind_all}
use Rattle.acc_oblig.proofs.PathClauses.{acting, ws, vars_long}
use Rattle.acc_oblig.proofs.Helds.{F, held_worth, held_locals, held_me, held_own, whole_long}

pub both_pass :
    {X : Type 0} (test : X → Bool) (xs ys : List X) → list_all test (xs ++ ys) ≡ true
    → (list_all test xs ≡ true) × (list_all test ys ≡ true)
both_pass test xs ys h = and_parts (list_all test xs) (list_all test ys) (sym (list_all-append test xs ys) ∙ h)

-- ---- the goals of both orders

module _ (d : Design) (db : List Row) (E' : List ℤ) (fit : RowsFit d db) (origin : ℕ → Origin)
    (asks : (k : ℕ) → OriginAsks d db E' fit (origin k)) (vars : ℕ) (long : length E' ≡ vars) (hyps : List Clause)
    (true_hyps : AllByRecursion (ClauseTrue db E') hyps) (first : List Rel) (lower higher : Rel) (rest : List Rel) (wide : Bool) where
  pub ordered_true :
      (list_all (rel_true db E') (first ++ lower ∷ rest) ≡ true) ⊎ (list_all (rel_true db E') (first ++ higher ∷ rest) ≡ true)
      → (k : ℕ) (gs : List Form) → AllByRecursion (DraftTrue d) (ordered_drafts origin vars hyps first lower higher rest wide k gs)
      → AllByRecursion (GoalTrue d db E' fit) gs
  ordered_true o k [] w = tt
  ordered_true (inl r) k (g ∷ gs) w = (
    w.0 db E' (record { fit = fit; vars = long; empty = (asks k).empty; fresh = (asks k).fresh })
        (All-from_recursion (ClauseTrue db E') hyps true_hyps) r,
    ordered_true (inl r) (k + 2) gs w.1.1,
  )
  ordered_true (inr r) k (g ∷ gs) w = (
    w.1.0 db E' (record { fit = fit; vars = long; empty = (asks (k + 1)).empty; fresh = (asks (k + 1)).fresh })
        (All-from_recursion (ClauseTrue db E') hyps true_hyps) r,
    ordered_true (inr r) (k + 2) gs w.1.1,
  )

module _ (d : Design) (db : List Row) (fit : RowsFit d db) (f : Frame) (p : Point) (step : Step) (last : Reading) (j : ℕ) (path : Path)
    (on : IsOn d db f p step last j path) (acts_fit : AllByRecursion (ActionFits d.tables) path.actions)
    (there : AreThere (variables f.t last.locals) path.actions db) (after : List Row)
    (left : rows_after (variables f.t last.locals) path.actions db ≡ after) where
  abbrev s : Setting
  s = acting d db fit f p step last j path on path.actions

  abbrev vals : List ℤ
  vals = ws d db fit f p step last j path on

  pub base_long : length f.locals + 1 + length vals ≡ step_vars s
  base_long = vars_long d db fit f p step last j path on

  module _ (g : Frame) (clauses : List Clause) (holds : AllByRecursion (ClauseTrue db (variables g.t g.locals)) clauses)
      (small : AllByRecursion IsSmall g.locals) (one : 1 ≤ g.t) (number : g.t ≤ 2 ^ 45) (other : g.t ≢ f.t) where
    module _ (own : List ℤ) where
      abbrev F' : List ℤ
      F' = F f vals g own (step_vars s) base_long

      abbrev m : ℕ
      m = length g.locals

      held_names_worth : map (var F') (held_names s m) ≡ variables g.t g.locals
      held_names_worth = held_worth f vals g own (step_vars s) base_long

      held_behind : AgreesBehind (held_names s m) (length F') F' (variables g.t g.locals)
      held_behind more =
          behind_all (held_names s m) F' (variables g.t g.locals) more
          (subst (λ z. map (var z) (held_names s m) ≡ variables g.t g.locals) same
          (held_worth f vals g (own ++ more) (step_vars s) base_long))
        where
          same : carried f vals (variables g.t g.locals ++ (own ++ more)) ≡ F' ++ more
          same =
              ap (carried f vals) (sym (append_assoc (variables g.t g.locals) own more))
              ∙ sym (carried_more f vals (variables g.t g.locals ++ own) more)

      spare_hyps : AllByRecursion (ClauseTrue db F') (step_hyps s (length F') ++ own_clauses (held_names s m) (length F') clauses)
      spare_hyps =
          all-append (ClauseTrue db F') _ _ (hyps_true d db f p step last j path on (variables g.t g.locals ++ own))
          (all_named (held_names s m) (length F') F' (variables g.t g.locals) held_behind db clauses holds)

      me_is : var F' (step_vars s + m) ≡ pos g.t
      me_is = held_me f vals g own (step_vars s) base_long

      step_me_is : var F' (length f.locals) ≡ pos f.t
      step_me_is = (here d db f p step last j path on (variables g.t g.locals ++ own)).me

      held_bounds : AllByRecursion (TrueRel db F') (frame_bounds (step_vars s) m (step_vars s + m))
      held_bounds =
          all-append (TrueRel db F') _ _ (bounds_true db F' (numbers_from (step_vars s) m)
          (subst (AllByRecursion IsSmall) (sym (held_locals f vals g own (step_vars s) base_long)) small)) (
            is_at_most_bound_true db F' (step_vars s + m) (subst IsSmall (sym me_is) number),
            (is_number_true db F' (step_vars s + m) g.t me_is one, tt),
          )

      abbrev first_rels : List Rel
      first_rels = (step_bounds s (length s.reads) ++ frame_bounds (step_vars s) m (step_vars s + m)) ++ step_rels s (length F')

      first_true : list_all (rel_true db F') first_rels ≡ true
      first_true =
          let both = both_pass (rel_true db F') (step_bounds s (length s.reads)) (step_rels s (length F'))
          (rels_true d db f p step last j path on (variables g.t g.locals ++ own)) in
          passes_append (rel_true db F') (step_bounds s (length s.reads) ++ frame_bounds (step_vars s) m (step_vars s + m))
          (step_rels s (length F')) (passes_append (rel_true db F') (step_bounds s (length s.reads))
          (frame_bounds (step_vars s) m (step_vars s + m)) both.0 (passes (rel_true db F') _ held_bounds)) both.1

      order_true :
          (rest : List Rel) → list_all (rel_true db F') rest ≡ true
          → (list_all (rel_true db F') (first_rels ++ is_less (step_vars s + m) s.locals ∷ rest) ≡ true)
          ⊎ (list_all (rel_true db F') (first_rels ++ is_less s.locals (step_vars s + m) ∷ rest) ≡ true)
      order_true rest h = by (apart g.t f.t other)
        where
          apart : (x y : ℕ) → x ≢ y → (x < y) ⊎ (y < x)
          apart x y n = split (nat_lt x y) refl
            where
              split : (b : Bool) → nat_lt x y ≡ b → (x < y) ⊎ (y < x)
              split true t = inl (ltb-true x y t)
              split false t = let l = ltb-false x y t in inr (omega (arith, l, n))

          lower : (x y : ℕ) (v w : ℤ) → v ≡ pos x → w ≡ pos y → x < y → v <ℤ w
          lower x y v w a b l = omega (arith, ints, a, b, l)

          by :
              (g.t < f.t) ⊎ (f.t < g.t) → (list_all (rel_true db F') (first_rels ++ is_less (step_vars s + m) s.locals ∷ rest) ≡ true)
              ⊎ (list_all (rel_true db F') (first_rels ++ is_less s.locals (step_vars s + m) ∷ rest) ≡ true)
          by (inl l) =
              inl (passes_append (rel_true db F') first_rels (is_less (step_vars s + m) s.locals ∷ rest) first_true
              (λ i. is_less_true db F' (step_vars s + m) s.locals (lower g.t f.t _ _ me_is step_me_is l) i && h i))
          by (inr l) =
              inr (passes_append (rel_true db F') first_rels (is_less s.locals (step_vars s + m) ∷ rest) first_true
              (λ i. is_less_true db F' s.locals (step_vars s + m) (lower f.t g.t _ _ step_me_is me_is l) i && h i))

    -- a clause of the held point is true after the path, where the relations on the entry's pairs are true
    pub spare_clause :
        (held : Option At) (k : ℕ) (w : Place) (pairs : List Rel) → ((own : List ℤ) → list_all (rel_true db (F' own)) pairs ≡ true)
        → (c : Clause) → ClauseFits d.tables c → AllByRecursion (DraftTrue d)
        (spare_drafts (path_origin Spares held k w) s clauses (length g.locals) pairs c) → ClauseTrue after (variables g.t g.locals) c
    spare_clause held k w pairs pairs_true c fits drafts own own_long guards =
        let n = own_naming (held_names s (length g.locals)) (step_vars s + (length g.locals + 1)) (length c.vars) in
        let acts = path_actions s (length (F' own)) in
        let step_agree = after_agrees d db f p step last j path on (variables g.t g.locals ++ own) in
        let acts_here = actions_fit d.tables (after_naming s (length (F' own))) path.actions acts_fit in
        let there_here = there_named (after_naming s (length (F' own))) (F' own) (variables f.t last.locals) step_agree path.actions db
        there in
        let leaves_here = actions_named (after_naming s (length (F' own))) (F' own) (variables f.t last.locals) step_agree path.actions db
        ∙ left in
        let agree = subst (λ k. Agrees (own_naming (held_names s (length g.locals)) (step_vars s + (length g.locals + 1)) k) (F' own)
        (variables g.t g.locals ++ own)) own_long
        (agrees_by (held_names s (length g.locals)) (step_vars s + (length g.locals + 1)) (F' own) (variables g.t g.locals) own
        (held_names_worth own) (held_own f vals g own (step_vars s) base_long)) in
        let after_guards = rels_after d db fit (F' own) acts acts_here there_here n (variables g.t g.locals ++ own) agree after leaves_here
        c.guards fits.guards in
        let rest = passes_append (rel_true db (F' own)) pairs (map (wp_of acts) (map (named_rel n) c.guards)) (pairs_true own)
        (after_guards ∙ guards) in
        let goals = ordered_true d db (F' own) fit (path_origin Spares held k w)
        (λ q. record { empty = λ h. absurd (not_empty h); fresh = λ h. absurd (not_begins h) }) (length (F' own)) refl _ (spare_hyps own)
        (first_rels own) (is_less (step_vars s + length g.locals) s.locals) (is_less s.locals (step_vars s + length g.locals))
        (pairs ++ map (wp_of acts) (map (named_rel n) c.guards)) (is_clause_wide acts (map (named_rel n) c.guards) (named_rel n c.rel))
        (order_true own (pairs ++ map (wp_of acts) (map (named_rel n) c.guards)) rest) 1 (goals_of (wp_of acts (named_rel n c.rel)))
        here_drafts in
        sym (rel_after d db fit (F' own) acts acts_here there_here n (variables g.t g.locals ++ own) agree after leaves_here c.rel fits.rel)
        ∙ goals_give d db (F' own) fit (wp_of acts (named_rel n c.rel)) goals
      where
        not_empty : Spares ≢ Empty
        not_empty h = cc

        not_begins : Spares ≢ Begins
        not_begins h = cc

        vars_are : step_vars s + (length g.locals + 1) + length c.vars ≡ length (F' own)
        vars_are = let l = whole_long f vals g own (step_vars s) base_long in omega (arith, l, own_long)

        here_drafts : AllByRecursion (DraftTrue d)
            (spare_in (path_origin Spares held k w) s clauses (length g.locals) pairs c (length (F' own)))
        here_drafts =
            subst (λ vars. AllByRecursion (DraftTrue d) (spare_in (path_origin Spares held k w) s clauses (length g.locals) pairs c vars))
            vars_are drafts
