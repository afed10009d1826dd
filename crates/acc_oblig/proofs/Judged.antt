-- What true obligations say of a clause after actions.
use Rattle.std.proofs.Common.{subst, negsuc, ◌≡◌, ℕ, ◌+◌, Bool, true, false, if◌then◌else◌, List, [], ◌∷◌, ◌++◌, map, length, refl, ap, sym}
use Rattle.std.proofs.Common.{◌∙◌, arith, ℤ, pos, neg_ℤ}
use Rattle.std.specs.Prelude.{int_le, ◌&&◌}
use Rattle.std.specs.List.{list_all, AllByRecursion}
use Rattle.std.proofs.lemmas.Int.{ints}
use Rattle.std.proofs.lemmas.List.Elements.{All-from_recursion}
use Rattle.acc_base.specs.declared.tables.Table.{Table}
use Rattle.acc_base.specs.declared.tables.Row.{Row}
use Rattle.acc_base.specs.declared.forms.Form.{Form}
use Rattle.acc_base.specs.declared.forms.Rel.{Rel}
use Rattle.acc_base.specs.declared.forms.Clause.{Clause}
use Rattle.acc_base.specs.declared.steps.Action.{Action}
use Rattle.acc_base.specs.declared.designs.Design.{Design}
use Rattle.acc_base.specs.declared.sequents.Origin.{Origin}
use Rattle.acc_base.specs.declared.sequents.Rule.TheVariants.{Begins, Empty}
use Rattle.acc_base.specs.Sums.{Term}
use Rattle.acc_base.specs.Linear.{meets}
use Rattle.acc_base.specs.Truth.{form_value, rel_true, ClauseTrue}
use Rattle.acc_base.specs.Shapes.{ActionFits, AtomFits}
use Rattle.acc_preconditions.specs.Preconditions.{wp_of}
use Rattle.acc_base.specs.RowsAfter.{rows_after, AreThere}
use Rattle.acc_base.proofs.SumLaws.{form_sum-value}
use Rattle.acc_preconditions.proofs.PartValues.{minus_times}
use Rattle.acc_preconditions.proofs.LawTurns.{wp_is_weakest}
use Rattle.acc_base.specs.Fits.{RowsFit}
use Rattle.acc_oblig.specs.declared.naming.Naming.{Naming}
use Rattle.acc_oblig.specs.Naming.{own_naming, named_rel}
use Rattle.acc_oblig.specs.Drafts.{opposite, is_clause_wide, Draft, goals_of, goal_drafts, clause_drafts}
use Rattle.acc_base.specs.TrueSequents.{NoneOwned, SequentTrue}
use Rattle.acc_base.specs.Forms.{form}
use Rattle.acc_oblig.proofs.Names.{Agrees, rel_named}
use Rattle.acc_oblig.proofs.FormValues.{zero_meets, int_le_holds}
use Rattle.acc_oblig.proofs.Shapes.{terms_fit}

abbrev pub DraftTrue : Design → Draft → Type 0
DraftTrue d x = SequentTrue d x.sequent

-- a list of tests that pass
pub passes : {X : Type 0} (test : X → Bool) (xs : List X) → AllByRecursion (λ x. test x ≡ true) xs → list_all test xs ≡ true
passes test [] h = refl
passes test (x ∷ xs) h = λ i. h.0 i && passes test xs h.1 i

pub passes_append :
    {X : Type 0} (test : X → Bool) (xs ys : List X) → list_all test xs ≡ true → list_all test ys ≡ true → list_all test (xs ++ ys) ≡ true
passes_append test [] ys h g = g
passes_append test (x ∷ xs) ys h g = by (test x) h (λ k. passes_append test xs ys k g)
  where
    by :
        (b : Bool) → (b && list_all test xs) ≡ true → (list_all test xs ≡ true → list_all test (xs ++ ys) ≡ true)
        → (b && list_all test (xs ++ ys)) ≡ true
    by true k ih = ih k
    by false k ih = k

module _ (d : Design) (db : List Row) (E : List ℤ) (fit : RowsFit d db) where
  -- what an origin asks of the rows besides
  pub record OriginAsks (o : Origin) : Type 0 where
    pub empty : o.rule ≡ Empty → db ≡ []
    pub fresh : o.rule ≡ Begins → NoneOwned d db E o.at

  -- ---- goals

  abbrev pub GoalTrue : Form → Type 0
  GoalTrue g = int_le (form_value db E g) (pos 0) ≡ true

  pub goals_true :
      (origin : ℕ → Origin) → ((k : ℕ) → OriginAsks (origin k)) → (vars : ℕ) → length E ≡ vars → (hyps : List Clause)
      → AllByRecursion (ClauseTrue db E) hyps → (rels : List Rel) → list_all (rel_true db E) rels ≡ true
      → (wide : Bool) (k : ℕ) (gs : List Form) → AllByRecursion (DraftTrue d) (goal_drafts origin vars hyps rels wide k gs)
      → AllByRecursion GoalTrue gs
  goals_true origin asks vars long hyps h rels g wide k [] w = tt
  goals_true origin asks vars long hyps h rels g wide k (f ∷ fs) w = (
    w.0 db E (record { fit = fit; vars = long; empty = (asks k).empty; fresh = (asks k).fresh })
        (All-from_recursion (ClauseTrue db E) hyps h) g,
    goals_true origin asks vars long hyps h rels g wide (k + 1) fs w.1,
  )

  both_sides : (x y : ℤ) → y ≡ neg_ℤ x → int_le x (pos 0) ≡ true → int_le y (pos 0) ≡ true → x ≡ pos 0
  both_sides x y e h g =
      let a = int_le_holds x (pos 0) h in
      let b = int_le_holds y (pos 0) g in
      omega (arith, ints, a, b, e)

  opposite_value : (f : Form) → form_value db E (opposite f) ≡ neg_ℤ (form_value db E f)
  opposite_value f =
      let h = form_sum-value db E (form [] (pos 0)) (negsuc 0) f in
      let m = minus_times (form_value db E f) in
      omega (arith, ints, h, m)

  -- where all goals of a relation are at most 0, it is true
  pub goals_give : (r : Rel) → AllByRecursion GoalTrue (goals_of r) → rel_true db E r ≡ true
  goals_give r h = by r.equal h
    where
      by :
          (b : Bool) → AllByRecursion GoalTrue (if b then r.form ∷ opposite r.form ∷ [] else (r.form ∷ []))
          → meets b (form_value db E r.form) ≡ true
      by true g =
          zero_meets (form_value db E r.form) (both_sides (form_value db E r.form) (form_value db E (opposite r.form))
          (opposite_value r.form)
          g.0 g.1.0)
      by false g = g.0

-- ---- a clause after actions

abbrev pub RelFits : List Table → Rel → Type 0
RelFits tables r = AllByRecursion (λ (t : Term). AtomFits tables t.0.atom) r.form.terms

pub record ClauseFits (tables : List Table) (c : Clause) : Type 0 where
  pub guards : AllByRecursion (RelFits tables) c.guards
  pub rel : RelFits tables c.rel

module _ (d : Design) (db : List Row) (fit : RowsFit d db) (E : List ℤ) (acts : List Action)
    (acts_fit : AllByRecursion (ActionFits d.tables) acts) (there : AreThere E acts db) where
  weakest : (r : Rel) → RelFits d.tables r → rel_true db E (wp_of acts r) ≡ rel_true (rows_after E acts db) E r
  weakest r h =
      wp_is_weakest acts r d.tables (All-from_recursion (ActionFits d.tables) acts acts_fit) (All-from_recursion _ r.form.terms h) db
      fit.shapes fit.order E there

  module _ (n : Naming) (e : List ℤ) (agree : Agrees n E e) (after : List Row) (same : rows_after E acts db ≡ after) where
    pub rel_after : (r : Rel) → RelFits d.tables r → rel_true db E (wp_of acts (named_rel n r)) ≡ rel_true after e r
    rel_after r h =
        weakest (named_rel n r) (terms_fit d.tables n r.form.terms h)
        ∙ (ap (λ rows. rel_true rows E (named_rel n r)) same ∙ rel_named n E e agree after r)

    pub rels_after :
        (rs : List Rel) → AllByRecursion (RelFits d.tables) rs
        → list_all (rel_true db E) (map (wp_of acts) (map (named_rel n) rs)) ≡ list_all (rel_true after e) rs
    rels_after [] h = refl
    rels_after (r ∷ rs) h = λ i. rel_after r h.0 i && rels_after rs h.1 i

-- a clause is true after actions where its obligations are
module _ (d : Design) (db : List Row) (fit : RowsFit d db) (origin : ℕ → Origin) (hyps : ℕ → List Clause) (rels : ℕ → List Rel)
    (actions : ℕ → List Action) (names : List ℕ) (base : ℕ) (e : List ℤ) (after : List Row) where
  -- what stands for values of the clause's own variables, in an obligation of so many variables
  pub record Stands (vars : ℕ) (own E : List ℤ) : Type 0 where
    pub long : length E ≡ vars
    pub asks : (k : ℕ) → OriginAsks d db E fit (origin k)
    pub hyps_true : AllByRecursion (ClauseTrue db E) (hyps vars)
    pub rels_true : list_all (rel_true db E) (rels vars) ≡ true
    pub acts_fit : AllByRecursion (ActionFits d.tables) (actions vars)
    pub there : AreThere E (actions vars) db
    pub leaves : rows_after E (actions vars) db ≡ after
    pub agree : Agrees (own_naming names base (length own)) E (e ++ own)

  pub clause_after :
      (c : Clause) → AllByRecursion (DraftTrue d) (clause_drafts origin hyps rels actions names base c) → ClauseFits d.tables c
      → ((own : List ℤ) → length own ≡ length c.vars → (E : List ℤ) × Stands (base + length c.vars) own E) → ClauseTrue after e c
  clause_after c drafts fits values own long guards =
      let v = values own long in
      let E = v.0 in
      let w = v.1 in
      let vars = base + length c.vars in
      let n = own_naming names base (length c.vars) in
      let agree = subst (λ k. Agrees (own_naming names base k) E (e ++ own)) long w.agree in
      let after_guards = rels_after d db fit E (actions vars) w.acts_fit w.there n (e ++ own) agree after w.leaves c.guards fits.guards in
      let all = passes_append (rel_true db E) (rels vars) (map (wp_of (actions vars)) (map (named_rel n) c.guards)) w.rels_true
      (after_guards ∙ guards) in
      let goals = goals_true d db E fit origin w.asks vars w.long (hyps vars) w.hyps_true
      (rels vars ++ map (wp_of (actions vars)) (map (named_rel n) c.guards)) all
      (is_clause_wide (actions vars) (map (named_rel n) c.guards) (named_rel n c.rel)) 1
      (goals_of (wp_of (actions vars) (named_rel n c.rel))) drafts in
      sym (rel_after d db fit E (actions vars) w.acts_fit w.there n (e ++ own) agree after w.leaves c.rel fits.rel)
      ∙ goals_give d db E fit (wp_of (actions vars) (named_rel n c.rel)) goals
