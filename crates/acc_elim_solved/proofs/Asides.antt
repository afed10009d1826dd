-- Unknowns that equations take away: where the relations left are met, a value by the equation meets those before.
use Rattle.std.proofs.Common.{◌≡◌, ◌==◌, ℕ, suc, ◌<◌, Bool, true, false, List, [], ◌∷◌, ◌++◌, length, Option, Some, None, refl, ap, sym}
use Rattle.std.proofs.Common.{◌∙◌, subst, arith, ℤ, pos, ◌+ℤ◌, ◌*ℤ◌, if◌then◌else◌, ◌&&◌, ◌⊎◌, inl, inr}
use Rattle.std.specs.Prelude.{All, option_map}
use Rattle.std.specs.Cmp.{first_so, second_so}
use lib.Signed.{◌<ℤ◌}
use lib.IntN.{*ℤ-zero}
use Rattle.std.proofs.lemmas.Int.{ints}
use Rattle.std.proofs.lemmas.List.{length-set}
use Rattle.std.proofs.lemmas.List.Elements.{All-nil, All-head, All-tail, All-cons}
use Rattle.acc_rows.specs.declared.rows.Row.{Row}
use Rattle.acc_base.specs.Computing.{steps}
use Rattle.acc_elim_systems.specs.Made.{Ordered}
use Rattle.acc_rows.specs.Sparse.{at}
use Rattle.acc_rows.specs.Rows.{has, cleared}
use Rattle.acc_elim_systems.specs.Systems.{is_constant, admitted, is_equation_with, taken, replaced}
use Rattle.acc_elim_points.specs.Fractions.{Fraction}
use Rattle.acc_elim_points.specs.Points.{Point, root, placed_by}
use Rattle.acc_rows.proofs.Worths.{gives_both}
use Rattle.acc_elim_systems.proofs.Orders.{cleared_ordered}
use Rattle.acc_elim_solved.proofs.Ints.{cancel_zero, cancel_below, below_times, above_times, above_other}
use Rattle.acc_elim_solved.proofs.Values.{Holds, holds_chain, holds_weaker, from_gives, IsRoot}
use Rattle.acc_elim_solved.proofs.Points.{coef, at_is, row_worth, form_moved, form_without, rest_of, moved, Worths, worths_moved, root_is}
use Rattle.acc_elim_solved.proofs.Points.{is_same}
use Rattle.acc_elim_solved.proofs.Points.{is_other}
use Rattle.acc_elim_solved.proofs.Bounds.{root_worth}
use Rattle.acc_elim_solved.proofs.Mixes.{Among, ClearedTo, cleared_gives, gone_at, lacks_both, form_mix, has_other, not_has}
use Rattle.acc_elim_solved.proofs.Admits.{MetBy, Met, Admits, admitted_holds, Adds, adds_steps}

-- a number is none of these
abbrev pub Out : ℕ → List ℕ → Type 0
Out w us = All (λ u. u ≡ w → ⊥) us

pub out_front : (w : ℕ) (us vs : List ℕ) → Out w (us ++ vs) → Out w us × Out w vs
out_front w [] vs all = (All-nil (λ u. u ≡ w → ⊥), all)
out_front w (u ∷ us) vs all =
    let rest = out_front w us vs (All-tail (λ u. u ≡ w → ⊥) u (us ++ vs) all) in
    (All-cons (λ u. u ≡ w → ⊥) u us (All-head (λ u. u ≡ w → ⊥) u (us ++ vs) all) rest.0, rest.1)

-- ---- a point at which relations are met

pub record MeetsAt (n : ℕ) (p : Point) (rows : List Row) : Type 0 where
  pub f : ℕ → ℤ
  pub D : ℤ
  pub above : pos 0 <ℤ D
  pub worths : Worths f D p
  pub long : length p ≡ n
  pub met : All (Met f D) rows

-- a relation without the unknown stays met when that gets a value
stays_by : (b : Bool) (x z : ℤ) → pos 0 <ℤ z → MetBy b x → MetBy b (z *ℤ x)
stays_by true x z above h = ap (λ y. z *ℤ y) h ∙ *ℤ-zero z
stays_by false x z above h = below_times z x (omega (arith, ints, above)) h

pub stays_met : (f : ℕ → ℤ) (D : ℤ) (u : ℕ) (z : Fraction) (r : Row) → pos 0 <ℤ z.1 → coef u r.terms ≡ pos 0 → Met f D r
    → Met (moved f D u z) (D *ℤ z.1) r
stays_met f D u z r above none met = subst (λ y. MetBy r.equal y) (sym (form_without f D u z r none))
    (stays_by r.equal (row_worth f D r) z.1 above met)

pub all_stay : (f : ℕ → ℤ) (D : ℤ) (u : ℕ) (z : Fraction) → pos 0 <ℤ z.1 → (rows : List Row) → All (λ r. coef u r.terms ≡ pos 0) rows
    → All (Met f D) rows → All (Met (moved f D u z) (D *ℤ z.1)) rows
all_stay f D u z above [] none all = All-nil (Met (moved f D u z) (D *ℤ z.1))
all_stay f D u z above (r ∷ rs) none all =
    All-cons (Met (moved f D u z) (D *ℤ z.1)) r rs
    (stays_met f D u z r above (All-head (λ r. coef u r.terms ≡ pos 0) r rs none) (All-head (Met f D) r rs all))
    (all_stay f D u z above rs (All-tail (λ r. coef u r.terms ≡ pos 0) r rs none) (All-tail (Met f D) r rs all))

-- ---- the equation that is taken

abbrev pub TakenFacts : ℕ → List Row → Option (Row × List Row) → Type 0
TakenFacts u rows None = All (λ r. r.equal ≡ true → at u r.terms ≡ pos 0) rows
TakenFacts u rows (Some t) = (t.0.equal ≡ true) × (has u t.0 ≡ true)

and_false : (a b : Bool) → (a && b) ≡ false → a ≡ true → b ≡ false
and_false true b e h = e
and_false false b e h = absurd (cc)

pub taken_facts : (u : ℕ) (rows : List Row) → TakenFacts u rows (taken u rows)
taken_facts u [] = All-nil (λ r. r.equal ≡ true → at u r.terms ≡ pos 0)
taken_facts u (r ∷ rs) = by (is_equation_with u r) refl (taken u rs) (taken_facts u rs)
  where
    by : (b : Bool) → is_equation_with u r ≡ b → (o : Option (Row × List Row)) → TakenFacts u rs o
        → TakenFacts u (r ∷ rs) (if b then Some (r, rs) else option_map (λ t. (t.0, r ∷ t.1)) o)
    by true e o h = (first_so r.equal (has u r) e, second_so r.equal (has u r) e)
    by false e None h = All-cons (λ r. r.equal ≡ true → at u r.terms ≡ pos 0) r rs
        (λ equal. not_has u r (and_false r.equal (has u r) e equal)) h
    by false e (Some t) h = h

-- what holds of all holds of it and of the others, and back
abbrev pub TakenAll : (Row → Type 0) → List Row → Option (Row × List Row) → Type 0
TakenAll P rows None = Unit {0}
TakenAll P rows (Some t) = (All P rows → P t.0 × All P t.1) × (P t.0 → All P t.1 → All P rows)

pub taken_all : (P : Row → Type 0) (u : ℕ) (rows : List Row) → TakenAll P rows (taken u rows)
taken_all P u [] = tt
taken_all P u (r ∷ rs) = by (is_equation_with u r) (taken u rs) (taken_all P u rs)
  where
    by : (b : Bool) (o : Option (Row × List Row)) → TakenAll P rs o
        → TakenAll P (r ∷ rs) (if b then Some (r, rs) else option_map (λ t. (t.0, r ∷ t.1)) o)
    by true o h = ((λ all. (All-head P r rs all, All-tail P r rs all)), (λ p all. All-cons P r rs p all))
    by false None h = tt
    by false (Some t) h = (
      (λ all. let k = h.0 (All-tail P r rs all) in (k.0, All-cons P r t.1 (All-head P r rs all) k.1)),
      (λ p all. All-cons P r rs (All-head P r t.1 all) (h.1 p (All-tail P r t.1 all))),
    )

module _ (n : ℕ) where
  -- a relation of the system when k unknowns were looked at, of which some are left
  pub record Fit (k : ℕ) (left : List ℕ) (r : Row) : Type 0 where
    pub ordered : Ordered r
    pub among : Among n r
    pub some : is_constant r ≡ false
    pub clear : (w : ℕ) → w < k → Out w left → coef w r.terms ≡ pos 0
    pub equal : r.equal ≡ true → (w : ℕ) → w < k → coef w r.terms ≡ pos 0

  -- ---- one relation

  pub at_once : (u : ℕ) (r : Row) → Ordered r → at u r.terms ≡ coef u r.terms
  at_once u r o = at_is u 0 r.terms o.terms

  pub last_or : (w k : ℕ) → w < suc k → (w < k) ⊎ (w ≡ k)
  last_or w k l = by (w == k) refl
    where
      by : (b : Bool) → (w == k) ≡ b → (w < k) ⊎ (w ≡ k)
      by true e = inr (is_same w k e)
      by false e = let ne = is_other w k e in inl (below ne)
        where
          below : (w ≡ k → ⊥) → w < k
          below ne = grind (arith, ne)

  cleared_fit : (k : ℕ) (left : List ℕ) (e r m : Row) → Fit k left e → e.equal ≡ true → Fit k left r → ClearedTo n k e r m → Ordered m
      → is_constant m ≡ false → Fit (suc k) left m
  cleared_fit k left e r m fe equal fr c o some =
      record {
        ordered = o;
        among = c.2;
        some = some;
        clear = λ w l out. clear w out (last_or w k l);
        equal = λ q w l. same (sym c.1 ∙ q) w
            (last_or w k l);
      }
    where
      here : (w : ℕ) → w ≡ k → coef w m.terms ≡ pos 0
      here w i =
          let none = gone_at k c.0.p r c.0.q e m c.0.mix
          ((λ j. c.0.p *ℤ sym (at_once k r fr.ordered) j +ℤ c.0.q *ℤ sym (at_once k e fe.ordered) j) ∙ c.0.none) in
          ap (λ v. coef v m.terms) i ∙ none

      clear : (w : ℕ) → Out w left → (w < k) ⊎ (w ≡ k) → coef w m.terms ≡ pos 0
      clear w out (inl l) = lacks_both w c.0.p r c.0.q e m c.0.mix (fr.clear w l out) (fe.clear w l out)
      clear w out (inr i) = here w i

      same : r.equal ≡ true → (w : ℕ) → (w < k) ⊎ (w ≡ k) → coef w m.terms ≡ pos 0
      same q w (inl l) = lacks_both w c.0.p r c.0.q e m c.0.mix (fr.equal q w l) (fe.equal equal w l)
      same q w (inr i) = here w i

  -- where the equation is 0 and the made relation is met, so is the relation
  cleared_back : (f : ℕ → ℤ) (D : ℤ) (u : ℕ) (e r m : Row) → ClearedTo n u e r m → row_worth f D e ≡ pos 0 → Met f D m → Met f D r
  cleared_back f D u e r m c zero_e met = by m.equal r.equal c.1 met
    where
      sum : pos c.0.mix.g *ℤ row_worth f D m ≡ c.0.p *ℤ row_worth f D r
      sum =
          let mix = form_mix f D c.0.p r c.0.q e m c.0.mix in
          let none = ap (λ z. c.0.q *ℤ z) zero_e ∙ *ℤ-zero c.0.q in
          omega (arith, ints, mix, none)

      by : (b c' : Bool) → b ≡ c' → MetBy b (row_worth f D m) → MetBy c' (row_worth f D r)
      by true true e h =
          let none = ap (λ z. pos c.0.mix.g *ℤ z) h ∙ *ℤ-zero (pos c.0.mix.g) in
          cancel_zero c.0.p (row_worth f D r) (above_other c.0.p c.0.above) (sym sum ∙ none)
      by false false e h =
          let low = below_times (pos c.0.mix.g) (row_worth f D m) (omega (arith, ints)) h in
          let s = sum in
          cancel_below c.0.p (row_worth f D r) c.0.above (omega (arith, ints, low, s))
      by true false e h = absurd (cc)
      by false true e h = absurd (cc)

  module _ (k : ℕ) (left : List ℕ) (e : Row) (fe : Fit k left e) (equal : e.equal ≡ true) (there : has k e ≡ true) where
    -- where the equation is 0, the relation is met
    abbrev pub So : (ℕ → ℤ) → ℤ → Row → Type 0
    So f D r = row_worth f D e ≡ pos 0 → Met f D r

    replaced_holds : (rows : List Row) (r : Row) → All (Fit (suc k) left) rows → Fit k left r
        → Holds (replaced k e rows r) (λ new. All (Fit (suc k) left) new
        × ((f : ℕ → ℤ) (D : ℤ) → pos 0 <ℤ D → All (Met f D) new → All (Met f D) rows × So f D r))
    replaced_holds rows r all fr =
        holds_chain (cleared k e r) (admitted rows) (λ m. ClearedTo n k e r m × Ordered m) _
        (from_gives (cleared k e r) (λ m. ClearedTo n k e r m × Ordered m)
        (gives_both (cleared k e r) (ClearedTo n k e r) Ordered (λ m a b. (a, b)) (cleared_gives n k e r there fe.among fr.among)
        (cleared_ordered k e r fe.ordered equal there fr.ordered))) (λ m c.
        holds_weaker (admitted rows m) (Admits (Fit (suc k) left) rows m) _
        (λ new a. (
          a.0,
          λ f D above met. let back = a.1 f D above met in
              (back.0, λ zero_e. cleared_back f D k e r m c.0 zero_e back.1),
        ))
        (admitted_holds (Fit (suc k) left) rows m all (λ some. cleared_fit k left e r m fe equal fr c.0 c.1 some)))

    pub all_replaced : (rows : List Row) → All (Fit k left) rows → Holds (steps (replaced k e) [] rows) (Adds (Fit (suc k) left) So [] rows)
    all_replaced rows fits = adds_steps (Fit (suc k) left) So (Fit k left) (replaced k e) replaced_holds rows [] fits
        (All-nil (Fit (suc k) left))

    all_so : (f : ℕ → ℤ) (D : ℤ) → row_worth f D e ≡ pos 0 → (rs : List Row) → All (So f D) rs → All (Met f D) rs
    all_so f D zero_e [] all = All-nil (Met f D)
    all_so f D zero_e (r ∷ rs) all = All-cons (Met f D) r rs (All-head (So f D) r rs all zero_e)
        (all_so f D zero_e rs (All-tail (So f D) r rs all))

    equation_met : (f : ℕ → ℤ) (D : ℤ) → row_worth f D e ≡ pos 0 → Met f D e
    equation_met f D zero_e = subst (λ b. MetBy b (row_worth f D e)) (sym equal) zero_e

    -- a value by the equation meets all
    pub placed_meets : (rest new : List Row) → Adds (Fit (suc k) left) So [] rest new → Out k left → k < n → (p : Point) → MeetsAt n p new
        → Holds (placed_by p (k, e)) (λ p'. MeetsAt n p' (e ∷ rest))
    placed_meets rest new adds out below p m =
        holds_chain (root k p e) _ (IsRoot m.D (rest_of m.f m.D k e) (at k e.terms)) (λ p'. MeetsAt n p' (e ∷ rest))
        (root_is m.f m.D k p m.worths e (has_other n k e there)) (λ z g.
        let f' = moved m.f m.D k z in
        let D' = m.D *ℤ z.1 in
        let above = above_times m.D z.1 m.above g.1 in
        let zero_e : row_worth f' D' e ≡ pos 0 = form_moved m.f m.D k z e
        ∙ (ap (λ a. z.1 *ℤ rest_of m.f m.D k e +ℤ a *ℤ (z.0 *ℤ m.D)) (sym (at_once k e fe.ordered))
        ∙ root_worth m.D (rest_of m.f m.D k e) (at k e.terms) z g) in
        let still = all_stay m.f m.D k z g.1 new (lack new adds.0) m.met in
        let back = adds.1 f' D' above still in
        record {
          f = f';
          D = D';
          above = above;
          worths = worths_moved m.f m.D k z p (subst (λ l. k < l) (sym m.long) below) g.1 m.worths;
          long = length-set p k z ∙ m.long;
          met = All-cons (Met f' D') e rest (equation_met f' D' zero_e) (all_so f' D' zero_e rest back.1);
        })
      where
        lack : (rows : List Row) → All (Fit (suc k) left) rows → All (λ r. coef k r.terms ≡ pos 0) rows
        lack [] all = All-nil (λ r. coef k r.terms ≡ pos 0)
        lack (r ∷ rs) all =
            All-cons (λ r. coef k r.terms ≡ pos 0) r rs ((All-head (Fit (suc k) left) r rs all).clear k (omega arith) out)
            (lack rs (All-tail (Fit (suc k) left) r rs all))
