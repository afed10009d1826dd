-- Points whose unknowns are worth f / D, and a point with another value for one unknown.
use Rattle.std.proofs.Common.{◌≡◌, ◌==◌, ℕ, suc, ◌<◌, Bool, true, false, [], ◌∷◌, length, set, Ok, refl, ap, sym, ◌∙◌, subst, arith, ℤ, pos}
use Rattle.std.proofs.Common.{◌+ℤ◌, ◌*ℤ◌, if◌then◌else◌}
use lib.Signed.{◌<ℤ◌}
use lib.IntN.{*ℤ_comm, *ℤ-zero, zero-*ℤ}
use Rattle.std.proofs.lemmas.Int.{ints}
use Rattle.std.proofs.lemmas.Bool.Decides.{nat_tests}
use Rattle.std.proofs.lemmas.List.{get_or-set_same, get_or-set_other}
use Rattle.acc_base.proofs.Products.{times_sum, sum_times, times_times}
use Rattle.acc_rows.specs.declared.rows.Row.{Row}
use Rattle.acc_base.specs.Computing.{steps}
use Rattle.acc_base.specs.Collecting.{worth}
use Rattle.acc_elim_systems.specs.Made.{Rises}
use Rattle.acc_rows.specs.Sparse.{Sparse, at}
use Rattle.acc_elim_points.specs.Fractions.{Fraction, plus_times}
use Rattle.acc_elim_points.specs.Points.{Point, value, summed, root}
use Rattle.acc_elim_solved.proofs.Ints.{swap, move, Other}
use Rattle.acc_elim_solved.proofs.Values.{Holds, holds_chain, Worth, plus_worth, IsRoot, solved_worth}

-- ---- numbers of unknowns

pub test_same : (n : ℕ) → (n == n) ≡ true
test_same n = grind (arith, nat_tests)

pub test_other : (i n : ℕ) → (i ≡ n → ⊥) → (i == n) ≡ false
test_other i n h = grind (arith, nat_tests, h)

pub is_same : (i n : ℕ) → (i == n) ≡ true → i ≡ n
is_same i n h = grind (arith, nat_tests)

pub is_other : (i n : ℕ) → (i == n) ≡ false → i ≡ n → ⊥
is_other i n h e = let same = test_same n in let also = ap (λ k. k == n) e in absurd (cc)

-- 1 for one unknown, and an unknown left out
abbrev pub only : ℕ → ℕ → ℤ
only u i = if i == u then pos 1 else pos 0

abbrev pub others : (ℕ → ℤ) → ℕ → ℕ → ℤ
others f u i = if i == u then pos 0 else f i

-- the unknown's coefficient
abbrev pub coef : ℕ → Sparse → ℤ
coef u xs = worth (only u) xs

coef_none : (u k : ℕ) (xs : Sparse) → u < k → Rises k xs → coef u xs ≡ pos 0
coef_none u k [] l r = refl
coef_none u k (t ∷ ts) l r =
    let low = r.0 in
    let apart = test_other t.0 u (λ e. absurd (omega (arith, e, low, l))) in
    let none = ap (λ b. t.1 *ℤ (if b then pos 1 else pos 0)) apart ∙ *ℤ-zero t.1 in
    let rest = coef_none u (suc t.0) ts (omega (arith, low, l)) r.1 in
    omega (arith, ints, none, rest)

once : (x : ℤ) → x *ℤ pos 1 ≡ x
once x = omega (arith, ints)

pub at_is : (u k : ℕ) (xs : Sparse) → Rises k xs → at u xs ≡ coef u xs
at_is u k [] r = refl
at_is u k (t ∷ ts) r = by (at_is u (suc t.0) ts r.1) (t.0 == u) refl
  where
    by : at u ts ≡ coef u ts → (b : Bool) → (t.0 == u) ≡ b → (if b then t.1 else at u ts) ≡ t.1 *ℤ (if b then pos 1 else pos 0) +ℤ coef u ts
    by rest true e =
        let here = is_same t.0 u e in
        let none = coef_none u (suc t.0) ts (omega (arith, here)) r.1 in
        let one = once t.1 in
        omega (arith, ints, none, one)
    by rest false e =
        let none = *ℤ-zero t.1 in
        omega (arith, ints, rest, none)

-- what a list is worth with an unknown left out, and that unknown
pub worth_parts : (f : ℕ → ℤ) (u : ℕ) (xs : Sparse) → worth f xs ≡ worth (others f u) xs +ℤ coef u xs *ℤ f u
worth_parts f u [] = let none = zero-*ℤ (f u) in omega (arith, ints, none)
worth_parts f u (t ∷ ts) = by (worth_parts f u ts) (t.0 == u) refl
  where
    by : worth f ts ≡ worth (others f u) ts +ℤ coef u ts *ℤ f u → (b : Bool) → (t.0 == u) ≡ b
        → t.1 *ℤ f t.0 +ℤ worth f ts ≡ (t.1 *ℤ (if b then pos 0 else f t.0) +ℤ worth (others f u) ts) +ℤ
        (t.1 *ℤ (if b then pos 1 else pos 0) +ℤ coef u ts) *ℤ f u
    by rest true e =
        let here = ap (λ n. t.1 *ℤ f n) (is_same t.0 u e) in
        let none = *ℤ-zero t.1 in
        let one = ap (λ z. z *ℤ f u) (once t.1) in
        let parts = sum_times (t.1 *ℤ pos 1) (coef u ts) (f u) in
        omega (arith, ints, rest, here, none, one, parts)
    by rest false e =
        let none = ap (λ z. z *ℤ f u) (*ℤ-zero t.1) ∙ zero-*ℤ (f u) in
        let parts = sum_times (t.1 *ℤ pos 0) (coef u ts) (f u) in
        omega (arith, ints, rest, none, parts)

-- ---- another value for one unknown: z for u, over the denominator D * z.1

abbrev pub moved : (ℕ → ℤ) → ℤ → ℕ → Fraction → ℕ → ℤ
moved f D u z i = if i == u then z.0 *ℤ D else z.1 *ℤ f i

pub worth_moved : (f : ℕ → ℤ) (D : ℤ) (u : ℕ) (z : Fraction) (xs : Sparse)
    → worth (moved f D u z) xs ≡ z.1 *ℤ worth (others f u) xs +ℤ coef u xs *ℤ (z.0 *ℤ D)
worth_moved f D u z [] = let none = zero-*ℤ (z.0 *ℤ D) in let also = *ℤ-zero z.1 in omega (arith, ints, none, also)
worth_moved f D u z (t ∷ ts) = by (worth_moved f D u z ts) (t.0 == u)
  where
    by : worth (moved f D u z) ts ≡ z.1 *ℤ worth (others f u) ts +ℤ coef u ts *ℤ (z.0 *ℤ D) → (b : Bool)
        → t.1 *ℤ (if b then z.0 *ℤ D else z.1 *ℤ f t.0) +ℤ worth (moved f D u z) ts
        ≡ z.1 *ℤ (t.1 *ℤ (if b then pos 0 else f t.0) +ℤ worth (others f u) ts) +ℤ (t.1 *ℤ (if b then pos 1 else pos 0) +ℤ coef u ts) *ℤ
        (z.0 *ℤ D)
    by rest true =
        let none = *ℤ-zero t.1 in
        let gone = ap (λ y. z.1 *ℤ y) none ∙ *ℤ-zero z.1 in
        let first = times_sum z.1 (t.1 *ℤ pos 0) (worth (others f u) ts) in
        let one = ap (λ y. y *ℤ (z.0 *ℤ D)) (once t.1) in
        let parts = sum_times (t.1 *ℤ pos 1) (coef u ts) (z.0 *ℤ D) in
        omega (arith, ints, rest, gone, first, one, parts)
    by rest false =
        let first = times_sum z.1 (t.1 *ℤ f t.0) (worth (others f u) ts) in
        let turned = swap t.1 z.1 (f t.0) in
        let none = ap (λ y. y *ℤ (z.0 *ℤ D)) (*ℤ-zero t.1) ∙ zero-*ℤ (z.0 *ℤ D) in
        let parts = sum_times (t.1 *ℤ pos 0) (coef u ts) (z.0 *ℤ D) in
        omega (arith, ints, rest, first, turned, none, parts)

-- each unknown is worth f / D at the point
abbrev pub Worths : (ℕ → ℤ) → ℤ → Point → Type 0
Worths f D p = (i : ℕ) → Worth D (f i) (value p i)

pub worths_moved : (f : ℕ → ℤ) (D : ℤ) (u : ℕ) (z : Fraction) (p : Point) → u < length p → pos 0 <ℤ z.1 → Worths f D p
    → Worths (moved f D u z) (D *ℤ z.1) (set p u z)
worths_moved f D u z p l above h i = by (i == u) refl
  where
    by : (b : Bool) → (i == u) ≡ b → Worth (D *ℤ z.1) (if b then z.0 *ℤ D else z.1 *ℤ f i) (value (set p u z) i)
    by true e =
        let here : value (set p u z) i ≡ z = ap (λ n. value (set p u z) n) (is_same i u e) ∙ get_or-set_same p u z (pos 0, pos 1) l in
        subst (λ x. Worth (D *ℤ z.1) (z.0 *ℤ D) x) (sym here) (sym (times_times z.0 D z.1), above)
    by false e =
        let there : value (set p u z) i ≡ value p i = get_or-set_other p u i z (pos 0, pos 1) (is_other i u e) in
        subst (λ x. Worth (D *ℤ z.1) (z.1 *ℤ f i) x) (sym there) (
          sym (times_times (value p i).0 D z.1)
              ∙ (ap (λ y. y *ℤ z.1) (h i).0 ∙ (move (f i) (value p i).1 z.1 ∙ ap (λ y. y *ℤ (value p i).1) (*ℤ_comm (f i) z.1))),
          (h i).1,
        )

-- ---- the root of a relation

-- D times what a relation's form is worth, with an unknown left out and with all
abbrev pub rest_of : (ℕ → ℤ) → ℤ → ℕ → Row → ℤ
rest_of f D u r = r.constant *ℤ D +ℤ worth (others f u) r.terms

abbrev pub row_worth : (ℕ → ℤ) → ℤ → Row → ℤ
row_worth f D r = r.constant *ℤ D +ℤ worth f r.terms

module _ (f : ℕ → ℤ) (D : ℤ) (u : ℕ) (p : Point) (h : Worths f D p) where
  summed_by : (X : ℤ) (x : Fraction) (t : ℕ × ℤ) (b : Bool) → Worth D X x
      → Holds (if b then Ok x else plus_times x t.1 (value p t.0)) (Worth D (X +ℤ t.1 *ℤ (if b then pos 0 else f t.0)))
  summed_by X x t true w =
      let none = *ℤ-zero t.1 in
      let same : X ≡ X +ℤ t.1 *ℤ pos 0 = omega (arith, ints, none) in
      subst (λ y. Worth D y x) same w
  summed_by X x t false w = plus_worth D X (f t.0) t.1 x (value p t.0) w (h t.0)

  summed_worth : (ts : Sparse) (X : ℤ) (x : Fraction) → Worth D X x → Holds (steps (summed u p) x ts) (Worth D (X +ℤ worth (others f u) ts))
  summed_worth [] X x w = let same : X ≡ X +ℤ pos 0 = omega (arith, ints) in subst (λ y. Worth D y x) same w
  summed_worth (t ∷ ts) X x w =
      holds_chain (summed u p x t) _ (Worth D (X +ℤ t.1 *ℤ others f u t.0)) (Worth D (X +ℤ worth (others f u) (t ∷ ts)))
      (summed_by X x t (t.0 == u) w) (λ y v.
      let same : (X +ℤ t.1 *ℤ others f u t.0) +ℤ worth (others f u) ts ≡ X +ℤ worth (others f u) (t ∷ ts) = omega (arith, ints) in
      subst (λ k. Holds (steps (summed u p) y ts) (Worth D k)) same (summed_worth ts (X +ℤ t.1 *ℤ others f u t.0) y v))

  pub root_is : (r : Row) → Other (at u r.terms) → Holds (root u p r) (IsRoot D (rest_of f D u r) (at u r.terms))
  root_is r o =
      let first : r.constant *ℤ D ≡ (r.constant *ℤ D) *ℤ pos 1 = sym (once (r.constant *ℤ D)) in
      let one : pos 0 <ℤ pos 1 = omega (arith, ints) in
      holds_chain (steps (summed u p) (r.constant, pos 1) r.terms) _ (Worth D (rest_of f D u r))
      (IsRoot D (rest_of f D u r) (at u r.terms)) (summed_worth r.terms (r.constant *ℤ D) (r.constant, pos 1) (first, one))
      (λ x w. solved_worth D (rest_of f D u r) (at u r.terms) x w o)

-- ---- what a relation's form is worth at the point with another value

pub form_moved : (f : ℕ → ℤ) (D : ℤ) (u : ℕ) (z : Fraction) (r : Row)
    → row_worth (moved f D u z) (D *ℤ z.1) r ≡ z.1 *ℤ rest_of f D u r +ℤ coef u r.terms *ℤ (z.0 *ℤ D)
form_moved f D u z r =
    let terms = worth_moved f D u z r.terms in
    let constant = swap r.constant D z.1 in
    let one = times_sum z.1 (r.constant *ℤ D) (worth (others f u) r.terms) in
    let two = swap z.1 r.constant D in
    let three = ap (λ y. r.constant *ℤ y) (*ℤ_comm z.1 D) in
    omega (arith, ints, terms, one, two, three)

-- a relation without the unknown
pub form_without : (f : ℕ → ℤ) (D : ℤ) (u : ℕ) (z : Fraction) (r : Row) → coef u r.terms ≡ pos 0
    → row_worth (moved f D u z) (D *ℤ z.1) r ≡ z.1 *ℤ row_worth f D r
form_without f D u z r e =
    let whole = form_moved f D u z r in
    let parts = worth_parts f u r.terms in
    let none = ap (λ y. y *ℤ f u) e ∙ zero-*ℤ (f u) in
    let gone = ap (λ y. y *ℤ (z.0 *ℤ D)) e ∙ zero-*ℤ (z.0 *ℤ D) in
    let same : row_worth f D r ≡ rest_of f D u r = omega (arith, ints, parts, none) in
    let along = ap (λ y. z.1 *ℤ y) same in
    omega (arith, ints, whole, gone, along)
