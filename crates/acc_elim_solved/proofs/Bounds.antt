-- The value of an unknown by its bounds.
use Rattle.std.proofs.Common.{◌≡◌, ℕ, Bool, true, false, List, [], ◌∷◌, refl, ap, sym, ◌∙◌, subst, arith, ℤ, pos, negsuc, ◌+ℤ◌, ◌-ℤ◌, ◌*ℤ◌}
use Rattle.std.proofs.Common.{if◌then◌else◌, ◌⊎◌, inl, inr}
use Rattle.std.specs.Prelude.{All}
use lib.Signed.{◌<ℤ◌, ◌≤ℤ◌}
use lib.IntN.{*ℤ_comm}
use Rattle.std.proofs.lemmas.Int.{ints}
use Rattle.std.proofs.lemmas.List.Elements.{All-nil, All-head, All-tail, All-cons}
use Rattle.acc_base.proofs.Products.{times_sum}
use Rattle.acc_rows.specs.declared.rows.Row.{Row}
use Rattle.acc_base.specs.Computing.{steps}
use Rattle.acc_rows.specs.Sparse.{at}
use Rattle.acc_elim_systems.specs.Systems.{is_lower}
use Rattle.acc_rows.specs.Numbers.{product}
use Rattle.acc_elim_points.specs.Fractions.{Fraction, is_less}
use Rattle.acc_elim_points.specs.Points.{Point, root, tighter, tightest, bounded_value}
use Rattle.acc_elim_solved.proofs.Ints.{swap, Other, below_times, cancel_below, above_other}
use Rattle.acc_elim_solved.proofs.Values.{Holds, holds_chain, holds_weaker, holds_kept, IsRoot}
use Rattle.acc_elim_solved.proofs.Points.{Worths, rest_of, root_is}

-- what a + X / D is worth at z, over D and z's denominator
abbrev pub worth_at : ℤ → ℤ → ℤ → Fraction → ℤ
worth_at D X a z = z.1 *ℤ X +ℤ a *ℤ (z.0 *ℤ D)

pub root_worth : (D X a : ℤ) (z : Fraction) → IsRoot D X a z → worth_at D X a z ≡ pos 0
root_worth D X a z h =
    let turned = *ℤ_comm X z.1 in
    let e = h.0 in
    omega (arith, ints, turned, e)

-- a relation that holds at z holds at y, where a * y is at most a * z
further : (D X a : ℤ) (z y : Fraction) → pos 0 <ℤ D → pos 0 <ℤ z.1 → pos 0 <ℤ y.1 → (a *ℤ (y.0 *ℤ z.1 -ℤ z.0 *ℤ y.1)) ≤ℤ pos 0
    → worth_at D X a z ≤ℤ pos 0 → worth_at D X a y ≤ℤ pos 0
further D X a z y above za ya less h =
    let first = below_times y.1 (worth_at D X a z) (omega (arith, ints, ya)) h in
    let one = times_sum y.1 (z.1 *ℤ X) (a *ℤ (z.0 *ℤ D)) in
    let two = times_sum z.1 (y.1 *ℤ X) (a *ℤ (y.0 *ℤ D)) in
    let three = swap y.1 z.1 X in
    let four : y.1 *ℤ (a *ℤ (z.0 *ℤ D)) ≡ D *ℤ (a *ℤ (z.0 *ℤ y.1)) = turn y.1 z.0 in
    let five : z.1 *ℤ (a *ℤ (y.0 *ℤ D)) ≡ D *ℤ (a *ℤ (y.0 *ℤ z.1)) = turn z.1 y.0 in
    let gap = times_sum a (y.0 *ℤ z.1 -ℤ z.0 *ℤ y.1) (z.0 *ℤ y.1) in
    let back : (y.0 *ℤ z.1 -ℤ z.0 *ℤ y.1) +ℤ z.0 *ℤ y.1 ≡ y.0 *ℤ z.1 = omega (arith, ints) in
    let again = ap (λ k. a *ℤ k) back in
    let wide = below_times D (a *ℤ (y.0 *ℤ z.1 -ℤ z.0 *ℤ y.1)) (omega (arith, ints, above)) less in
    let spread = times_sum D (a *ℤ (y.0 *ℤ z.1 -ℤ z.0 *ℤ y.1)) (a *ℤ (z.0 *ℤ y.1)) in
    let sums : a *ℤ (y.0 *ℤ z.1 -ℤ z.0 *ℤ y.1) +ℤ a *ℤ (z.0 *ℤ y.1) ≡ a *ℤ (y.0 *ℤ z.1) = omega (arith, ints, gap, again) in
    let over = ap (λ k. D *ℤ k) sums in
    cancel_below z.1 (worth_at D X a y) za (omega (arith, ints, first, one, two, three, four, five, wide, spread, over))
  where
    turn : (k n : ℤ) → k *ℤ (a *ℤ (n *ℤ D)) ≡ D *ℤ (a *ℤ (n *ℤ k))
    turn k n =
        swap k a (n *ℤ D) ∙ (ap (λ w. a *ℤ w) (swap k n D ∙ (ap (λ w. n *ℤ w) (*ℤ_comm k D) ∙ swap n D k)) ∙ swap a D (n *ℤ k))

-- ---- one of a list

abbrev pub AnyOf : (Row → Type 0) → List Row → Type 0
AnyOf P [] = ⊥
AnyOf P (r ∷ rs) = P r ⊎ AnyOf P rs

pub pick : (P Q : Row → Type 0) (rs : List Row) → AnyOf P rs → All Q rs → (r : Row) × (P r) × (Q r)
pick P Q [] e all = absurd e
pick P Q (r ∷ rs) (inl e) all = (r, e, All-head Q r rs all)
pick P Q (r ∷ rs) (inr e) all = pick P Q rs e (All-tail Q r rs all)

below_other : (a : ℤ) → a <ℤ pos 0 → Other a
below_other (pos n) h = absurd (omega (arith, ints, h))
below_other (negsuc n) h = omega arith

abbrev LessIs : Fraction → Fraction → Bool → Type 0
LessIs x y t = (t ≡ true → (x.0 *ℤ y.1) <ℤ (y.0 *ℤ x.1)) × (t ≡ false → (y.0 *ℤ x.1) ≤ℤ (x.0 *ℤ y.1))

-- ---- the tightest of the bounds on one side

module _ (f : ℕ → ℤ) (D : ℤ) (above : pos 0 <ℤ D) (u : ℕ) (p : Point) (h : Worths f D p) where
  -- the relation holds with z for the unknown
  abbrev pub MetAt : Fraction → Row → Type 0
  MetAt z r = worth_at D (rest_of f D u r) (at u r.terms) z ≤ℤ pos 0

  abbrev pub ZeroAt : Fraction → Row → Type 0
  ZeroAt z r = worth_at D (rest_of f D u r) (at u r.terms) z ≡ pos 0

  -- the sign of the unknown's coefficient, and that one value is as tight as another
  abbrev pub OnSide : Bool → Row → Type 0
  OnSide true r = at u r.terms <ℤ pos 0
  OnSide false r = pos 0 <ℤ at u r.terms

  abbrev AsTight : Bool → Fraction → Fraction → Type 0
  AsTight true z y = (z.0 *ℤ y.1) ≤ℤ (y.0 *ℤ z.1)
  AsTight false z y = (y.0 *ℤ z.1) ≤ℤ (z.0 *ℤ y.1)

  kept_met : (b : Bool) (z y : Fraction) → pos 0 <ℤ z.1 → pos 0 <ℤ y.1 → AsTight b z y → (r : Row) → OnSide b r → MetAt z r → MetAt y r
  kept_met true z y za ya t r side m =
      let less : y.0 *ℤ z.1 -ℤ z.0 *ℤ y.1 ≡ pos 0 -ℤ (z.0 *ℤ y.1 -ℤ y.0 *ℤ z.1) = omega (arith, ints) in
      let a = at u r.terms in
      let e = y.0 *ℤ z.1 -ℤ z.0 *ℤ y.1 in
      let c = *ℤ_comm a e in
      let k = below_times e a (omega (arith, ints, t)) (omega (arith, ints, side)) in
      further D (rest_of f D u r) a z y above za ya (omega (arith, ints, c, k)) m
  kept_met false z y za ya t r side m =
      let a = at u r.terms in
      let k = below_times a (y.0 *ℤ z.1 -ℤ z.0 *ℤ y.1) (omega (arith, ints, side)) (omega (arith, ints, t)) in
      further D (rest_of f D u r) a z y above za ya k m

  all_met : (b : Bool) (z y : Fraction) → pos 0 <ℤ z.1 → pos 0 <ℤ y.1 → AsTight b z y → (rs : List Row) → All (OnSide b) rs
      → All (MetAt z) rs → All (MetAt y) rs
  all_met b z y za ya t [] side all = All-nil (MetAt y)
  all_met b z y za ya t (r ∷ rs) side all =
      All-cons (MetAt y) r rs (kept_met b z y za ya t r (All-head (OnSide b) r rs side) (All-head (MetAt z) r rs all))
      (all_met b z y za ya t rs (All-tail (OnSide b) r rs side) (All-tail (MetAt z) r rs all))

  less_is : (x y : Fraction) → Holds (is_less x y) (LessIs x y)
  less_is x y =
      holds_chain (product x.0 y.1) _ (λ a. a ≡ x.0 *ℤ y.1) (LessIs x y) (holds_kept (x.0 *ℤ y.1)) (λ a e.
      holds_chain (product y.0 x.1) _ (λ b. b ≡ y.0 *ℤ x.1) (LessIs x y) (holds_kept (y.0 *ℤ x.1))
      (λ b f. ((λ t. grind (arith, ints)), (λ t. grind (arith, ints)))))

  -- z is the tighter one of x and y
  abbrev Chosen : Bool → Fraction → Fraction → Fraction → Type 0
  Chosen b x y z = (AsTight b x z × AsTight b y z) × ((z ≡ x) ⊎ (z ≡ y))

  tighter_true : (x y : Fraction) (t : Bool) → LessIs x y t → Chosen true x y (if t then y else x)
  tighter_true x y true l = let k = l.0 refl in ((omega (arith, ints, k), omega (arith, ints)), inr refl)
  tighter_true x y false l = let k = l.1 refl in ((omega (arith, ints), omega (arith, ints, k)), inl refl)

  tighter_false : (x y : Fraction) (t : Bool) → LessIs y x t → Chosen false x y (if t then y else x)
  tighter_false x y true l = let k = l.0 refl in ((omega (arith, ints, k), omega (arith, ints)), inr refl)
  tighter_false x y false l = let k = l.1 refl in ((omega (arith, ints), omega (arith, ints, k)), inl refl)

  tighter_is : (b : Bool) (x y : Fraction) → Holds (tighter b x y) (Chosen b x y)
  tighter_is true x y = holds_chain (is_less x y) _ (LessIs x y) (Chosen true x y) (less_is x y) (λ t l. tighter_true x y t l)
  tighter_is false x y = holds_chain (is_less y x) _ (LessIs y x) (Chosen false x y) (less_is y x) (λ t l. tighter_false x y t l)

  side_is : (b : Bool) (r : Row) → OnSide b r → is_lower u r ≡ b
  side_is true r side = grind (arith, ints)
  side_is false r side = grind (arith, ints)

  side_other : (b : Bool) (r : Row) → OnSide b r → Other (at u r.terms)
  side_other true r side = below_other (at u r.terms) side
  side_other false r side = above_other (at u r.terms) side

  -- all of these hold at z, and one with 0
  abbrev pub Tight : List Row → Fraction → Type 0
  Tight rs z = (pos 0 <ℤ z.1) × All (MetAt z) rs × AnyOf (ZeroAt z) rs

  chosen_tight : (b : Bool) (r : Row) (done : List Row) (x y z : Fraction) → OnSide b r → All (OnSide b) done → Tight done x → pos 0 <ℤ y.1
      → ZeroAt y r → Chosen b x y z → Tight (r ∷ done) z
  chosen_tight b r done x y z side sides tight above_y zero_y c = by c.1
    where
      met_y : MetAt y r
      met_y = let e = zero_y in omega (arith, ints, e)

      by : (z ≡ x) ⊎ (z ≡ y) → Tight (r ∷ done) z
      by (inl e) =
          let above_z : pos 0 <ℤ z.1 = subst (λ k. pos 0 <ℤ k.1) (sym e) tight.0 in (
            above_z,
            All-cons (MetAt z) r done (kept_met b y z above_y above_z c.0.1 r side met_y)
                (all_met b x z tight.0 above_z c.0.0 done sides tight.1),
            inr (subst (λ k. AnyOf (ZeroAt k) done) (sym e) tight.2),
          )
      by (inr e) =
          let above_z : pos 0 <ℤ z.1 = subst (λ k. pos 0 <ℤ k.1) (sym e) above_y in (
            above_z,
            All-cons (MetAt z) r done (kept_met b y z above_y above_z c.0.1 r side met_y)
                (all_met b x z tight.0 above_z c.0.0 done sides tight.1),
            inl (subst (λ k. ZeroAt k r) (sym e) zero_y),
          )

  tightest_is : (b : Bool) (x : Fraction) (r : Row) (done : List Row) → OnSide b r → All (OnSide b) done → Tight done x
      → Holds (tightest u p x r) (Tight (r ∷ done))
  tightest_is b x r done side sides tight =
      holds_chain (root u p r) _ (IsRoot D (rest_of f D u r) (at u r.terms)) (Tight (r ∷ done)) (root_is f D u p h r (side_other b r side))
      (λ y g.
      subst (λ k. Holds (tighter k x y) (Tight (r ∷ done))) (sym (side_is b r side)) (
      holds_weaker (tighter b x y) (Chosen b x y) (Tight (r ∷ done))
      (λ z c. chosen_tight b r done x y z side sides tight g.1 (root_worth D (rest_of f D u r) (at u r.terms) y g) c)
      (tighter_is b x y)))

  -- those before are met too
  abbrev Both : List Row → List Row → Fraction → Type 0
  Both done rs z = (pos 0 <ℤ z.1) × All (MetAt z) done × All (MetAt z) rs × (AnyOf (ZeroAt z) done ⊎ AnyOf (ZeroAt z) rs)

  both_more : (r : Row) (done rs : List Row) (z : Fraction) → Both (r ∷ done) rs z → Both done (r ∷ rs) z
  both_more r done rs z t = (t.0, All-tail (MetAt z) r done t.1, All-cons (MetAt z) r rs (All-head (MetAt z) r done t.1) t.2, by t.3)
    where
      by : AnyOf (ZeroAt z) (r ∷ done) ⊎ AnyOf (ZeroAt z) rs → AnyOf (ZeroAt z) done ⊎ AnyOf (ZeroAt z) (r ∷ rs)
      by (inl (inl e)) = inr (inl e)
      by (inl (inr e)) = inl e
      by (inr e) = inr (inr e)

  steps_tight : (b : Bool) (rs done : List Row) (x : Fraction) → All (OnSide b) rs → All (OnSide b) done → Tight done x
      → Holds (steps (tightest u p) x rs) (Both done rs)
  steps_tight b [] done x side sides tight = (tight.0, tight.1, All-nil (MetAt x), inl tight.2)
  steps_tight b (r ∷ rs) done x side sides tight =
      let s = All-head (OnSide b) r rs side in
      holds_chain (tightest u p x r) _ (Tight (r ∷ done)) (Both done (r ∷ rs)) (tightest_is b x r done s sides tight) (λ y t.
      holds_weaker (steps (tightest u p) y rs) (Both (r ∷ done) rs) (Both done (r ∷ rs)) (λ z k. both_more r done rs z k)
      (steps_tight b rs (r ∷ done) y (All-tail (OnSide b) r rs side) (All-cons (OnSide b) r done s sides) t))

  -- a value by bounds of one side: all hold, and one of them is 0 there
  pub bounded_is : (b : Bool) (r : Row) (rs : List Row) → All (OnSide b) (r ∷ rs) → Holds (bounded_value u p (r ∷ rs)) (Tight (r ∷ rs))
  bounded_is b r rs side =
      let s = All-head (OnSide b) r rs side in
      holds_chain (root u p r) _ (IsRoot D (rest_of f D u r) (at u r.terms)) (Tight (r ∷ rs)) (root_is f D u p h r (side_other b r s))
      (λ x g.
      let zero_x = root_worth D (rest_of f D u r) (at u r.terms) x g in
      let first : Tight (r ∷ []) x = (g.1, All-cons (MetAt x) r [] (omega (arith, ints, zero_x)) (All-nil (MetAt x)), inl zero_x) in
      holds_weaker (steps (tightest u p) x rs) (Both (r ∷ []) rs) (Tight (r ∷ rs)) (λ z k. whole z k)
      (steps_tight b rs (r ∷ []) x (All-tail (OnSide b) r rs side) (All-cons (OnSide b) r [] s (All-nil (OnSide b))) first))
    where
      whole : (z : Fraction) → Both (r ∷ []) rs z → Tight (r ∷ rs) z
      whole z k = let m = both_more r [] rs z k in (m.0, m.2, by m.3)
        where
          by : ⊥ ⊎ AnyOf (ZeroAt z) (r ∷ rs) → AnyOf (ZeroAt z) (r ∷ rs)
          by (inl e) = absurd e
          by (inr e) = e
