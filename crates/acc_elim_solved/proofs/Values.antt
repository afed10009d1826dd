-- Fractions and points over one denominator: an unknown is worth f / D.
use Rattle.std.proofs.Common.{◌≡◌, zero, suc, Bool, true, false, [], ◌∷◌, Ok, Err, refl, ap, sym, ◌∙◌, subst, arith, ℤ, pos, negsuc, ◌+ℤ◌}
use Rattle.std.proofs.Common.{◌-ℤ◌, ◌*ℤ◌, if◌then◌else◌, nat_lt}
use Rattle.std.specs.Prelude.{int_lt, unsigned_abs}
use lib.Signed.{◌<ℤ◌}
use lib.IntN.{*ℤ_comm, *ℤ-zero}
use Rattle.std.proofs.lemmas.Int.{ints}
use Rattle.std.proofs.lemmas.List.Elements.{All-head}
use Rattle.acc_base.proofs.Products.{times_sum, sum_times, times_times}
use Rattle.acc_base.specs.Computing.{chain}
use Rattle.acc_rows.specs.Answers.{Computation}
use Rattle.acc_rows.specs.Numbers.{kept, product, opposite}
use Rattle.acc_rows.specs.Divisors.{divisor, quotient}
use Rattle.acc_elim_points.specs.Fractions.{Fraction, reduced, upright, fraction, numerator, plus_times, solved}
use Rattle.acc_rows.proofs.Worths.{Gives, kept_gives}
use Rattle.acc_elim_systems.proofs.Divisions.{Divides, common_divides, quotient_times}
use Rattle.acc_elim_solved.proofs.Ints.{swap, move, times_less, above_times, Other, cancel, above_other, product_other}

-- ---- what holds of a computation's value, if it ends with one

abbrev pub Holds : {A : Type 0} → Computation A → (A → Type 0) → Type 0
Holds (Ok x) P = P x
Holds (Err e) P = Unit {0}

pub holds_chain : {A B : Type 0} (o : Computation A) (next : A → Computation B) (P : A → Type 0) (Q : B → Type 0) → Holds o P
    → ((x : A) → P x → Holds (next x) Q) → Holds (chain o next) Q
holds_chain (Ok x) next P Q h k = k x h
holds_chain (Err e) next P Q h k = tt

pub holds_weaker : {A : Type 0} (o : Computation A) (P Q : A → Type 0) → ((x : A) → P x → Q x) → Holds o P → Holds o Q
holds_weaker (Ok x) P Q k h = k x h
holds_weaker (Err e) P Q k h = tt

pub held : {A : Type 0} (o : Computation A) (P : A → Type 0) (x : A) → o ≡ Ok x → Holds o P → P x
held o P x e h = subst (λ z. Holds z P) e h

pub from_gives : {A : Type 0} (o : Computation A) (P : A → Type 0) → Gives o P → Holds o P
from_gives (Ok x) P h = h
from_gives (Err e) P h = tt

pub holds_kept : (n : ℤ) → Holds (kept n) (λ m. m ≡ n)
holds_kept n = from_gives (kept n) (λ m. m ≡ n) (kept_gives n)

-- ---- a fraction in lowest terms

-- z is n / d, and its denominator is above 0
abbrev pub Is : ℤ → ℤ → Fraction → Type 0
Is n d z = (n *ℤ z.1 ≡ z.0 *ℤ d) × (pos 0 <ℤ z.1)

abbrev Same : ℤ → ℤ → Fraction → Type 0
Same n d z = (n *ℤ z.1 ≡ z.0 *ℤ d) × Other z.1

-- g times one pair is another
same_by : (g n d m k : ℤ) → g *ℤ m ≡ n → g *ℤ k ≡ d → n *ℤ k ≡ m *ℤ d
same_by g n d m k e f =
    ap (λ z. z *ℤ k) (sym e) ∙ (times_times g m k ∙ (swap g m k ∙ ap (λ z. m *ℤ z) f))

other_factor : (g k d : ℤ) → g *ℤ k ≡ d → Other d → Other k
other_factor g (pos zero) d e h = subst (λ z. Other z) (sym e ∙ *ℤ-zero g) h
other_factor g (pos (suc k)) d e h = omega arith
other_factor g (negsuc k) d e h = omega arith

reduced_is : (n d : ℤ) → Other d → Same n d (reduced n d)
reduced_is n d h = by (nat_lt 1 (divisor (unsigned_abs n) (unsigned_abs d)))
  where
    by : (b : Bool) → Same n d (if b then (
      quotient (divisor (unsigned_abs n) (unsigned_abs d)) n,
      quotient
          (divisor (unsigned_abs n) (unsigned_abs d)) d,
    ) else (n, d))
    by false = (refl, h)
    by true =
        let both = common_divides (unsigned_abs n) (d ∷ []) in
        let e = quotient_times (divisor (unsigned_abs n) (unsigned_abs d)) n both.0 in
        let f = quotient_times (divisor (unsigned_abs n) (unsigned_abs d)) d
        (All-head (Divides (divisor (unsigned_abs n) (unsigned_abs d))) d [] both.1) in (
          same_by (pos (divisor (unsigned_abs n) (unsigned_abs d))) n d (quotient (divisor (unsigned_abs n) (unsigned_abs d)) n)
              (quotient (divisor (unsigned_abs n) (unsigned_abs d)) d) e f,
          other_factor (pos (divisor (unsigned_abs n) (unsigned_abs d))) (quotient (divisor (unsigned_abs n) (unsigned_abs d)) d) d f h,
        )

upright_is : (n d : ℤ) (x : Fraction) → Same n d x → Holds (upright x) (Is n d)
upright_is n d x h = by (int_lt x.1 (pos 0)) refl
  where
    by : (b : Bool) → int_lt x.1 (pos 0) ≡ b → Holds
        (if b then chain (opposite x.0) (λ n. chain (opposite x.1) (λ d. Ok (n, d))) else Ok x) (Is n d)
    by true e =
        holds_chain (opposite x.0) _ (λ m. m ≡ x.0 *ℤ negsuc 0) (Is n d) (holds_kept (x.0 *ℤ negsuc 0)) (λ m p.
        holds_chain (opposite x.1) _ (λ m. m ≡ x.1 *ℤ negsuc 0) (Is n d) (holds_kept (x.1 *ℤ negsuc 0)) (λ k q.
        let less : k ≡ pos 0 -ℤ x.1 = omega (arith, ints, q) in
        let more : m ≡ pos 0 -ℤ x.0 = omega (arith, ints, p) in
        let a = times_less n x.1 in
        let b = ap (λ z. n *ℤ z) less in
        let c = *ℤ_comm (pos 0 -ℤ x.0) d in
        let f = times_less d x.0 in
        let g = *ℤ_comm d x.0 in
        let i = ap (λ z. z *ℤ d) more in
        let same = h.0 in
        let below : x.1 <ℤ pos 0 = grind (arith, ints) in
        (omega (arith, ints, a, b, c, f, g, i, same), omega (arith, ints, less, below))))
    by false e = (h.0, above x.1 e h.1)
      where
        above : (k : ℤ) → int_lt k (pos 0) ≡ false → Other k → pos 0 <ℤ k
        above (pos zero) e o = absurd (omega (arith, o))
        above (pos (suc k)) e o = omega (arith, ints)
        above (negsuc k) e o = absurd (cc)

fraction_is : (n d : ℤ) → Other d → Holds (fraction n d) (Is n d)
fraction_is n d h = upright_is n d (reduced n d) (reduced_is n d h)

-- ---- a fraction that is worth X / D

abbrev pub Worth : ℤ → ℤ → Fraction → Type 0
Worth D X x = (x.0 *ℤ D ≡ X *ℤ x.1) × (pos 0 <ℤ x.1)

-- n / d is worth X / D, so z, which is n / d, is
pub worth_along : (D X n d : ℤ) (z : Fraction) → Other d → n *ℤ D ≡ X *ℤ d → n *ℤ z.1 ≡ z.0 *ℤ d → z.0 *ℤ D ≡ X *ℤ z.1
worth_along D X n d z o e same =
    let left : d *ℤ (z.0 *ℤ D) ≡ (z.0 *ℤ d) *ℤ D = sym (times_times d z.0 D) ∙ ap (λ y. y *ℤ D) (*ℤ_comm d z.0) in
    let mid : (n *ℤ z.1) *ℤ D ≡ (n *ℤ D) *ℤ z.1 = move n z.1 D in
    let right : (X *ℤ d) *ℤ z.1 ≡ d *ℤ (X *ℤ z.1) = ap (λ y. y *ℤ z.1) (*ℤ_comm X d) ∙ times_times d X z.1 in
    cancel d (z.0 *ℤ D) (X *ℤ z.1) o (left ∙ (ap (λ y. y *ℤ D) (sym same) ∙ (mid ∙ (ap (λ y. y *ℤ z.1) e ∙ right))))

-- x + c * y, not in lowest terms, over a denominator that is the product of both
pub sum_worth : (D X Y c : ℤ) (x y : Fraction) → Worth D X x → Worth D Y y
    → (x.0 *ℤ y.1 +ℤ (c *ℤ y.0) *ℤ x.1) *ℤ D ≡ (X +ℤ c *ℤ Y) *ℤ (x.1 *ℤ y.1)
sum_worth D X Y c x y hx hy =
    let parts = sum_times (x.0 *ℤ y.1) ((c *ℤ y.0) *ℤ x.1) D in
    let one : (x.0 *ℤ y.1) *ℤ D ≡ X *ℤ (x.1 *ℤ y.1) = move x.0 y.1 D ∙ (ap (λ z. z *ℤ y.1) hx.0 ∙ times_times X x.1 y.1) in
    let two : ((c *ℤ y.0) *ℤ x.1) *ℤ D ≡ (c *ℤ Y) *ℤ (x.1 *ℤ y.1) =
    move (c *ℤ y.0) x.1 D ∙ (ap (λ z. z *ℤ x.1) (times_times c y.0 D ∙ (ap (λ z. c *ℤ z) hy.0 ∙ sym (times_times c Y y.1)))
    ∙ (times_times (c *ℤ Y) y.1 x.1 ∙ ap (λ z. (c *ℤ Y) *ℤ z) (*ℤ_comm y.1 x.1))) in
    let whole = sum_times X (c *ℤ Y) (x.1 *ℤ y.1) in
    omega (arith, ints, parts, one, two, whole)

pub plus_worth : (D X Y c : ℤ) (x y : Fraction) → Worth D X x → Worth D Y y → Holds (plus_times x c y) (Worth D (X +ℤ c *ℤ Y))
plus_worth D X Y c x y hx hy =
    holds_chain (product c y.0) _ (λ m. m ≡ c *ℤ y.0) (Worth D (X +ℤ c *ℤ Y)) (holds_kept (c *ℤ y.0)) (λ m p.
    holds_chain (numerator x m y) _ (λ n. n ≡ x.0 *ℤ y.1 +ℤ m *ℤ x.1) (Worth D (X +ℤ c *ℤ Y)) (numerator_is m) (λ n q.
    holds_chain (product x.1 y.1) _ (λ d. d ≡ x.1 *ℤ y.1) (Worth D (X +ℤ c *ℤ Y)) (holds_kept (x.1 *ℤ y.1)) (λ d r.
    let above : pos 0 <ℤ d = subst (λ z. pos 0 <ℤ z) (sym r) (above_times x.1 y.1 hx.1 hy.1) in
    let exact : n *ℤ D ≡ (X +ℤ c *ℤ Y) *ℤ d =
    ap (λ z. z *ℤ D) (q ∙ ap (λ z. x.0 *ℤ y.1 +ℤ z *ℤ x.1) p) ∙ (sum_worth D X Y c x y hx hy ∙ ap (λ z. (X +ℤ c *ℤ Y) *ℤ z) (sym r)) in
    holds_weaker (fraction n d) (Is n d) (Worth D (X +ℤ c *ℤ Y))
    (λ z h. (worth_along D (X +ℤ c *ℤ Y) n d z (above_other d above) exact h.0, h.1)) (fraction_is n d (above_other d above)))))
  where
    numerator_is : (m : ℤ) → Holds (numerator x m y) (λ n. n ≡ x.0 *ℤ y.1 +ℤ m *ℤ x.1)
    numerator_is m =
        holds_chain (product x.0 y.1) _ (λ a. a ≡ x.0 *ℤ y.1) (λ n. n ≡ x.0 *ℤ y.1 +ℤ m *ℤ x.1) (holds_kept (x.0 *ℤ y.1)) (λ a e.
        holds_chain (product m x.1) _ (λ b. b ≡ m *ℤ x.1) (λ n. n ≡ x.0 *ℤ y.1 +ℤ m *ℤ x.1) (holds_kept (m *ℤ x.1)) (λ b f.
        holds_weaker (kept (a +ℤ b)) (λ n. n ≡ a +ℤ b) (λ n. n ≡ x.0 *ℤ y.1 +ℤ m *ℤ x.1) (λ n g. g ∙ (λ i. e i +ℤ f i))
        (holds_kept (a +ℤ b))))

-- z is where a * z + X / D is 0
abbrev pub IsRoot : ℤ → ℤ → ℤ → Fraction → Type 0
IsRoot D X a z = (a *ℤ (z.0 *ℤ D) +ℤ X *ℤ z.1 ≡ pos 0) × (pos 0 <ℤ z.1)

pub solved_worth : (D X a : ℤ) (x : Fraction) → Worth D X x → Other a → Holds (solved x a) (IsRoot D X a)
solved_worth D X a x h o =
    holds_chain (opposite x.0) _ (λ m. m ≡ x.0 *ℤ negsuc 0) (IsRoot D X a) (holds_kept (x.0 *ℤ negsuc 0)) (λ n p.
    holds_chain (product a x.1) _ (λ m. m ≡ a *ℤ x.1) (IsRoot D X a) (holds_kept (a *ℤ x.1)) (λ d q.
    let other : Other d = subst (λ z. Other z) (sym q) (product_other a x.1 o (above_other x.1 h.1)) in
    let less : n ≡ pos 0 -ℤ x.0 = omega (arith, ints, p) in
    holds_weaker (fraction n d) (Is n d) (IsRoot D X a) (λ z g. (zero_is n d less q z g.0, g.1)) (fraction_is n d other)))
  where
    zero_is : (n d : ℤ) → n ≡ pos 0 -ℤ x.0 → d ≡ a *ℤ x.1 → (z : Fraction) → n *ℤ z.1 ≡ z.0 *ℤ d → a *ℤ (z.0 *ℤ D) +ℤ X *ℤ z.1 ≡ pos 0
    zero_is n d less q z same =
        let left : x.1 *ℤ (a *ℤ (z.0 *ℤ D)) ≡ (z.0 *ℤ d) *ℤ D =
        sym (times_times x.1 a (z.0 *ℤ D)) ∙ (ap (λ y. y *ℤ (z.0 *ℤ D)) (*ℤ_comm x.1 a ∙ sym q)
        ∙ (sym (times_times d z.0 D) ∙ ap (λ y. y *ℤ D) (*ℤ_comm d z.0))) in
        let mid : (n *ℤ z.1) *ℤ D ≡ (n *ℤ D) *ℤ z.1 = move n z.1 D in
        let turned : n *ℤ D ≡ pos 0 -ℤ x.1 *ℤ X = (
        let c = *ℤ_comm (pos 0 -ℤ x.0) D in
        let t = times_less D x.0 in
        let u = *ℤ_comm D x.0 in
        let v = ap (λ y. y *ℤ D) less in
        let w = *ℤ_comm X x.1 in
        let k = h.0 in
        omega (arith, ints, c, t, u, v, w, k)) in
        let right : (n *ℤ D) *ℤ z.1 ≡ pos 0 -ℤ x.1 *ℤ (X *ℤ z.1) = (
        let s = ap (λ y. y *ℤ z.1) turned in
        let c = *ℤ_comm (pos 0 -ℤ x.1 *ℤ X) z.1 in
        let t = times_less z.1 (x.1 *ℤ X) in
        let u = *ℤ_comm z.1 (x.1 *ℤ X) in
        let v = times_times x.1 X z.1 in
        omega (arith, ints, s, c, t, u, v)) in
        let moved = ap (λ y. y *ℤ D) same in
        let both = times_sum x.1 (a *ℤ (z.0 *ℤ D)) (X *ℤ z.1) in
        let none = *ℤ-zero x.1 in
        cancel x.1 (a *ℤ (z.0 *ℤ D) +ℤ X *ℤ z.1) (pos 0) (above_other x.1 h.1) (omega (arith, ints, left, mid, right, moved, both, none))
