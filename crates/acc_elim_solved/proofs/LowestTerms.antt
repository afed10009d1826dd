-- The fractions of a point are in lowest terms.
use Rattle.std.proofs.Common.{◌≡◌, ℕ, zero, suc, ◌*◌, ◌/◌, ◌<◌, ◌≤◌, Bool, true, false, List, [], ◌∷◌, refl, sym, ap, ◌∙◌, subst, arith}
use Rattle.std.proofs.Common.{ℤ, pos, negsuc, ◌-ℤ◌, ◌*ℤ◌, nat_lt, if◌then◌else◌, Ok, Err}
use Rattle.std.specs.Prelude.{All, IsTrue, int_lt, unsigned_abs, reverse}
use Rattle.std.specs.Int.{IsGcd}
use Prim.Native.Nat.{◌∣◌}
use Rattle.std.proofs.Math.Nat.{mul-div_cancel', mul-dvd-mul_left}
use Rattle.std.proofs.lemmas.Nat.Gcd.{le_of_dvd}
use Rattle.std.proofs.lemmas.Int.{ints, unsigned_abs-mul}
use Rattle.std.proofs.lemmas.Bool.Decides.{nat_tests}
use Rattle.std.proofs.lemmas.List.Elements.{All-nil, All-cons, All-head, All-tail, All-set, All-replicate}
use Rattle.acc_rows.specs.declared.rows.Row.{Row}
use Rattle.acc_elim_systems.specs.declared.systems.Eliminated.{Eliminated}
use Rattle.acc_base.specs.Computing.{chain, steps}
use Rattle.acc_rows.specs.Answers.{Computation}
use Rattle.acc_rows.specs.Numbers.{product, opposite}
use Rattle.acc_rows.specs.Divisors.{divisor, quotient}
use Rattle.acc_rows.specs.Sparse.{at}
use Rattle.acc_elim_systems.specs.Systems.{is_lower}
use Rattle.acc_elim_systems.proofs.Divisions.{divides_both}
use Rattle.acc_elim_points.specs.Fractions.{Fraction, reduced, fraction, is_less}
use Rattle.acc_elim_points.specs.Points.{Point, summed, root, tightest, bounded_value, placed, placed_by, zeros, point_of}
use Rattle.acc_elim_solved.specs.Meetings.{is_above, IsLowest}
use Rattle.acc_elim_solved.proofs.Values.{Holds, holds_chain, holds_kept}

-- no number above 1 divides both
abbrev pub Lowest : Fraction → Type 0
Lowest x = divisor (unsigned_abs x.0) (unsigned_abs x.1) ≤ 1

-- ---- a fraction divided by what divides both

quotient_size : (g : ℕ) (n : ℤ) → unsigned_abs (quotient g n) ≡ unsigned_abs n / g
quotient_size g n = by (int_lt n (pos 0)) (unsigned_abs n / g)
  where
    by : (b : Bool) (q : ℕ) → unsigned_abs (if b then pos 0 -ℤ pos q else pos q) ≡ q
    by true q = omega (arith, ints)
    by false q = refl

no_more : (g h : ℕ) → 0 < g → g * h ≤ g → h ≤ 1
no_more g zero l m = omega arith
no_more g (suc zero) l m = omega arith
no_more (suc g) (suc (suc h)) l m = absurd (omega (arith, m))
no_more zero (suc (suc h)) l m = absurd (omega (arith, l))

-- what divides two quotients by their greatest common divisor is at most 1
quotients_apart : (a b g h : ℕ) → 0 < g → IsGcd a b g → IsGcd (a / g) (b / g) h → h ≤ 1
quotients_apart a b g h l is there =
    let first = subst (λ z. g * h ∣ z) (mul-div_cancel' g is.0) (mul-dvd-mul_left h g there.0) in
    let second = subst (λ z. g * h ∣ z) (mul-div_cancel' g is.1) (mul-dvd-mul_left h g there.1) in
    no_more g h l (le_of_dvd l (is.2 (g * h) first second))

module _ (n d : ℤ) where
  abbrev common_of : ℕ
  common_of = divisor (unsigned_abs n) (unsigned_abs d)

  lowest_by : (b : Bool) → nat_lt 1 common_of ≡ b → Lowest (if b then (quotient common_of n, quotient common_of d) else (n, d))
  lowest_by false e = grind (arith, nat_tests)
  lowest_by true e =
      let above : 0 < common_of = grind (arith, nat_tests) in
      subst (λ k. k ≤ 1) (sym (λ i. divisor (quotient_size common_of n i) (quotient_size common_of d i)))
      (quotients_apart (unsigned_abs n) (unsigned_abs d) common_of (divisor (unsigned_abs n / common_of) (unsigned_abs d / common_of)) above
      (divides_both (unsigned_abs n) (unsigned_abs d)) (divides_both (unsigned_abs n / common_of) (unsigned_abs d / common_of)))

  reduced_lowest : Lowest (reduced n d)
  reduced_lowest = lowest_by (nat_lt 1 common_of) refl

same_size : (x : ℤ) → unsigned_abs (x *ℤ negsuc 0) ≡ unsigned_abs x
same_size x = let e = unsigned_abs-mul x (negsuc 0) in omega (arith, e)

fraction_lowest : (n d : ℤ) → Holds (fraction n d) Lowest
fraction_lowest n d = by (int_lt (reduced n d).1 (pos 0)) (reduced n d) (reduced_lowest n d)
  where
    by : (b : Bool) (x : Fraction) → Lowest x
        → Holds (if b then chain (opposite x.0) (λ n. chain (opposite x.1) (λ d. Ok (n, d))) else Ok x) Lowest
    by false x low = low
    by true x low =
        holds_chain (opposite x.0) _ (λ n. n ≡ x.0 *ℤ negsuc 0) Lowest (holds_kept (x.0 *ℤ negsuc 0)) (λ n e.
        holds_chain (opposite x.1) _ (λ d. d ≡ x.1 *ℤ negsuc 0) Lowest (holds_kept (x.1 *ℤ negsuc 0)) (λ d h.
        subst (λ k. k ≤ 1) (sym (λ i. divisor ((ap unsigned_abs e ∙ same_size x.0) i) ((ap unsigned_abs h ∙ same_size x.1) i))) low))

-- ---- the values of a point

pub anything : {A : Type 0} (o : Computation A) → Holds o (λ _. Unit {0})
anything (Ok x) = tt
anything (Err e) = tt

root_lowest : (u : ℕ) (point : Point) (r : Row) → Holds (root u point r) Lowest
root_lowest u point r =
    holds_chain (steps (summed u point) (r.constant, pos 1) r.terms) _ (λ _. Unit {0}) Lowest (anything _) (λ x _.
    holds_chain (opposite x.0) _ (λ _. Unit {0}) Lowest (anything _) (λ n _.
    holds_chain (product (at u r.terms) x.1) _ (λ _. Unit {0}) Lowest (anything _) (λ d _. fraction_lowest n d)))

either_lowest : (b : Bool) (x y : Fraction) → Lowest x → Lowest y → Lowest (if b then y else x)
either_lowest true x y h k = k
either_lowest false x y h k = h

tightest_lowest : (u : ℕ) (point : Point) (x : Fraction) (r : Row) → Lowest x → Holds (tightest u point x r) Lowest
tightest_lowest u point x r h =
    holds_chain (root u point r) _ Lowest Lowest (root_lowest u point r) (λ y k.
    holds_chain (if is_lower u r then is_less x y else is_less y x) _ (λ _. Unit {0}) Lowest (anything _) (λ b _. either_lowest b x y h k))

steps_hold : {S X : Type 0} (step : S → X → Computation S) (P : S → Type 0) → ((s : S) (x : X) → P s → Holds (step s x) P)
    → (xs : List X) (s : S)
    → P s → Holds (steps step s xs) P
steps_hold step P h [] s p = p
steps_hold step P h (x ∷ xs) s p = holds_chain (step s x) _ P P (h s x p) (λ t q. steps_hold step P h xs t q)

zero_lowest : Lowest (pos 0, pos 1)
zero_lowest = omega arith

bounded_lowest : (u : ℕ) (point : Point) (rows : List Row) → Holds (bounded_value u point rows) Lowest
bounded_lowest u point [] = zero_lowest
bounded_lowest u point (r ∷ rs) =
    holds_chain (root u point r) _ Lowest Lowest (root_lowest u point r) (λ x h.
    steps_hold (tightest u point) Lowest (tightest_lowest u point) rs x h)

placed_lowest : (point : Point) (b : ℕ × List Row) → All Lowest point → Holds (placed point b) (All Lowest)
placed_lowest point b all =
    holds_chain (bounded_value b.0 point b.1) _ Lowest (All Lowest) (bounded_lowest b.0 point b.1) (λ x h. All-set Lowest point b.0 x h all)

placed_by_lowest : (point : Point) (e : ℕ × Row) → All Lowest point → Holds (placed_by point e) (All Lowest)
placed_by_lowest point e all =
    holds_chain (root e.0 point e.1) _ Lowest (All Lowest) (root_lowest e.0 point e.1) (λ x h. All-set Lowest point e.0 x h all)

-- each value of the point that an elimination leaves is in lowest terms
pub point_lowest : (n : ℕ) (s : Eliminated) → Holds (point_of n s) (All Lowest)
point_lowest n s =
    holds_chain (steps placed (zeros n) (reverse s.bounds)) _ (All Lowest) (All Lowest)
    (steps_hold placed (All Lowest) placed_lowest (reverse s.bounds) (zeros n) (All-replicate Lowest n (pos 0, pos 1) zero_lowest))
    (λ point all.
    steps_hold placed_by (All Lowest) placed_by_lowest (reverse s.aside) point all)

-- ---- and where its denominator is above 0, 1 is the greatest common divisor

gcd_one : (a b g : ℕ) → 0 < b → g ≤ 1 → IsGcd a b g → IsGcd a b 1
gcd_one a b zero l m is = absurd (nothing_divides b l is.1)
  where
    nothing_divides : (b : ℕ) → 0 < b → 0 ∣ b → ⊥
    nothing_divides b l h = let p = le_zero b l h in omega (arith, p, l)
      where
        le_zero : (b : ℕ) → 0 < b → 0 ∣ b → b ≤ 0
        le_zero b l h = let e = mul-div_cancel' 0 h in omega (arith, e)
gcd_one a b (suc zero) l m is = is
gcd_one a b (suc (suc g)) l m is = absurd (omega (arith, m))

lowest_is : (x : Fraction) → 0 < unsigned_abs x.1 → Lowest x → IsGcd (unsigned_abs x.0) (unsigned_abs x.1) 1
lowest_is x l low =
    gcd_one (unsigned_abs x.0) (unsigned_abs x.1) (divisor (unsigned_abs x.0) (unsigned_abs x.1)) l low
    (divides_both (unsigned_abs x.0) (unsigned_abs x.1))

pub all_lowest : (point : Point) → All (λ x. IsTrue (is_above x)) point → All Lowest point → All IsLowest point
all_lowest [] above low = All-nil IsLowest
all_lowest (x ∷ xs) above low =
    All-cons IsLowest x xs (lowest_is x (size x.1 (All-head (λ x. IsTrue (is_above x)) x xs above)) (All-head Lowest x xs low))
    (all_lowest xs (All-tail (λ x. IsTrue (is_above x)) x xs above) (All-tail Lowest x xs low))
  where
    size : (k : ℤ) → IsTrue (int_lt (pos 0) k) → 0 < unsigned_abs k
    size k h = grind (arith, ints, h)
