-- Multipliers that an elimination makes: none is 0, and that of an inequality isn't below 0.
use Rattle.std.proofs.Common.{◌≡◌, ℕ, Bool, true, false, List, [], ◌∷◌, Ok, refl, ap, ◌∙◌, arith, ℤ, pos, negsuc, ◌+ℤ◌, ◌-ℤ◌, ◌*ℤ◌, ◌/◌}
use Rattle.std.proofs.Common.{◌*◌, ◌+◌, if◌then◌else◌, nat_lt}
use Rattle.std.specs.Prelude.{All, int_lt, int_le}
use Rattle.std.proofs.lemmas.Int.{ints}
use Rattle.std.proofs.lemmas.List.Elements.{All-nil, All-head, All-tail, All-cons}
use lib.IntN.{pos-*ℤ-pos}
use Rattle.acc_rows.specs.declared.rows.Row.{Row}
use Rattle.acc_elim_systems.specs.Made.{MayStand as May, OfEquation as Of, Signed as IsSigned}
use Rattle.acc_rows.specs.Numbers.{kept, opposite, size}
use Rattle.acc_rows.specs.Sparse.{Sparse, at, mixture, mixed}
use Rattle.acc_rows.specs.Divisors.{quotient}
use Rattle.acc_rows.specs.Rows.{quotients, divided, divisor_of, lowest, made, has, cancelling, cleared_by, cleared, crossing}
use Rattle.acc_elim_systems.specs.Systems.{is_upper, is_lower, eliminated}
use Rattle.acc_rows.proofs.Worths.{Gives, gives_chain, gives_weaker, gives_both, kept_gives, mixture_gives, mixed_gives}
use Rattle.acc_elim_systems.proofs.Kept.{Keeps, EliminatedGood, eliminated_keeps}
use Rattle.acc_rows.proofs.Entries.{Entry, mixed_all}

-- ---- products of numbers that aren't below 0

from_zero : (n : ℕ) → int_le (pos 0) (pos n) ≡ true
from_zero n = grind (arith, ints)

of_signs : (p m : ℕ) → int_le (pos 0) (pos p *ℤ pos m) ≡ true
of_signs p m = ap (int_le (pos 0)) (pos-*ℤ-pos p m) ∙ from_zero (p * m)

not_below : (p m : ℤ) → int_le (pos 0) p ≡ true → int_le (pos 0) m ≡ true → int_le (pos 0) (p *ℤ m) ≡ true
not_below (pos p) (pos m) h k = of_signs p m
not_below (pos p) (negsuc m) h k = absurd (cc)
not_below (negsuc p) m h k = absurd (cc)

sum_not_below : (a b : ℤ) → int_le (pos 0) a ≡ true → int_le (pos 0) b ≡ true → int_le (pos 0) (a +ℤ b) ≡ true
sum_not_below (pos a) (pos b) h k = from_zero (a + b)
sum_not_below (pos a) (negsuc b) h k = absurd (cc)
sum_not_below (negsuc a) b h k = absurd (cc)

-- a number divided by what is above 0 keeps its sign
quotient_sign : (g : ℕ) (n : ℤ) → int_le (pos 0) n ≡ true → int_le (pos 0) (quotient g n) ≡ true
quotient_sign g (pos n) h = by (int_lt (pos n) (pos 0)) refl
  where
    by : (b : Bool) → int_lt (pos n) (pos 0) ≡ b → int_le (pos 0) (if b then pos 0 -ℤ pos (n / g) else pos (n / g)) ≡ true
    by true e = absurd (grind (arith, ints))
    by false e = from_zero (n / g)
quotient_sign g (negsuc n) h = absurd (cc)

cancelling_sign : (a : ℤ) → int_lt a (pos 0) ≡ true → int_le (pos 0) (a *ℤ negsuc 0) ≡ true
cancelling_sign a e =
    let h : a *ℤ negsuc 0 ≡ pos 0 -ℤ a = omega (arith, ints) in
    ap (int_le (pos 0)) h ∙ grind (arith, ints)

at_least : (a : ℤ) → int_lt a (pos 0) ≡ false → int_le (pos 0) a ≡ true
at_least a e = grind (arith, ints)

above_is : (a : ℤ) → int_lt (pos 0) a ≡ true → int_le (pos 0) a ≡ true
above_is a e = grind (arith, ints)

-- ---- the multipliers of a relation: `is_equation` tells which of the first relations are equations

module _ (is_equation : ℕ → Bool) where
  abbrev pub MayStand : Entry → Type 0
  MayStand m = May is_equation m

  abbrev pub OfEquation : Entry → Type 0
  OfEquation m = Of is_equation m

  abbrev pub Signed : Row → Type 0
  Signed r = IsSigned is_equation r

  contrary : (b : Bool) → b ≡ true → b ≡ false → ⊥
  contrary true e f = cc
  contrary false e f = cc

  quotients_may : (g : ℕ) (xs : Sparse) → All MayStand xs → All MayStand (quotients g xs)
  quotients_may g [] all = All-nil MayStand
  quotients_may g (t ∷ ts) all =
      All-cons MayStand (t.0, quotient g t.1) (quotients g ts) (λ e. quotient_sign g t.1 (All-head MayStand t ts all e))
      (quotients_may g ts (All-tail MayStand t ts all))

  quotients_equation : (g : ℕ) (xs : Sparse) → All OfEquation xs → All OfEquation (quotients g xs)
  quotients_equation g [] all = All-nil OfEquation
  quotients_equation g (t ∷ ts) all =
      All-cons OfEquation (t.0, quotient g t.1) (quotients g ts) (All-head OfEquation t ts all)
      (quotients_equation g ts (All-tail OfEquation t ts all))

  lowest_by : (r : Row) (g : ℕ) (b : Bool) → Signed r → Signed (if b then divided g r else r)
  lowest_by r g false h = h
  lowest_by r g true h =
      record { may = quotients_may g r.by h.may; equal = λ e. quotients_equation g r.by (h.equal e) }

  lowest_signed : (r : Row) → Signed r → Signed (lowest r)
  lowest_signed r h = lowest_by r (divisor_of r) (nat_lt 1 (divisor_of r)) h

  -- multipliers as those of an equation, or of an inequality, may be
  abbrev pub AreSigned : Bool → Sparse → Type 0
  AreSigned equal by = All MayStand by × (equal ≡ true → All OfEquation by)

  any_mixed : (p q : ℤ) (xs ys : Sparse) → Gives (mixed p q xs ys) (λ _. Unit {0})
  any_mixed p q xs ys = gives_weaker (mixed p q xs ys) _ (λ _. Unit {0}) (λ zs _. tt) (mixed_gives (λ _. pos 0) p q xs ys)

  made_if : (p : ℤ) (r : Row) (q : ℤ) (e : Row) (equal : Bool) → Gives (mixed p q r.by e.by) (AreSigned equal)
      → Gives (made p r q e equal) Signed
  made_if p r q e equal h =
      gives_chain (mixed p q r.terms e.terms) _ (λ _. Unit {0}) Signed (any_mixed p q r.terms e.terms) (λ terms _.
      gives_chain (mixture p r.constant q e.constant) _ (λ _. Unit {0}) Signed
      (gives_weaker (mixture p r.constant q e.constant) _ (λ _. Unit {0}) (λ v _. tt) (mixture_gives p r.constant q e.constant))
      (λ constant _.
      gives_chain (mixed p q r.by e.by) _ (AreSigned equal) Signed h
      (λ by a. lowest_signed (record { terms = terms; constant = constant; equal = equal; by = by })
      (record { may = a.0; equal = a.1 }))))

  -- an equation takes an unknown away: |p| times a relation, and any multiple of the equation
  module _ (p q : ℤ) (p_is : int_le (pos 0) p ≡ true) where
    by_equation_may : (xs ys : Sparse) → All MayStand xs → All OfEquation ys → Gives (mixed p q xs ys) (All MayStand)
    by_equation_may xs ys hx hy =
        mixed_all MayStand p q MayStand OfEquation (λ u m h e. not_below p m p_is (h e)) (λ u n h e. absurd (contrary (is_equation u) h e))
        (λ u m n h k _ e. absurd (contrary (is_equation u) k e)) xs ys hx hy

    by_equation_equal : (xs ys : Sparse) → All OfEquation xs → All OfEquation ys → Gives (mixed p q xs ys) (All OfEquation)
    by_equation_equal xs ys hx hy =
        mixed_all OfEquation p q OfEquation OfEquation (λ u m h. h) (λ u n h. h) (λ u m n h k _. h) xs ys hx hy

    by_equation : (equal : Bool) (xs ys : Sparse) → All MayStand xs → (equal ≡ true → All OfEquation xs) → All OfEquation ys
        → Gives (mixed p q xs ys) (AreSigned equal)
    by_equation true xs ys may eq hy =
        gives_both (mixed p q xs ys) (All MayStand) (All OfEquation) (λ zs m e. (m, λ _. e)) (by_equation_may xs ys may hy)
        (by_equation_equal xs ys (eq refl) hy)
    by_equation false xs ys may eq hy =
        gives_weaker (mixed p q xs ys) (All MayStand) (AreSigned false) (λ zs m. (m, λ e. absurd (cc))) (by_equation_may xs ys may hy)

    -- two inequalities
    by_bounds : int_le (pos 0) q ≡ true → (xs ys : Sparse) → All MayStand xs → All MayStand ys → Gives (mixed p q xs ys) (AreSigned false)
    by_bounds q_is xs ys hx hy =
        gives_weaker (mixed p q xs ys) (All MayStand) (AreSigned false) (λ zs m. (m, λ e. absurd (cc)))
        (mixed_all MayStand p q MayStand MayStand (λ u m h e. not_below p m p_is (h e)) (λ u n h e. not_below q n q_is (h e))
        (λ u m n h k _ e. sum_not_below (p *ℤ m) (q *ℤ n) (not_below p m p_is (h e)) (not_below q n q_is (k e))) xs ys hx hy)

  -- ---- the two kinds of made relations

  size_by : (a : ℤ) (b : Bool) → int_lt a (pos 0) ≡ b → Gives (if b then opposite a else Ok a) (λ p. int_le (pos 0) p ≡ true)
  size_by a true e =
      gives_weaker (kept (a *ℤ negsuc 0)) (λ m. m ≡ a *ℤ negsuc 0) (λ p. int_le (pos 0) p ≡ true)
      (λ m h. ap (int_le (pos 0)) h ∙ cancelling_sign a e) (kept_gives (a *ℤ negsuc 0))
  size_by a false e = at_least a e

  cancelling_any : (b : ℤ) (t : Bool) → Gives (if t then Ok b else opposite b) (λ _. Unit {0})
  cancelling_any b true = tt
  cancelling_any b false =
      gives_weaker (kept (b *ℤ negsuc 0)) (λ m. m ≡ b *ℤ negsuc 0) (λ _. Unit {0}) (λ m h. tt) (kept_gives (b *ℤ negsuc 0))

  cleared_when : (u : ℕ) (e r : Row) (b : Bool) → Signed e → e.equal ≡ true → Signed r
      → Gives (if b then cleared_by (at u e.terms) e (at u r.terms) r else Ok r) Signed
  cleared_when u e r false he equal hr = hr
  cleared_when u e r true he equal hr =
      gives_chain (size (at u e.terms)) _ (λ p. int_le (pos 0) p ≡ true) Signed
      (size_by (at u e.terms) (int_lt (at u e.terms) (pos 0)) refl) (λ p p_is.
      gives_chain (cancelling (at u e.terms) (at u r.terms)) _ (λ _. Unit {0}) Signed
      (cancelling_any (at u r.terms) (int_lt (at u e.terms) (pos 0))) (λ q _.
      made_if p r q e r.equal (by_equation p q p_is r.equal r.by e.by hr.may hr.equal (he.equal equal))))

  pub cleared_signed : (u : ℕ) (e r : Row) → Signed e → e.equal ≡ true → has u e ≡ true → Signed r → Gives (cleared u e r) Signed
  cleared_signed u e r he equal _ hr = cleared_when u e r (has u r) he equal hr

  pub crossing_signed : (u : ℕ) (up low : Row) → Signed up → is_upper u up ≡ true → Signed low → is_lower u low ≡ true
      → Gives (crossing u up low) Signed
  crossing_signed u up low hu upper hl lower =
      gives_chain (opposite (at u low.terms)) _ (λ q. int_le (pos 0) q ≡ true) Signed (size_by (at u low.terms) true lower) (λ q q_is.
      made_if (at u up.terms) low q up false (by_bounds (at u up.terms) q (above_is (at u up.terms) upper) q_is low.by up.by hl.may hu.may))

  -- the multipliers of what an elimination leaves, and of the false constant that ends it
  pub eliminated_signed : (n : ℕ) (rows : List Row) → All Signed rows
      → Keeps Signed (eliminated n rows) (EliminatedGood Signed cleared_signed crossing_signed)
  eliminated_signed n rows all = eliminated_keeps Signed cleared_signed crossing_signed n rows all
