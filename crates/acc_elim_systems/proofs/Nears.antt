-- Multipliers that an elimination makes are within 2^120 of 0.
use Rattle.std.proofs.Common.{◌≤◌, ◌/◌, ℕ, Bool, true, false, List, Ok, arith, ℤ, pos, negsuc, ◌-ℤ◌, ◌*ℤ◌, ◌≡◌, nat_lt, [], ◌∷◌}
use Rattle.std.proofs.Common.{if◌then◌else◌}
use Rattle.std.specs.Prelude.{All, int_lt, unsigned_abs}
use Rattle.std.proofs.Math.Nat.{div-le_self}
use Rattle.std.proofs.lemmas.Int.{ints}
use Rattle.std.proofs.lemmas.List.Elements.{All-nil, All-head, All-tail, All-cons}
use Rattle.acc_base.specs.declared.bounds.TheConstants.{LARGEST_SUM}
use Rattle.acc_base.specs.Bounded.{IsBounded}
use Rattle.acc_rows.specs.declared.rows.Row.{Row}
use Rattle.acc_rows.specs.Sparse.{Sparse, at, mixture, mixed}
use Rattle.acc_rows.specs.Numbers.{opposite, size}
use Rattle.acc_rows.specs.Divisors.{quotient}
use Rattle.acc_rows.specs.Rows.{quotients, divided, divisor_of, lowest, made, has, cancelling, cleared_by, cleared, crossing}
use Rattle.acc_elim_systems.specs.Systems.{is_upper, is_lower, eliminated}
use Rattle.acc_elim_systems.specs.Made.{IsNear, Near}
use Rattle.acc_rows.proofs.Worths.{Gives, gives_chain, gives_weaker, mixture_gives, mixed_gives}
use Rattle.acc_rows.proofs.Entries.{kept_bounded, mixed_near}
use Rattle.acc_elim_systems.proofs.Kept.{Keeps, EliminatedGood, eliminated_keeps}

-- ---- division makes no number larger

below_zero : (q n most : ℕ) → q ≤ n → n ≤ most → unsigned_abs (pos 0 -ℤ pos q) ≤ most
below_zero q n most small within = grind (arith, ints)

by_sign : (b : Bool) (q n most : ℕ) → q ≤ n → n ≤ most → unsigned_abs (if b then pos 0 -ℤ pos q else pos q) ≤ most
by_sign true q n most small within = below_zero q n most small within
by_sign false q n most small within = omega (arith, small, within)

quotient_near : (g : ℕ) (n : ℤ) → IsBounded n → IsBounded (quotient g n)
quotient_near g n within =
    by_sign (int_lt n (pos 0)) (unsigned_abs n / g) (unsigned_abs n) LARGEST_SUM (div-le_self (unsigned_abs n) g) within

quotients_near : (g : ℕ) (xs : Sparse) → All IsNear xs → All IsNear (quotients g xs)
quotients_near g [] all = All-nil IsNear
quotients_near g (t ∷ ts) all =
    All-cons IsNear (t.0, quotient g t.1) (quotients g ts) (quotient_near g t.1 (All-head IsNear t ts all))
    (quotients_near g ts (All-tail IsNear t ts all))

lowest_by : (r : Row) (g : ℕ) (b : Bool) → Near r → Near (if b then divided g r else r)
lowest_by r g false h = h
lowest_by r g true h = quotients_near g r.by h

-- ---- whatever a relation is made of, each of its multipliers is kept

made_near : (p : ℤ) (r : Row) (q : ℤ) (e : Row) (equal : Bool) → Gives (made p r q e equal) Near
made_near p r q e equal =
    gives_chain (mixed p q r.terms e.terms) _ (λ _. Unit {0}) Near
    (gives_weaker (mixed p q r.terms e.terms) _ (λ _. Unit {0}) (λ zs _. tt) (mixed_gives (λ _. pos 0) p q r.terms e.terms)) (λ terms _.
    gives_chain (mixture p r.constant q e.constant) _ (λ _. Unit {0}) Near
    (gives_weaker (mixture p r.constant q e.constant) _ (λ _. Unit {0}) (λ v _. tt) (mixture_gives p r.constant q e.constant))
    (λ constant _.
    gives_chain (mixed p q r.by e.by) _ (All IsNear) Near (mixed_near p q r.by e.by)
    (λ by b. lowest_of (record { terms = terms; constant = constant; equal = equal; by = by }) b)))
  where
    lowest_of : (r : Row) → Near r → Near (lowest r)
    lowest_of r h = lowest_by r (divisor_of r) (nat_lt 1 (divisor_of r)) h

opposite_near : (a : ℤ) → Gives (opposite a) IsBounded
opposite_near a = kept_bounded (a *ℤ negsuc 0)

size_any : (a : ℤ) (b : Bool) → Gives (if b then opposite a else Ok a) (λ _. Unit {0})
size_any a true = gives_weaker (opposite a) IsBounded (λ _. Unit {0}) (λ m _. tt) (opposite_near a)
size_any a false = tt

cancelling_any : (b : ℤ) (t : Bool) → Gives (if t then Ok b else opposite b) (λ _. Unit {0})
cancelling_any b true = tt
cancelling_any b false = gives_weaker (opposite b) IsBounded (λ _. Unit {0}) (λ m _. tt) (opposite_near b)

cleared_when : (u : ℕ) (e r : Row) (b : Bool) → Near r → Gives (if b then cleared_by (at u e.terms) e (at u r.terms) r else Ok r) Near
cleared_when u e r false hr = hr
cleared_when u e r true hr =
    gives_chain (size (at u e.terms)) _ (λ _. Unit {0}) Near (size_any (at u e.terms) (int_lt (at u e.terms) (pos 0))) (λ p _.
    gives_chain (cancelling (at u e.terms) (at u r.terms)) _ (λ _. Unit {0}) Near
    (cancelling_any (at u r.terms) (int_lt (at u e.terms) (pos 0))) (λ q _. made_near p r q e r.equal))

pub cleared_near : (u : ℕ) (e r : Row) → Near e → e.equal ≡ true → has u e ≡ true → Near r → Gives (cleared u e r) Near
cleared_near u e r he equal there hr = cleared_when u e r (has u r) hr

pub crossing_near : (u : ℕ) (up low : Row) → Near up → is_upper u up ≡ true → Near low → is_lower u low ≡ true
    → Gives (crossing u up low) Near
crossing_near u up low hu upper hl lower =
    gives_chain (opposite (at u low.terms)) _ IsBounded Near (opposite_near (at u low.terms))
    (λ q _. made_near (at u up.terms) low q up false)

pub eliminated_near : (unknowns : ℕ) (rows : List Row) → All Near rows
    → Keeps Near (eliminated unknowns rows) (EliminatedGood Near cleared_near crossing_near)
eliminated_near unknowns rows all = eliminated_keeps Near cleared_near crossing_near unknowns rows all
