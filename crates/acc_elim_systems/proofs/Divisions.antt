-- Division by what divides all numbers of a relation, and that each made relation is the sum of its multiples.
use Rattle.std.proofs.Common.{◌≡◌, ◌==◌, ◌%◌, ◌*◌, ◌/◌, ℕ, zero, suc, ◌<◌, Bool, true, false, List, [], ◌∷◌, Ok, refl, ap, sym, ◌∙◌, arith}
use Rattle.std.proofs.Common.{ℤ, pos, negsuc, ◌+ℤ◌, ◌-ℤ◌, ◌*ℤ◌, nat_lt, if◌then◌else◌}
use Rattle.std.specs.Prelude.{All, int_lt, unsigned_abs}
use Rattle.std.specs.Int.{IsGcd}
use Prim.Native.Nat.{◌∣◌}
use Rattle.std.proofs.Math.Nat.{mod-lt, mul-div_cancel'}
use Rattle.std.proofs.lemmas.Nat.Gcd.{IsGcd-from_zero, IsGcd-from_mod, dvd_refl, dvd_trans}
use Rattle.std.proofs.lemmas.Int.{ints, unsigned_abs-mul}
use Rattle.std.proofs.lemmas.Bool.Decides.{nat_tests}
use Rattle.std.proofs.lemmas.List.Elements.{All-nil, All-head, All-tail, All-cons}
use lib.IntN.{*ℤ-zero, pos-*ℤ-pos}
use Rattle.acc_base.proofs.Products.{times_sum, times_times}
use Rattle.acc_rows.specs.declared.rows.Row.{Row}
use Rattle.acc_base.specs.Collecting.{worth}
use Rattle.acc_elim_systems.specs.Made.{Sums as IsSum}
use Rattle.acc_rows.specs.Numbers.{kept, opposite, size}
use Rattle.acc_rows.specs.Sparse.{Sparse, at, mixture, mixed}
use Rattle.acc_rows.specs.Divisors.{divisor_within, divisor, common, quotient}
use Rattle.acc_rows.specs.Rows.{numbers, quotients, divided, divisor_of, lowest, made, has, cancelling, cleared_by, cleared, crossing}
use Rattle.acc_rows.proofs.Worths.{Gives, gives_chain, mixture_gives, mixed_gives, kept_gives, gives_weaker}
use Rattle.acc_elim_systems.specs.Systems.{is_upper, is_lower, eliminated}
use Rattle.acc_elim_systems.proofs.Kept.{Keeps, EliminatedGood, eliminated_keeps}

-- ---- the divisor divides

is_nothing : (b : ℕ) → (b == 0) ≡ true → b ≡ 0
is_nothing b e = grind (arith, nat_tests)

is_above : (b : ℕ) → (b == 0) ≡ false → 0 < b
is_above b e = grind (arith, nat_tests)

gcd_by : (a b g : ℕ) (t : Bool) → (b == 0) ≡ t → (t ≡ false → IsGcd b (a % b) g) → IsGcd a b (if t then a else g)
gcd_by a b g true e h = IsGcd-from_zero a b (is_nothing b e)
gcd_by a b g false e h = IsGcd-from_mod a b g (h refl)

is_gcd : (f a b : ℕ) → b < f → IsGcd a b (divisor_within f a b)
is_gcd zero a b p = absurd (omega (arith, p))
is_gcd (suc f) a b p =
    gcd_by a b (divisor_within f b (a % b)) (b == 0) refl (λ e. let m = mod-lt a (is_above b e) in is_gcd f b (a % b) (omega (arith, m, p)))

pub divides_both : (a b : ℕ) → IsGcd a b (divisor a b)
divides_both a b = is_gcd (suc b) a b (omega arith)

abbrev pub Divides : ℕ → ℤ → Type 0
Divides g n = g ∣ unsigned_abs n

all_weaker : (c g : ℕ) → c ∣ g → (ns : List ℤ) → All (Divides g) ns → All (Divides c) ns
all_weaker c g h [] all = All-nil (Divides c)
all_weaker c g h (n ∷ ns) all =
    All-cons (Divides c) n ns (dvd_trans _ h (All-head (Divides g) n ns all)) (all_weaker c g h ns (All-tail (Divides g) n ns all))

pub common_divides : (g : ℕ) (ns : List ℤ) → (common g ns ∣ g) × All (Divides (common g ns)) ns
common_divides g [] = (dvd_refl g, All-nil (Divides g))
common_divides g (n ∷ ns) =
    let d = divides_both g (unsigned_abs n) in
    let h = common_divides (divisor g (unsigned_abs n)) ns in
    (dvd_trans _ h.0 d.0, All-cons (Divides (common (divisor g (unsigned_abs n)) ns)) n ns (dvd_trans _ h.0 d.1) h.1)

-- ---- a number divided by what divides it

quotient_by : (g q : ℕ) (n : ℤ) (b : Bool) → int_lt n (pos 0) ≡ b → g * q ≡ unsigned_abs n
    → pos g *ℤ (if b then pos 0 -ℤ pos q else pos q) ≡ n
quotient_by g q n true e h =
    let whole = pos-*ℤ-pos g q in
    let parts = times_sum (pos g) (pos 0 -ℤ pos q) (pos q) in
    let none : (pos 0 -ℤ pos q) +ℤ pos q ≡ pos 0 = omega (arith, ints) in
    let zero_is = ap (λ z. pos g *ℤ z) none ∙ *ℤ-zero (pos g) in
    let p : pos (g * q) ≡ pos (unsigned_abs n) = ap pos h in
    negative n e (pos g *ℤ (pos 0 -ℤ pos q)) (omega (arith, ints, whole, parts, zero_is, p))
  where
    negative : (n : ℤ) → int_lt n (pos 0) ≡ true → (z : ℤ) → z ≡ pos 0 -ℤ pos (unsigned_abs n) → z ≡ n
    negative n e z h = grind (arith, ints)
quotient_by g q n false e h = pos-*ℤ-pos g q ∙ (ap pos h ∙ positive n e)
  where
    positive : (n : ℤ) → int_lt n (pos 0) ≡ false → pos (unsigned_abs n) ≡ n
    positive n e = grind (arith, ints)

pub quotient_times : (g : ℕ) (n : ℤ) → Divides g n → pos g *ℤ quotient g n ≡ n
quotient_times g n h = quotient_by g (unsigned_abs n / g) n (int_lt n (pos 0)) refl (mul-div_cancel' g h)

-- ---- a factor above 0 is taken away on both sides

no_factor : (g m : ℕ) → 0 < g → g * m ≡ 0 → m ≡ 0
no_factor g zero h e = refl
no_factor g (suc m) h e = absurd (omega (arith, h, e))

cancel : (g : ℕ) (x y : ℤ) → 0 < g → pos g *ℤ x ≡ pos g *ℤ y → x ≡ y
cancel g x y h e =
    let sum = times_sum (pos g) (x -ℤ y) y in
    let back : (x -ℤ y) +ℤ y ≡ x = omega (arith, ints) in
    let again = ap (λ z. pos g *ℤ z) back in
    let none : pos g *ℤ (x -ℤ y) ≡ pos 0 = omega (arith, ints, sum, again, e) in
    let small : g * unsigned_abs (x -ℤ y) ≡ 0 = sym (unsigned_abs-mul (pos g) (x -ℤ y)) ∙ ap unsigned_abs none in
    let gone = no_factor g (unsigned_abs (x -ℤ y)) h small in
    omega (arith, ints, gone)

module _ (f : ℕ → ℤ) where
  worth_quotients : (g : ℕ) (xs : Sparse) → All (Divides g) (numbers xs) → pos g *ℤ worth f (quotients g xs) ≡ worth f xs
  worth_quotients g [] all = *ℤ-zero (pos g)
  worth_quotients g (t ∷ ts) all =
      let rest = worth_quotients g ts (All-tail (Divides g) t.1 (numbers ts) all) in
      let here = ap (λ z. z *ℤ f t.0) (quotient_times g t.1 (All-head (Divides g) t.1 (numbers ts) all)) in
      let moved = times_times (pos g) (quotient g t.1) (f t.0) in
      let parts = times_sum (pos g) (quotient g t.1 *ℤ f t.0) (worth f (quotients g ts)) in
      omega (arith, ints, rest, here, moved, parts)

-- ---- each made relation is the sum of its multiples

module _ (f base : ℕ → ℤ) where
  -- whatever the unknowns are worth (f), the relation's form is worth what the multiples of the first ones (base) are worth together
  abbrev pub Sums : Row → Type 0
  Sums r = IsSum f base r

  lowest_by : (r : Row) (g : ℕ) (b : Bool) → nat_lt 1 g ≡ b → All (Divides g) (r.constant ∷ []) → All (Divides g) (numbers r.terms)
      → All (Divides g) (numbers r.by) → Sums r → Sums (if b then divided g r else r)
  lowest_by r g false e c t m h = h
  lowest_by r g true e c t m h =
      let above : 0 < g = grind (arith, nat_tests) in
      let terms = worth_quotients f g r.terms t in
      let by = worth_quotients base g r.by m in
      let constant = quotient_times g r.constant (All-head (Divides g) r.constant [] c) in
      let parts = times_sum (pos g) (worth f (quotients g r.terms)) (quotient g r.constant) in
      cancel g (worth f (quotients g r.terms) +ℤ quotient g r.constant) (worth base (quotients g r.by)) above
      (omega (arith, ints, terms, by, constant, parts, h))

  lowest_sums : (r : Row) → Sums r → Sums (lowest r)
  lowest_sums r h =
      let one = common_divides 0 (r.constant ∷ []) in
      let two = common_divides (common 0 (r.constant ∷ [])) (numbers r.terms) in
      let three = common_divides (common (common 0 (r.constant ∷ [])) (numbers r.terms)) (numbers r.by) in
      lowest_by r (divisor_of r) (nat_lt 1 (divisor_of r)) refl
      (all_weaker (divisor_of r) _ (dvd_trans _ three.0 two.0) (r.constant ∷ []) one.1)
      (all_weaker (divisor_of r) _ three.0 (numbers r.terms) two.1) three.1 h

  pub made_sums : (p : ℤ) (r : Row) (q : ℤ) (e : Row) (equal : Bool) → Sums r → Sums e → Gives (made p r q e equal) Sums
  made_sums p r q e equal hr he =
      gives_chain (mixed p q r.terms e.terms) _ (λ zs. worth f zs ≡ p *ℤ worth f r.terms +ℤ q *ℤ worth f e.terms) Sums
      (mixed_gives f p q r.terms e.terms) (λ terms t.
      gives_chain (mixture p r.constant q e.constant) _ (λ v. v ≡ p *ℤ r.constant +ℤ q *ℤ e.constant) Sums
      (mixture_gives p r.constant q e.constant) (λ constant k.
      gives_chain (mixed p q r.by e.by) _ (λ zs. worth base zs ≡ p *ℤ worth base r.by +ℤ q *ℤ worth base e.by) Sums
      (mixed_gives base p q r.by e.by) (λ by m.
      let one = times_sum p (worth f r.terms) r.constant in
      let two = times_sum q (worth f e.terms) e.constant in
      let first = ap (λ z. p *ℤ z) hr in
      let second = ap (λ z. q *ℤ z) he in
      lowest_sums (record { terms = terms; constant = constant; equal = equal; by = by })
      (omega (arith, ints, t, k, m, one, two, first, second)))))

  size_by : (a : ℤ) (b : Bool) → Gives (if b then opposite a else Ok a) (λ m. Unit {0})
  size_by a true = gives_weaker (kept (a *ℤ negsuc 0)) (λ m. m ≡ a *ℤ negsuc 0) (λ m. Unit {0}) (λ m h. tt) (kept_gives (a *ℤ negsuc 0))
  size_by a false = tt

  cancelling_by : (b : ℤ) (t : Bool) → Gives (if t then Ok b else opposite b) (λ m. Unit {0})
  cancelling_by b true = tt
  cancelling_by b false =
      gives_weaker (kept (b *ℤ negsuc 0)) (λ m. m ≡ b *ℤ negsuc 0) (λ m. Unit {0}) (λ m h. tt) (kept_gives (b *ℤ negsuc 0))

  cleared_when : (u : ℕ) (e r : Row) (b : Bool) → Sums e → Sums r
      → Gives (if b then cleared_by (at u e.terms) e (at u r.terms) r else Ok r) Sums
  cleared_when u e r false he hr = hr
  cleared_when u e r true he hr =
      gives_chain (size (at u e.terms)) _ (λ m. Unit {0}) Sums (size_by (at u e.terms) (int_lt (at u e.terms) (pos 0))) (λ p _.
      gives_chain (cancelling (at u e.terms) (at u r.terms)) _ (λ m. Unit {0}) Sums
      (cancelling_by (at u r.terms) (int_lt (at u e.terms) (pos 0)))
      (λ q _. made_sums p r q e r.equal hr he))

  pub cleared_sums : (u : ℕ) (e r : Row) → Sums e → e.equal ≡ true → has u e ≡ true → Sums r → Gives (cleared u e r) Sums
  cleared_sums u e r he equal _ hr = cleared_when u e r (has u r) he hr

  pub crossing_sums : (u : ℕ) (up low : Row) → Sums up → is_upper u up ≡ true → Sums low → is_lower u low ≡ true
      → Gives (crossing u up low) Sums
  crossing_sums u up low hu _ hl _ =
      gives_chain (opposite (at u low.terms)) _ (λ m. Unit {0}) Sums (cancelling_by (at u low.terms) false)
      (λ q _. made_sums (at u up.terms) low q up false hl hu)

  -- what an elimination leaves, and the false constant that ends it, are sums of the relations that it began with
  pub eliminated_sums : (n : ℕ) (rows : List Row) → All Sums rows
      → Keeps Sums (eliminated n rows) (EliminatedGood Sums cleared_sums crossing_sums)
  eliminated_sums n rows all = eliminated_keeps Sums cleared_sums crossing_sums n rows all
