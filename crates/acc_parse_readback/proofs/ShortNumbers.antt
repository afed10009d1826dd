-- How many digits numbers have: a sum has no more than its summands have together.
use Rattle.std.proofs.Common.{◌≡◌, ℕ, zero, suc, ◌+◌, ◌*◌, ◌^◌, ◌/◌, ◌%◌, ◌<◌, ◌≤◌, Bool, true, false, cond, List, [], ◌∷◌, length, refl}
use Rattle.std.proofs.Common.{arith, ℤ, pos, negsuc, ◌+ℤ◌}
use Rattle.std.specs.Prelude.{◌==◌, unsigned_abs, max}
use Rattle.std.specs.Fmt.{decimal, signed_decimal, digits, digits_onto, digit_glyph}
use Rattle.std.specs.Int.Digits.{digits_of}
use Rattle.std.proofs.lemmas.Bool.Decides.{nat_tests}
use Rattle.std.proofs.lemmas.Int.{ints}
use Rattle.std.proofs.lemmas.Nat.{pow-add}
use Rattle.std.proofs.lemmas.Int.Digits.{length-digits_of_step, length-digits_of-le, number_lt, number_digits_of, all_below_base_digits_of}

-- how many digits a number has; 0 has none
unfoldable pub digit_count : ℕ → ℕ
digit_count n = length (digits_of 10 n)

-- how many digits are written for it: 0 is one digit
abbrev pub number_size : ℕ → ℕ
number_size n = max 1 (digit_count n)

pub digit_count_le : (n k : ℕ) → n < 10 ^ k → digit_count n ≤ k
unfolding digit_count
digit_count_le n k h = length-digits_of-le 10 k n (omega arith) h

below : (n : ℕ) → n < 10 ^ digit_count n
unfolding digit_count
below n = omega (arith, number_lt 10 (digits_of 10 n) (all_below_base_digits_of 10 n (omega arith)), number_digits_of 10 n (omega arith))

one_more : (n : ℕ) → 0 < n → digit_count n ≡ digit_count (n / 10) + 1
unfolding digit_count
one_more n h = length-digits_of_step 10 n (omega arith) h

-- numbers below two factors are together below the product
below_product : (a b x y : ℕ) → a < x → b < y → a + b < x * y
below_product a b (suc x) (suc y) h g = omega (arith, mul_out x y)
  where
    mul_out : (x y : ℕ) → suc x * suc y ≡ x * y + (x + y + 1)
    mul_out x y = omega arith
below_product a b zero y h g = absurd (omega arith)
below_product a b (suc x) zero h g = absurd (omega arith)

pub digit_count_sum : (a b : ℕ) → digit_count (a + b) ≤ digit_count a + digit_count b
digit_count_sum a b =
    digit_count_le (a + b) (digit_count a + digit_count b)
    (omega (
      arith,
      pow-add 10 (digit_count a) (digit_count b),
      below_product a b (10 ^ digit_count a) (10 ^ digit_count b) (below a) (below b),
    ))

pub digit_count_mono : (a b : ℕ) → a ≤ b → digit_count a ≤ digit_count b
digit_count_mono a b h = digit_count_le a (digit_count b) (omega (arith, below b))

pub digit_count_none : digit_count 0 ≡ 0
unfolding digit_count
digit_count_none = refl

pub digit_count_some : (n : ℕ) → 1 ≤ digit_count (suc n)
digit_count_some n = omega (arith, one_more (suc n) (omega arith))

-- ---- signed numbers

pub digit_count_total : (a b : ℤ) → digit_count (unsigned_abs (a +ℤ b)) ≤ digit_count (unsigned_abs a) + digit_count (unsigned_abs b)
digit_count_total a b =
    let le : unsigned_abs (a +ℤ b) ≤ unsigned_abs a + unsigned_abs b = omega (arith, ints) in
    omega (
      arith,
      digit_count_mono (unsigned_abs (a +ℤ b)) (unsigned_abs a + unsigned_abs b) le,
      digit_count_sum (unsigned_abs a) (unsigned_abs b),
    )

-- ---- what is written

abbrev spelled_onto : ℕ → ℕ → List ℕ → List ℕ
spelled_onto k n acc = digits_onto k 10 false n acc

onto_step : (k n : ℕ) (acc : List ℕ) (b : Bool) → (n / 10 == 0) ≡ b →
    length (spelled_onto k (n / 10) (digit_glyph false (n % 10) ∷ acc)) ≤ number_size (n / 10) + length (digit_glyph false (n % 10) ∷ acc) →
    length (cond b (digit_glyph false (n % 10) ∷ acc) (spelled_onto k (n / 10) (digit_glyph false (n % 10) ∷ acc))) ≤ number_size n + length
    acc
onto_step k n acc true e h = omega arith
onto_step k n acc false e h =
    let some : 0 < n / 10 = grind (arith, nat_tests) in
    let first : 0 < n = omega arith in omega (arith, h, one_more n first, one_more (n / 10) some)

onto : (k n : ℕ) (acc : List ℕ) → length (spelled_onto k n acc) ≤ number_size n + length acc
onto zero n acc = omega arith
onto (suc k) n acc = onto_step k n acc (n / 10 == 0) refl (onto k (n / 10) (digit_glyph false (n % 10) ∷ acc))

pub decimal_short : (n : ℕ) → length (decimal n) ≤ number_size n
unfolding digits
decimal_short n = omega (arith, onto 64 n [])

pub signed_short : (n : ℤ) → length (signed_decimal n) ≤ 1 + number_size (unsigned_abs n)
signed_short (pos n) = omega (arith, decimal_short n)
signed_short (negsuc n) = omega (arith, decimal_short (suc n))
