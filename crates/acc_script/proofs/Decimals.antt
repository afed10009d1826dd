-- Which words spell a number.
use Rattle.std.proofs.Common.{◌≡◌, ◌≢◌, ℕ, ◌+◌, ◌*◌, ◌^◌, ◌<◌, ◌≤◌, Bool, true, false, List, [], ◌∷◌, length, get_or, take, refl, ap, sym}
use Rattle.std.proofs.Common.{rules, subst, ◌∙◌, arith, zero, suc, ℤ, pos, negsuc, Option, None, Some, MatchOption}
use Rattle.std.specs.Prelude.{◌==◌, ◌||◌, ◌&&◌, not}
use Rattle.std.specs.Char.{is_ascii_digit, digit_value}
use Rattle.std.specs.Cmp.{first_so, second_so}
use Rattle.std.specs.Fmt.{decimal, signed_decimal}
use Rattle.std.specs.List.{list_all}
use Rattle.std.specs.Int.Signed.{mag}
use Rattle.std.specs.Str.Parse.{digits_value}
use Rattle.std.proofs.lemmas.Bool.Decides.{nat_tests}
use Rattle.std.proofs.lemmas.Int.Digits.{digits_value_more}
use Rattle.std.proofs.lemmas.Fmt.{decimal_digit, digits_decimal, digits_value-decimal, decimal_nonempty, first_decimal}
use Rattle.std.proofs.lemmas.Fmt.{decimal-digits_value, decimal_injective, signed_decimal_injective}
use Rattle.std.proofs.lemmas.Str.Parse.{IsNumeralModel, numerals_by_value, digits_value-take-le}
use Rattle.acc_base.specs.Numbers.{IsSmall}
use Rattle.acc_script.specs.Pieces.{is_blank}
use Rattle.acc_script.specs.Numerals.{is_numeral}

abbrev AreDigits : List ℕ → Type 0
AreDigits ds = list_all is_ascii_digit ds ≡ true

own : IsNumeralModel AreDigits (digits_value 10)
own = numerals_by_value AreDigits (search rules)

-- each digit read is a digit, and the value only grows
pub digit_at : (ds : List ℕ) (i : ℕ) → i < length ds → list_all is_ascii_digit ds ≡ true → is_ascii_digit (get_or ds i 0) ≡ true
digit_at [] i h g = absurd (omega arith)
digit_at (c ∷ cs) zero h g = first_so (is_ascii_digit c) (list_all is_ascii_digit cs) g
digit_at (c ∷ cs) (suc i) h g = digit_at cs i (omega arith) (second_so (is_ascii_digit c) (list_all is_ascii_digit cs) g)

pub digit_low : (b : ℕ) → is_ascii_digit b ≡ true → 48 ≤ b
digit_low b h = grind (arith, nat_tests)

pub digit_is : (b : ℕ) → is_ascii_digit b ≡ true → digit_value b + 48 ≡ b
digit_is b h = grind (arith, nat_tests)

pub value_grows : (ds : List ℕ) (i : ℕ) → i < length ds →
    digits_value 10 (take i ds) * 10 + digit_value (get_or ds i 0) ≤ digits_value 10 ds
value_grows ds i h = omega (arith, digits_value_more 10 ds i h, digits_value-take-le 10 ds (i + 1) (omega arith))

-- a numeral is made of digits
pub numeral_digits : (ds : List ℕ) → is_numeral ds ≡ true → list_all is_ascii_digit ds ≡ true
numeral_digits [] h = cc
numeral_digits (c ∷ cs) h = by (is_ascii_digit c) (list_all is_ascii_digit cs) (not (c == 48) || is_blank cs) h
  where
    by : (a b z : Bool) → (a && (b && z)) ≡ true → (a && b) ≡ true
    by true true z g = refl
    by true false z g = cc
    by false b z g = cc

-- and spells its value
pub numeral_spells : (ds : List ℕ) → is_numeral ds ≡ true → digits_value 10 ds < 2 ^ 64 → ds ≡ decimal (digits_value 10 ds)
numeral_spells [] h g = cc
numeral_spells (c ∷ cs) h g = sym (decimal-digits_value own (c ∷ cs) (numeral_digits (c ∷ cs) h) (omega arith)
    (λ zero_first. alone cs (by (is_ascii_digit c) (list_all is_ascii_digit cs) (not (c == 48)) (is_blank cs) h (no c zero_first))) g)
  where
    by : (a b y z : Bool) → (a && (b && (y || z))) ≡ true → y ≡ false → z ≡ true
    by a b y true e n = refl
    by true true y false e n = cc
    by true false y false e n = cc
    by false b y false e n = cc

    no : (x : ℕ) → x ≡ 48 → not (x == 48) ≡ false
    no x e = ap (λ z. not (z == 48)) e

    alone : (xs : List ℕ) → is_blank xs ≡ true → suc (length xs) ≡ 1
    alone [] e = refl
    alone (x ∷ xs) e = cc

-- what a number is spelled by is a numeral
pub spelled_numeral : (n : ℕ) → n < 2 ^ 64 → is_numeral (decimal n) ≡ true
spelled_numeral zero h = ap is_numeral (decimal_digit 0 (omega arith))
spelled_numeral (suc n) h = by (decimal (suc n)) (decimal_nonempty (suc n) h) (first_decimal (suc n) (omega arith) h)
    (digits_decimal own (suc n) h)
  where
    by : (ds : List ℕ) → 0 < length ds → 48 < get_or ds 0 0 → list_all is_ascii_digit ds ≡ true → is_numeral ds ≡ true
    by [] some first digits = absurd (omega arith)
    by (c ∷ cs) some first digits = all (is_ascii_digit c) (list_all is_ascii_digit cs) (c == 48) (is_blank cs) digits (other c first)
      where
        other : (x : ℕ) → 48 < x → (x == 48) ≡ false
        other x g = grind (arith, nat_tests)

        all : (a b y z : Bool) → (a && b) ≡ true → y ≡ false → (a && (b && (not y || z))) ≡ true
        all true true true z e n = cc
        all true true false z e n = refl
        all true false y z e n = cc
        all false b y z e n = cc

-- what isn't a numeral spells no number
pub no_numeral : (word : List ℕ) → is_numeral word ≡ false → (n : ℕ) → n < 2 ^ 64 → word ≢ decimal n
no_numeral word h n below e = let wrong : true ≡ false = sym (spelled_numeral n below) ∙ (ap is_numeral (sym e) ∙ h) in cc

-- and a numeral spells its value, or too large a number
pub natural_answers : (word : List ℕ) (o : Option ℕ) → is_numeral word ≡ true →
    MatchOption o (2 ^ 64 ≤ digits_value 10 word) (λ value. (value < 2 ^ 64) × (value ≡ digits_value 10 word)) →
    MatchOption o ((n : ℕ) → n < 2 ^ 64 → word ≢ decimal n) (λ n. (n < 2 ^ 64) × (word ≡ decimal n))
natural_answers word None h large = λ n below e. absurd
    (omega (arith, large, below, sym (digits_value-decimal own n below), ap (digits_value 10) e))
natural_answers word (Some v) h is = (is.0, subst (λ n. word ≡ decimal n) (sym is.1) (numeral_spells word h (omega arith)))

-- a number is spelled in one way
pub one_number : (word : List ℕ) (m n : ℕ) → m < 2 ^ 64 → n < 2 ^ 64 → word ≡ decimal m → word ≡ decimal n → m ≡ n
one_number word m n a b e f = decimal_injective m n a b (sym e ∙ f)

-- no number's digits begin with a minus
pub no_minus : (n : ℕ) (digits : List ℕ) → n < 2 ^ 64 → 45 ∷ digits ≢ decimal n
no_minus n digits h e = let d : is_numeral (45 ∷ digits) ≡ true = ap is_numeral e ∙ spelled_numeral n h in cc d

-- a minus before what spells no number other than 0
pub no_negative : (word digits : List ℕ) → word ≡ 45 ∷ digits → ((n : ℕ) → n ≤ 2 ^ 45 → 0 < n → digits ≢ decimal n) → (v : ℤ) → IsSmall v →
    word ≢ signed_decimal v
no_negative word digits w none (pos n) small e = no_minus n digits (omega arith) (sym w ∙ e)
no_negative word digits w none (negsuc n) small e = none (suc n) small (omega arith) (let f : digits ≡ decimal (suc n) = cc in f)

-- a number within 2^45 of 0 is spelled in one way
pub small_once : (x y : ℤ) → IsSmall x → IsSmall y → signed_decimal x ≡ signed_decimal y → x ≡ y
small_once x y p q e = signed_decimal_injective x y (magnitude x p) (magnitude y q) e
  where
    magnitude : (z : ℤ) → IsSmall z → mag z < 2 ^ 63
    magnitude (pos n) h = omega arith
    magnitude (negsuc n) h = omega arith
