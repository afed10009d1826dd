-- Which texts spell a number.
use Rattle.std.proofs.Common.{◌≡◌, ℕ, ◌^◌, ◌<◌, ◌≤◌, Bool, true, false, List, [], ◌∷◌, refl, sym, ap, subst, ◌∙◌, arith, suc, ℤ, pos}
use Rattle.std.proofs.Common.{negsuc, neg_ℤ, Option, None, Some, FitsSigned}
use Rattle.std.specs.Prelude.{◌==◌, ◌&&◌, if◌then◌else◌}
use Rattle.std.specs.Int.Signed.{mag}
use mir.Syntax.{Width}
use Rattle.std.specs.Fmt.{decimal, signed_decimal}
use Rattle.std.specs.Str.{bytes_eq}
use Rattle.std.specs.Str.Parse.{IsNumeral, without_leading_sign, digits_value, signed_digits_value}
use Rattle.std.proofs.lemmas.Bool.Decides.{nat_tests}
use Rattle.std.proofs.lemmas.Fmt.{decimal_is_IsNumeral_wide}
use Rattle.std.proofs.lemmas.Str.Parse.{digit_from_value}
use Rattle.std.proofs.lemmas.Slice.Eq.{bytes_eq-Decides}
use Rattle.std.specs.Int.{w64, w128}
use Rattle.acc_cert_bounds.specs.InBounds.{is_near, is_narrow}
use Rattle.acc_cert_read.specs.Spellings.{number_within}

-- digits begin with no sign
no_sign : (ds : List ℕ) → IsNumeral 10 ds → without_leading_sign ds ≡ ds
no_sign [] k = absurd (omega (arith, k.0))
no_sign (c ∷ cs) k =
    let d = digit_from_value c k.1.0 in
    let minus : (c == 45) ≡ false = grind (arith, nat_tests) in
    let plus : (c == 43) ≡ false = grind (arith, nat_tests) in
    rw (minus, plus) refl

-- a number's spelling is digits behind a sign
numeral : (z : ℤ) → mag z < 10 ^ 63 → IsNumeral 10 (without_leading_sign (signed_decimal z))
numeral (pos n) h =
    let k = decimal_is_IsNumeral_wide n (omega arith) in subst (IsNumeral 10) (sym (no_sign (decimal n) k.0)) k.0
numeral (negsuc n) h = (decimal_is_IsNumeral_wide (suc n) (omega arith)).0

neither : (a b : Bool) (o : Option ℤ) → (a ≡ true → b ≡ true → ⊥) → (if a && b then o else None) ≡ None
neither true true o h = absurd (h refl refl)
neither true false o h = refl
neither false b o h = refl

-- what isn't read as a number of a type spells none that the type holds
pub no_number : (w : Width) (fits : ℤ → Bool) → ((z : ℤ) → fits z ≡ true → FitsSigned w z × (mag z < 10 ^ 63)) → (s : List ℕ)
    → ¬ (IsNumeral 10 (without_leading_sign s) × FitsSigned w (signed_digits_value 10 s)) → number_within fits s ≡ None
no_number w fits holds s unread =
    let z = signed_digits_value 10 s in
    neither (fits z) (bytes_eq (signed_decimal z) s) (Some z) (λ f b.
    let same : signed_decimal z ≡ s = (bytes_eq-Decides (signed_decimal z) s).0 b in
    unread (subst (λ t. IsNumeral 10 (without_leading_sign t)) same (numeral z (holds z f).1), (holds z f).0))

pub wide_holds : (z : ℤ) → is_near z ≡ true → FitsSigned w128 z × (mag z < 10 ^ 63)
wide_holds (pos n) h = let small : n ≤ 2 ^ 120 = grind (arith, nat_tests) in (record { sfits = omega arith }, omega arith)
wide_holds (negsuc n) h = let small : suc n ≤ 2 ^ 120 = grind (arith, nat_tests) in (record { sfits = omega arith }, omega arith)

pub narrow_holds : (z : ℤ) → is_narrow z ≡ true → FitsSigned w64 z × (mag z < 10 ^ 63)
narrow_holds (pos n) h = let small : n < 2 ^ 63 = grind (arith, nat_tests) in (record { sfits = omega arith }, omega arith)
narrow_holds (negsuc n) h = let small : suc n ≤ 2 ^ 63 = grind (arith, nat_tests) in (record { sfits = omega arith }, omega arith)

sign_of : (ds : List ℕ) → IsNumeral 10 ds → signed_digits_value 10 ds ≡ pos (digits_value 10 ds)
sign_of [] k = absurd (omega (arith, k.0))
sign_of (c ∷ cs) k =
    let d = digit_from_value c k.1.0 in
    let minus : (c == 45) ≡ false = grind (arith, nat_tests) in
    let plus : (c == 43) ≡ false = grind (arith, nat_tests) in
    rw (minus, plus) refl

-- a spelling has its number's value
value_of : (z : ℤ) → mag z < 10 ^ 63 → signed_digits_value 10 (signed_decimal z) ≡ z
value_of (pos n) h = let k = decimal_is_IsNumeral_wide n (omega arith) in sign_of (decimal n) k.0 ∙ ap pos k.1
value_of (negsuc n) h = ap (λ m. neg_ℤ (pos m)) (decimal_is_IsNumeral_wide (suc n) (omega arith)).1

-- and a number is read from its spelling
pub number_read : (w : Width) (fits : ℤ → Bool) → ((z : ℤ) → fits z ≡ true → FitsSigned w z × (mag z < 10 ^ 63)) → (z : ℤ) → fits z ≡ true
    → number_within fits (signed_decimal z) ≡ Some z
number_read w fits holds z f =
    let same : bytes_eq (signed_decimal z) (signed_decimal z) ≡ true = (bytes_eq-Decides (signed_decimal z) (signed_decimal z)).1 refl in
    rw (value_of z (holds z f).1, f, same) refl
