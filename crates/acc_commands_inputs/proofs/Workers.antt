-- Which number a word tells.
use Rattle.std.proofs.Common.{⊎_elim, ◌≡◌, ◌≢◌, ◌<◌, ◌^◌, ℕ, Bool, true, false, List, [], ◌∷◌, length, get_or, map, refl, sym, ap}
use Rattle.std.proofs.Common.{subst, ◌∙◌, arith, drop, Option, None, Some, Result, Ok, Global, string_bytes}
use Rattle.std.specs.Prelude.{◌⊎◌, ◌&&◌, if◌then◌else◌, option_map, String, decimal, MatchOption}
use Rattle.std.specs.Str.{bytes_eq}
use Rattle.std.specs.Str.Parse.{digits_value, ParsesUnsigned}
use Rattle.std.proofs.lemmas.Bool.Decides.{nat_tests}
use Rattle.std.proofs.lemmas.Fmt.{decimal_is_IsNumeral, parse-decimal}
use Rattle.std.proofs.lemmas.Slice.Eq.{bytes_eq-Decides}
use Rattle.acc_commands_inputs.specs.declared.words.Command.{Command}
use Rattle.acc_commands_inputs.specs.Scales.{IsWithin, is_within}
use Rattle.acc_commands_inputs.specs.Words.{number_of, number_in}

-- the numeral of a number within bounds tells that
pub number_of_numeral : (least most n : ℕ) → most < 2 ^ 64 → IsWithin least most n → number_of least most (decimal n) ≡ Some n
number_of_numeral least most n small few =
    let within : is_within least most n ≡ true = grind (arith, nat_tests, few) in
    let same : bytes_eq (decimal n) (decimal n) ≡ true = (bytes_eq-Decides (decimal n) (decimal n)).1 refl in
    rw ((decimal_is_IsNumeral n (omega (arith, few, small))).1, within, same) refl

neither : (a b : Bool) (o : Option ℕ) → (a ≡ true → b ≡ true → ⊥) → (if a && b then o else None) ≡ None
neither true true o h = absurd (h refl refl)
neither true false o h = refl
neither false b o h = refl

-- and any other word tells none
no_number : (least most : ℕ) (word : List ℕ) → ((n : ℕ) → IsWithin least most n → word ≢ decimal n) → number_of least most word ≡ None
no_number least most word none =
    let n = digits_value 10 word in
    neither (is_within least most n) (bytes_eq (decimal n) word) (Some n)
    (λ within same. none n (grind (arith, nat_tests, within)) (sym ((bytes_eq-Decides (decimal n) word).0 same)))

-- so what is found of a word is what it tells
pub number_found : (least most : ℕ) (word : List ℕ) (found : Option ℕ) → most < 2 ^ 64
    → MatchOption found ((n : ℕ) → IsWithin least most n → word ≢ decimal n) (λ n. IsWithin least most n × (word ≡ decimal n))
    → found ≡ number_of least most word
number_found least most word None small h = sym (no_number least most word h)
number_found least most word (Some n) small h = sym (ap (number_of least most) h.1 ∙ number_of_numeral least most n small h.0)

-- the word behind three others tells the number, of which a command is made
pub last_word : (of : ℕ → Command) (least most : ℕ) (words : List (String Global)) (word : String Global) → length words ≡ 4
    → word ≡ get_or words 3 word
    → option_map of (number_in least most (drop 3 (map string_bytes words))) ≡ option_map of (number_of least most (string_bytes word))
last_word of least most (a ∷ b ∷ c ∷ d ∷ []) word four is = ap (λ w. option_map of (number_of least most (string_bytes w))) (sym is)
last_word of least most [] word four is = absurd (omega (arith, four))
last_word of least most (a ∷ []) word four is = absurd (omega (arith, four))
last_word of least most (a ∷ b ∷ []) word four is = absurd (omega (arith, four))
last_word of least most (a ∷ b ∷ c ∷ []) word four is = absurd (omega (arith, four))
last_word of least most (a ∷ b ∷ c ∷ d ∷ e ∷ more) word four is = absurd (omega (arith, four))

-- the numeral of a number within bounds is read as that
pub numeral_read : {E : Type 0} (least most : ℕ) (word : List ℕ) (n : ℕ) (r : Result ℕ E) → most < 2 ^ 64 → ParsesUnsigned 64 10 word r
    → IsWithin least most n → word ≡ decimal n → r ≡ Ok n
numeral_read least most word n r small read few is =
    parse-decimal 64 n word r (omega (arith, few, small)) (omega (arith, few, small)) is read

ok_same : {E : Type 0} (m n : ℕ) → ◌≡◌ {A = Result ℕ E} (Ok m) (Ok n) → m ≡ n
ok_same m n e = cc

not_both : (b : Bool) → b ≡ true → b ≡ false → ⊥
not_both b h k = cc

-- what is read as another number is none
pub other_numeral : {E : Type 0} (least most : ℕ) (word : List ℕ) (m : ℕ) (r : Result ℕ E) → most < 2 ^ 64 → ParsesUnsigned 64 10 word r
    → r ≡ Ok m → is_within least most m ≡ false ⊎ bytes_eq (decimal m) word ≡ false → (n : ℕ) → IsWithin least most n → word ≢ decimal n
other_numeral {E} least most word m r small read is other n few same =
    let one : m ≡ n = ok_same {E = E} m n (sym is ∙ numeral_read least most word n r small read few same) in
    let within : is_within least most m ≡ true = subst (λ k. is_within least most k ≡ true) (sym one) (grind (arith, nat_tests, few)) in
    let spelled : bytes_eq (decimal m) word ≡ true = (bytes_eq-Decides (decimal m) word).1 (ap decimal one ∙ sym same) in
    ⊎_elim (not_both (is_within least most m) within) (not_both (bytes_eq (decimal m) word) spelled) other
