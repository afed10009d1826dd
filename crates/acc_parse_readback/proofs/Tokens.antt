-- Parts of one token: words, numbers and marks.
use Rattle.std.proofs.Common.{◌≡◌, ◌≢◌, ℕ, ◌^◌, ◌<◌, Bool, true, false, List, [], ◌∷◌, ◌++◌, Some, None, refl, sym, ap, subst, ◌∙◌}
use Rattle.std.proofs.Common.{append_assoc, inl, inr, arith, rules, zero, suc, length, get_or}
use Rattle.std.specs.Prelude.{◌-◌, ◌&&◌, min, codes}
use Rattle.std.specs.Char.{is_ascii_digit}
use Rattle.std.specs.Fmt.{decimal}
use Rattle.std.specs.List.{list_all}
use Rattle.std.specs.Str.Parse.{digits_value}
use Rattle.std.proofs.lemmas.Bool.Decides.{nat_tests}
use Rattle.std.proofs.lemmas.Fmt.{decimal_digit, digits_decimal, digits_value-decimal, decimal_nonempty, first_decimal}
use Rattle.std.proofs.lemmas.Str.Parse.{IsNumeralModel, numerals_by_value}
use Rattle.acc_grammar.specs.Runs.{EachPasses, IsRun}
use Rattle.acc_lex.specs.declared.words.Word.{Word}
use Rattle.acc_lex.specs.declared.words.Word.TheVariants as word
use Rattle.acc_lex.specs.declared.words.Sign.{Sign}
use Rattle.acc_lex.specs.declared.words.Sign.TheVariants as sign
use Rattle.acc_lex.specs.ByteKinds.{is_letter, is_inner, is_digit, is_leading}
use Rattle.acc_lex.specs.Keywords.{keyword_of}
use Rattle.acc_lex.specs.Spellings.{Letters, Digits, Mark, mark_bytes, IsNumeral, Parted}
use Rattle.acc_lex.specs.LineWords.{name_or_sign, number_of}
use Rattle.acc_parse_syntax.specs.Spelling.{just, name, number}
use Rattle.acc_parse_readback.proofs.Rests.{Part, Front, Rest, token, space, one_token}

both : (a b : Bool) → (a && b) ≡ true → (a ≡ true) × (b ≡ true)
both true b h = (refl, h)
both false b h = absurd cc

-- ---- words

abbrev pub is_run : List ℕ → Bool
is_run [] = false
is_run (b ∷ bs) = is_letter b && list_all is_inner bs

each_passes : (test : ℕ → Bool) (bs : List ℕ) → list_all test bs ≡ true → EachPasses test bs
each_passes test [] h = tt
each_passes test (b ∷ bs) h = let k = both (test b) (list_all test bs) h in (k.0, each_passes test bs k.1)

run_of : (w : List ℕ) → is_run w ≡ true → IsRun is_letter is_inner w
run_of [] h = absurd cc
run_of (b ∷ bs) h = let k = both (is_letter b) (list_all is_inner bs) h in (k.0, each_passes is_inner bs k.1)

-- a word that the grammar fixes
pub keyword : (w : List ℕ) (s : Sign) → is_run w ≡ true → keyword_of w ≡ Some s → Part w (just s)
keyword w s run is = subst (λ (v : Word). Part w (v ∷ [])) (ap (name_or_sign w) is) (one_token (Letters w) (run_of w run))

-- a name
pub named : (x : List ℕ) → IsRun is_letter is_inner x → keyword_of x ≡ None → Part x (name x)
named x run is = subst (λ (v : Word). Part x (v ∷ [])) (ap (name_or_sign x) is) (one_token (Letters x) run)

-- ---- numbers

AreDigits : List ℕ → Type 0
AreDigits ds = list_all is_ascii_digit ds ≡ true

own : IsNumeralModel AreDigits (digits_value 10)
unfolding AreDigits
own = numerals_by_value AreDigits (search rules)

leading : (c : ℕ) → 48 < c → is_ascii_digit c ≡ true → is_leading c ≡ true
leading c h g = grind (arith, nat_tests)

numeral : (ds : List ℕ) → 0 < length ds → 48 < get_or ds 0 0 → list_all is_ascii_digit ds ≡ true → IsRun is_leading is_digit ds
numeral [] some first digits = absurd (omega arith)
numeral (c ∷ cs) some first digits = let k = both (is_ascii_digit c) (list_all is_ascii_digit cs) digits in
    (leading c first k.0, each_passes is_digit cs k.1)

is_numeral : (n : ℕ) → n < 2 ^ 64 → IsNumeral (decimal n)
unfolding AreDigits
is_numeral zero h = inl (decimal_digit 0 (omega arith))
is_numeral (suc n) h = inr (numeral (decimal (suc n)) (decimal_nonempty (suc n) h) (first_decimal (suc n) (omega arith) h)
    (digits_decimal own (suc n) h))

within : (n : ℕ) → n < 2 ^ 64 → min n (2 ^ 64 - 1) ≡ n
within n h = omega arith

number_is : (n : ℕ) → n < 2 ^ 64 → number_of (decimal n) ≡ n
unfolding AreDigits
number_is n h = ap (λ (v : ℕ). min v (2 ^ 64 - 1)) (digits_value-decimal own n h) ∙ within n h

pub numbered : (n : ℕ) → n < 2 ^ 64 → Part (decimal n) (number n)
numbered n h = subst (λ (v : ℕ). Part (decimal n) (word.Number v ∷ [])) (number_is n h) (one_token (Digits (decimal n)) (is_numeral n h))

-- ---- marks

abbrev is_some_bytes : List ℕ → Bool
is_some_bytes [] = false
is_some_bytes (b ∷ bs) = true

some_bytes : (bs : List ℕ) → is_some_bytes bs ≡ true → bs ≢ []
some_bytes bs h e = let wrong = sym h ∙ ap is_some_bytes e in cc

-- a mark that isn't an equals sign
abbrev is_bare : Sign → Bool
is_bare sign.Equal = false
is_bare _ = true

pub mark : (s : Sign) → is_some_bytes (mark_bytes s) ≡ true → ((bytes : List ℕ) → Parted (Mark s) bytes) → Front (mark_bytes s) (just s)
mark s some parted bytes words r = token (Mark s) bytes words (some_bytes (mark_bytes s) some) (parted bytes) r

pub equals : Part (codes "=") (just sign.Equal)
equals = one_token (Mark sign.Equal) (some_bytes (codes "=") refl)

pub opening : Front (codes "[") (just sign.Open)
opening = mark sign.Open refl (λ b. tt)

pub closing : Front (codes "]") (just sign.Close)
closing = mark sign.Close refl (λ b. tt)

pub comma : Front (codes ",") (just sign.Comma)
comma = mark sign.Comma refl (λ b. tt)

pub dot : Front (codes ".") (just sign.Dot)
dot = mark sign.Dot refl (λ b. tt)

pub colon : Front (codes ":") (just sign.Colon)
colon = mark sign.Colon refl (λ b. tt)

pub at_most : Front (codes "<=") (just sign.AtMost)
at_most = mark sign.AtMost refl (λ b. tt)

pub implies : Front (codes "=>") (just sign.Implies)
implies = mark sign.Implies refl (λ b. tt)

pub plus : Front (codes "+") (just sign.Plus)
plus = mark sign.Plus refl (λ b. tt)

pub minus : Front (codes "-") (just sign.Minus)
minus = mark sign.Minus refl (λ b. tt)

pub times : Front (codes "*") (just sign.Times)
times = mark sign.Times refl (λ b. tt)

-- a front between spaces
pub between : (text : List ℕ) (ws : List Word) → Front text ws → Front (32 ∷ (text ++ codes " ")) ws
between text ws f bytes words r = space ((text ++ codes " ") ++ bytes) (ws ++ words)
    (subst (λ (bs : List ℕ). Rest bs (ws ++ words)) (sym (append_assoc text (codes " ") bytes))
    (f (32 ∷ bytes) words (space bytes words r)))

-- an equals sign between spaces
pub equals_between : Front (codes " = ") (just sign.Equal)
equals_between bytes words r = space (61 ∷ 32 ∷ bytes) (word.Sign sign.Equal ∷ words)
    (token (Mark sign.Equal) (32 ∷ bytes) words (some_bytes (codes "=") refl) refl (space bytes words r))
