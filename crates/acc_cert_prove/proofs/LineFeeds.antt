-- A line feed behind a JSON text changes nothing of it.
use Rattle.std.proofs.Common.{◌≡◌, ℕ, ◌+◌, ◌*◌, Bool, true, false, cond, ◌&&◌, ◌==◌, List, [], ◌∷◌, ◌++◌, Option, Some, None}
use Rattle.std.proofs.Common.{option_and_then, refl, ap}
use Rattle.std.specs.Prelude.{nat_lt}
use Rattle.std.specs.Char.{is_digit, digit_value, encode_utf8}
use Rattle.json.specs.Text.{Within, plain, after_backslash, after_u, after_high, content, prepend, code_unit, short_escape}
use Rattle.json.specs.Text.{is_high_surrogate, is_low_surrogate, surrogate_pair}
use Rattle.json.specs.Token.{Token}
use Rattle.json.specs.Lex.{Class, Mode, token, quote, backslash, operator, space, other, class, lex, lex_byte, tokens, string_token}
use Rattle.json.specs.Lex.{between, in_word, in_string, in_escape, operator_lexeme, punctuate, fresh}
use Rattle.json.specs.Ascii as ascii
use Rattle.acc_cert_prove.proofs.Feeds.{word_fed}

and_no : (a b c : Bool) → (a && b && c && false) ≡ false
and_no true true true = refl
and_no true true false = refl
and_no true false c = refl
and_no false b c = refl

-- a line feed is no digit
no_unit : (a b c : ℕ) → code_unit a b c 10 ≡ None
unfolding code_unit
no_unit a b c =
    ap (λ t. cond t (Some (digit_value a * 4096 + digit_value b * 256 + digit_value c * 16 + digit_value 10)) None)
    (and_no (is_digit a 16) (is_digit b 16) (is_digit c 16))

none_both : {A : Type 0} (b : Bool) (o : Option A) → o ≡ None → cond b o None ≡ None
none_both true o h = h
none_both false o h = refl

content_fed : (w : Within) (xs : List ℕ) → content w (xs ++ 10 ∷ []) ≡ content w xs
unfolding content short_escape
content_fed plain [] = refl
content_fed plain (x ∷ xs) = λ i.
    cond (x == ascii.quote) (Some [])
    (cond (x == ascii.backslash) (content_fed after_backslash xs i)
    (cond (nat_lt x ascii.space) None (prepend (x ∷ []) (content_fed plain xs i))))
content_fed after_backslash [] = refl
content_fed after_backslash (x ∷ xs) = λ i.
    cond (x == ascii.lower_u) (content_fed after_u xs i)
    (option_and_then (λ c. prepend (c ∷ []) (content_fed plain xs i)) (short_escape x))
content_fed after_u [] = refl
content_fed after_u (a ∷ []) = refl
content_fed after_u (a ∷ b ∷ []) = refl
content_fed after_u (a ∷ b ∷ c ∷ []) = ap (option_and_then (λ u.
    cond (is_high_surrogate u) (content (after_high u) [])
    (cond (is_low_surrogate u) None (prepend (encode_utf8 u) (content plain []))))) (no_unit a b c)
content_fed after_u (a ∷ b ∷ c ∷ d ∷ xs) = λ i.
    option_and_then (λ u.
    cond (is_high_surrogate u) (content_fed (after_high u) xs i)
    (cond (is_low_surrogate u) None (prepend (encode_utf8 u) (content_fed plain xs i)))) (code_unit a b c d)
content_fed (after_high h) [] = refl
content_fed (after_high h) (s ∷ []) = refl
content_fed (after_high h) (s ∷ u ∷ []) = refl
content_fed (after_high h) (s ∷ u ∷ a ∷ []) = refl
content_fed (after_high h) (s ∷ u ∷ a ∷ b ∷ []) = refl
content_fed (after_high h) (s ∷ u ∷ a ∷ b ∷ c ∷ []) =
    none_both ((s == ascii.backslash) && (u == ascii.lower_u))
    (option_and_then (λ l. cond (is_low_surrogate l) (prepend (encode_utf8 (surrogate_pair h l)) (content plain [])) None)
    (code_unit a b c 10))
    (ap (option_and_then (λ l. cond (is_low_surrogate l) (prepend (encode_utf8 (surrogate_pair h l)) (content plain [])) None))
    (no_unit a b c))
content_fed (after_high h) (s ∷ u ∷ a ∷ b ∷ c ∷ d ∷ xs) = λ i.
    cond ((s == ascii.backslash) && (u == ascii.lower_u))
    (option_and_then (λ l. cond (is_low_surrogate l) (prepend (encode_utf8 (surrogate_pair h l)) (content_fed plain xs i)) None)
    (code_unit a b c d)) None

byte_fed :
    (m : Mode) (c : Class) (x : ℕ) (xs : List ℕ) → ((n : Mode) → lex n (xs ++ 10 ∷ []) ≡ lex n xs)
    → lex_byte m c x (xs ++ 10 ∷ []) (λ n. lex n (xs ++ 10 ∷ [])) ≡ lex_byte m c x xs (λ n. lex n xs)
byte_fed between quote x xs h = λ i. token (string_token (content_fed plain xs i)) ∷ h in_string i
byte_fed between backslash x xs h = ap (λ ls. token Token.bad ∷ ls) (h in_word)
byte_fed between operator x xs h = ap (λ ls. operator_lexeme x ∷ ls) (h between)
byte_fed between space x xs h = h between
byte_fed between other x xs h = λ i. token (word_fed x xs i) ∷ h in_word i
byte_fed in_word quote x xs h = h in_word
byte_fed in_word backslash x xs h = h in_word
byte_fed in_word operator x xs h = ap (λ ls. operator_lexeme x ∷ ls) (h between)
byte_fed in_word space x xs h = h between
byte_fed in_word other x xs h = h in_word
byte_fed in_string quote x xs h = h between
byte_fed in_string backslash x xs h = h in_escape
byte_fed in_string operator x xs h = h in_string
byte_fed in_string space x xs h = h in_string
byte_fed in_string other x xs h = h in_string
byte_fed in_escape c x xs h = h in_string

lex_fed : (m : Mode) (xs : List ℕ) → lex m (xs ++ 10 ∷ []) ≡ lex m xs
unfolding lex
lex_fed between [] = refl
lex_fed in_word [] = refl
lex_fed in_string [] = refl
lex_fed in_escape [] = refl
lex_fed m (x ∷ xs) = byte_fed m (class x) x xs (λ n. lex_fed n xs)

pub tokens_line : (text : List ℕ) → tokens (text ++ 10 ∷ []) ≡ tokens text
tokens_line text = ap (punctuate fresh) (lex_fed between text)
