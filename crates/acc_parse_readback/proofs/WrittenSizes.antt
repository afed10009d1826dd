-- The words of a text are at most twice as long as the text: each takes as many bytes as it is long, and what ends a statement stands
-- behind a word.
use Rattle.std.proofs.Common.{◌≡◌, ℕ, ◌*◌, ◌^◌, ◌<◌, ◌≤◌, Bool, true, false, List, [], ◌∷◌, length, map, Option, Some, None, refl, ap, sym}
use Rattle.std.proofs.Common.{subst, arith, inl, inr, length-append}
use Rattle.std.specs.Prelude.{◌&&◌, nat_le, cond}
use Rattle.std.specs.List.{list_all}
use Rattle.std.specs.Str.{bytes_eq}
use Rattle.std.specs.Str.Parse.{AllDigits}
use Rattle.std.proofs.lemmas.Bool.Decides.{nat_tests}
use Rattle.std.proofs.lemmas.Slice.Eq.{bytes_eq-Decides}
use Rattle.std.proofs.lemmas.Int.Digits.{digits_value-lt}
use Rattle.acc_grammar.specs.Readers.{AllIn, joined}
use Rattle.acc_grammar.specs.Runs.{EachPasses, IsRun, IsRow}
use Rattle.acc_lex.specs.declared.words.Sign.{Sign}
use Rattle.acc_lex.specs.declared.words.Sign.TheVariants as sign
use Rattle.acc_lex.specs.declared.words.Word.{Word}
use Rattle.acc_lex.specs.declared.words.Word.TheVariants as word
use Rattle.acc_lex.specs.ByteKinds.{is_digit, is_leading, is_letter, is_inner}
use Rattle.acc_lex.specs.Keywords.{keywords, sign_in, keyword_of}
use Rattle.acc_lex.specs.Spellings.{Token, Letters, Digits, Mark, Item, Statement, Line, Comment, Statements, mark_bytes, token_bytes}
use Rattle.acc_lex.specs.Spellings.{blanks, item_bytes, statement_bytes, next_statement, line_bytes, next_line, IsNumeral, IsToken, IsItem}
use Rattle.acc_lex.specs.Spellings.{ItemParted, IsStatement, IsLine}
use Rattle.acc_lex.specs.LineWords.{name_or_sign, number_of, token_word, item_word, ended, statement_words, line_words}
use Rattle.acc_lex.specs.Texts.{IsLexed}
use Rattle.acc_parse_readback.proofs.ShortNumbers.{number_size, digit_count_le}
use Rattle.acc_parse_readback.proofs.Weights.{sign_size, word_size, weight, weight-append}

-- ---- numbers

digit_is : (b : ℕ) → is_digit b ≡ true → (48 ≤ b) × (b ≤ 57)
digit_is b h = grind (arith, nat_tests)

leading_is : (b : ℕ) → is_leading b ≡ true → is_digit b ≡ true
leading_is b h = grind (arith, nat_tests)

digits_all : (ds : List ℕ) → EachPasses is_digit ds → AllDigits 10 ds
digits_all [] h = tt
digits_all (d ∷ ds) h = let is = digit_is d h.0 in (grind (arith, nat_tests), digits_all ds h.1)

run_digits : (ds : List ℕ) → IsRun is_leading is_digit ds → AllDigits 10 ds × (1 ≤ length ds)
run_digits [] h = absurd h
run_digits (d ∷ ds) h = (digits_all (d ∷ ds) (leading_is d h.0, h.1), omega arith)

numeral_digits : (ds : List ℕ) → IsNumeral ds → AllDigits 10 ds × (1 ≤ length ds)
numeral_digits ds (inl e) = subst (λ (cs : List ℕ). AllDigits 10 cs × (1 ≤ length cs)) (sym e) ((omega arith, tt), omega arith)
numeral_digits ds (inr h) = run_digits ds h

number_short : (ds : List ℕ) → IsNumeral ds → number_size (number_of ds) ≤ length ds
number_short ds h =
    let is = numeral_digits ds h in
    let less : number_of ds < 10 ^ length ds = omega (arith, digits_value-lt 10 ds is.0) in
    omega (arith, digit_count_le (number_of ds) (length ds) less, is.1)

-- ---- words that the grammar fixes

abbrev is_long : List ℕ × Sign → Bool
is_long k = nat_le (sign_size k.1) (length k.0)

long_step : (k : List ℕ × Sign) (ks : List (List ℕ × Sign)) (w : List ℕ) (s : Sign) (a b : Bool) → is_long k ≡ a → bytes_eq w k.0 ≡ b →
    (a && list_all is_long ks) ≡ true → cond b (Some k.1) (sign_in ks w) ≡ Some s →
    (list_all is_long ks ≡ true → sign_in ks w ≡ Some s → sign_size s ≤ length w) → sign_size s ≤ length w
long_step k ks w s true true long same others found later =
    let is : k.1 ≡ s = cc in
    let equal : w ≡ k.0 = (bytes_eq-Decides w k.0).0 same in
    let size : sign_size k.1 ≤ length k.0 = grind (arith, nat_tests) in omega (arith, ap length equal, ap sign_size is, size)
long_step k ks w s true false long same others found later = later others found
long_step k ks w s false b long same others found later = absurd cc

found_long : (ks : List (List ℕ × Sign)) (w : List ℕ) (s : Sign) → list_all is_long ks ≡ true → sign_in ks w ≡ Some s →
    sign_size s ≤ length w
found_long [] w s h e = absurd cc
found_long (k ∷ ks) w s h e = long_step k ks w s (is_long k) (bytes_eq w k.0) refl refl h e (found_long ks w s)

keyword_long : (w : List ℕ) (s : Sign) → keyword_of w ≡ Some s → sign_size s ≤ length w
unfolding keyword_of
keyword_long w s e = found_long keywords w s refl e

run_some : (w : List ℕ) → IsRun is_letter is_inner w → 1 ≤ length w
run_some [] h = absurd h
run_some (b ∷ bs) h = omega arith

letters_long : (w : List ℕ) (o : Option Sign) → keyword_of w ≡ o → IsRun is_letter is_inner w → word_size (name_or_sign w o) ≤ length w
letters_long w (Some s) e h = keyword_long w s e
letters_long w None e h = omega (arith, run_some w h)

-- ---- marks

mark_long : (s : Sign) → IsToken (Mark s) → sign_size s ≤ length (mark_bytes s)
mark_long sign.Open h = omega arith
mark_long sign.Close h = omega arith
mark_long sign.Comma h = omega arith
mark_long sign.Dot h = omega arith
mark_long sign.Colon h = omega arith
mark_long sign.Equal h = omega arith
mark_long sign.AtMost h = omega arith
mark_long sign.AtLeast h = omega arith
mark_long sign.Implies h = omega arith
mark_long sign.Plus h = omega arith
mark_long sign.Minus h = omega arith
mark_long sign.Times h = omega arith
mark_long _ h = absurd (h refl)

-- ---- tokens

token_long : (t : Token) → IsToken t → word_size (token_word t) ≤ length (token_bytes t)
token_long (Letters w) h = letters_long w (keyword_of w) refl h
token_long (Digits w) h = number_short w h
token_long (Mark s) h = mark_long s h

items_long : (is : List Item) → IsRow item_bytes IsItem ItemParted is → weight (map item_word is) ≤ length (joined item_bytes is)
items_long [] h = omega arith
items_long (i ∷ is) h =
    omega (
      arith,
      token_long i.token h.0,
      items_long is h.2,
      length-append (item_bytes i) (joined item_bytes is),
      length-append (token_bytes i.token) (blanks i.spaces),
    )

size_some : (w : Word) → 1 ≤ word_size w
size_some (word.Name x) = omega arith
size_some (word.Number n) = omega arith
size_some (word.Sign s) = sign_some s
  where
    sign_some : (s : Sign) → 1 ≤ sign_size s
    sign_some s = grind arith

ended_long : (ws : List Word) → weight (ended ws) ≤ 2 * weight ws
ended_long [] = omega arith
ended_long (w ∷ ws) = omega (arith, weight-append (w ∷ ws) (word.Sign sign.End ∷ []), size_some w)

statement_long : (s : Statement) → IsStatement s → weight (statement_words s) ≤ 2 * length (statement_bytes s)
statement_long s h = omega (
  arith,
  ended_long (map item_word s.items),
  items_long s.items h,
  length-append (blanks s.spaces) (joined item_bytes s.items),
)

statements_long : (ss : List Statement) → AllIn IsStatement ss → weight (joined statement_words ss) ≤ 2 * length (joined next_statement ss)
statements_long [] h = omega arith
statements_long (s ∷ ss) h =
    omega (
      arith,
      statement_long s h.0,
      statements_long ss h.1,
      weight-append (statement_words s) (joined statement_words ss),
      length-append (next_statement s) (joined next_statement ss),
    )

-- ---- lines

line_long : (l : Line) → IsLine l → weight (line_words l) ≤ 2 * length (line_bytes l)
line_long (Comment n bytes) h = omega arith
line_long (Statements s others) h =
    omega (
      arith,
      statement_long s h.0,
      statements_long others h.1,
      weight-append (statement_words s) (joined statement_words others),
      length-append (statement_bytes s) (joined next_statement others),
    )

lines_long : (ls : List Line) → AllIn IsLine ls → weight (joined line_words ls) ≤ 2 * length (joined next_line ls)
lines_long [] h = omega arith
lines_long (l ∷ ls) h = omega (
  arith,
  line_long l h.0,
  lines_long ls h.1,
  weight-append (line_words l) (joined line_words ls),
  length-append (next_line l) (joined next_line ls),
)

-- a text is at least half as long as its words
pub text_long : (text : List ℕ) (words : List Word) → IsLexed text words → weight words ≤ 2 * length text
text_long text words l =
    omega (
      arith,
      ap weight l.mean,
      ap length l.spelled,
      line_long l.lines.0 l.fit.0,
      lines_long l.lines.1 l.fit.1,
      weight-append (line_words l.lines.0) (joined line_words l.lines.1),
      length-append (line_bytes l.lines.0) (joined next_line l.lines.1),
    )
