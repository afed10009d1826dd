-- A text is read from left to right, up to the first byte with which no text goes on. Only the code speaks of this; Spellings
-- says what a text is.
use Rattle.std.specs.Prelude.{ℕ, ◌+◌, Bool, true, false, ◌==◌, not, ◌||◌, List, [], ◌∷◌, ◌++◌, length, Option, Some, None, is_some}
use Rattle.std.specs.Prelude.{unwrap_or, Ok, if◌then◌else◌}
use Rattle.acc_grammar.specs.Readers.{OutcomeOf, ◌>>=◌, joined, many}
use Rattle.acc_grammar.specs.Runs.{next_is, one_at, run_at, front_at, absent_at}
use Rattle.acc_lex.specs.declared.words.Sign.{Sign}
use Rattle.acc_lex.specs.declared.words.Sign.TheVariants as sign
use Rattle.acc_lex.specs.declared.parts.Part.{Part}
use Rattle.acc_lex.specs.ByteKinds.{is_byte, is_space, is_plain, is_letter, is_digit, is_leading, is_inner}
use Rattle.acc_lex.specs.Spellings.{Token, Letters, Digits, Mark, Item, Statement, Line, Comment, Statements}
use Rattle.acc_lex.specs.LineTokens.{gap, item_parts, next_statement_parts}

-- spaces, as many as stand there: their number
unfoldable pub spaces_at : List ℕ → OutcomeOf ℕ ℕ
spaces_at bs = do
  w ← front_at is_space bs
  Ok (length w.0, w.1)

-- ---- tokens

-- a word, as long as it goes
unfoldable pub letters_at : List ℕ → OutcomeOf ℕ Token
letters_at bs = do
  w ← run_at is_letter is_inner bs
  Ok (Letters w.0, w.1)

-- 0, with no word or digit behind it
unfoldable pub zero_at : List ℕ → OutcomeOf ℕ Token
zero_at bs = do
  z ← one_at (is_byte 48) bs
  o ← absent_at is_inner z.1
  Ok (Digits (z.0 ∷ []), o.1)

-- digits with no zero in front, with no word behind them
unfoldable pub whole_at : List ℕ → OutcomeOf ℕ Token
whole_at bs = do
  d ← run_at is_leading is_digit bs
  o ← absent_at is_inner d.1
  Ok (Digits d.0, o.1)

-- a mark of two bytes
unfoldable pub pair_at : ℕ → ℕ → Sign → List ℕ → OutcomeOf ℕ Token
pair_at a b s bs = do
  x ← one_at (is_byte a) bs
  y ← one_at (is_byte b) x.1
  Ok (Mark s, y.1)

-- whether a > follows
unfoldable pub arrow_at : List ℕ → OutcomeOf ℕ Bool
arrow_at bs =
    if next_is (is_byte 62) bs then (do
      a ← one_at (is_byte 62) bs
      Ok (true, a.1))
    else Ok (false, bs)

-- which of the two it is
abbrev pub equal_or : Bool → Sign
equal_or true = sign.Implies
equal_or false = sign.Equal

-- a =, or a =>
unfoldable pub equal_at : List ℕ → OutcomeOf ℕ Token
equal_at bs = do
  e ← one_at (is_byte 61) bs
  a ← arrow_at e.1
  Ok (Mark (equal_or a.0), a.1)

-- the marks of one byte with which no other mark begins
abbrev pub marks : List (ℕ × Sign)
marks = (91, sign.Open) ∷ (93, sign.Close) ∷ (44, sign.Comma) ∷ (46, sign.Dot) ∷ (58, sign.Colon) ∷ (43, sign.Plus) ∷ (45, sign.Minus)
    ∷ (42, sign.Times) ∷ []

-- the mark of a table that a byte is
abbrev pub mark_among : List (ℕ × Sign) → ℕ → Option Sign
mark_among [] b = None
mark_among (m ∷ ms) b = if b == m.0 then Some m.1 else mark_among ms b

-- the mark that a byte is, if it is one of these
abbrev pub mark_of : ℕ → Option Sign
mark_of b = mark_among marks b

-- a byte that is one of these marks
abbrev pub is_mark : ℕ → Bool
is_mark b = is_some (mark_of b)

-- one of these marks
unfoldable pub mark_at : List ℕ → OutcomeOf ℕ Token
mark_at bs = do
  b ← one_at is_mark bs
  Ok (Mark (unwrap_or (mark_of b.0) sign.End), b.1)

-- the token that the next byte begins; what begins no other is to be a mark of one byte
unfoldable pub token_at : List ℕ → OutcomeOf ℕ Token
token_at bs =
    if next_is is_letter bs then letters_at bs
    else (if next_is (is_byte 48) bs then zero_at bs
    else (if next_is is_leading bs then whole_at bs
    else (if next_is (is_byte 60) bs then pair_at 60 61 sign.AtMost bs
    else (if next_is (is_byte 62) bs then pair_at 62 61 sign.AtLeast bs
    else (if next_is (is_byte 61) bs then equal_at bs
    else mark_at bs)))))

-- ---- statements

-- a token, and the spaces behind it
unfoldable pub item_at : List ℕ → OutcomeOf ℕ Item
item_at bs = do
  t ← token_at bs
  n ← spaces_at t.1
  Ok (record { token = t.0; spaces = n.0 }, n.1)

-- neither a line feed nor a ;
abbrev pub is_inside : ℕ → Bool
is_inside b = not (b == 10 || b == 59)

-- tokens up to the end of the statement
unfoldable pub items_at : List ℕ → OutcomeOf ℕ (List Item)
items_at bs = many (next_is is_inside) item_at bs

-- spaces, and then tokens
unfoldable pub statement_at : List ℕ → OutcomeOf ℕ Statement
statement_at bs = do
  n ← spaces_at bs
  is ← items_at n.1
  Ok (record { spaces = n.0; items = is.0 }, is.1)

-- a ;, and the statement behind it
unfoldable pub next_statement_at : List ℕ → OutcomeOf ℕ Statement
next_statement_at bs = do
  c ← one_at (is_byte 59) bs
  s ← statement_at c.1
  Ok (s.0, s.1)

-- statements, as long as a ; comes
unfoldable pub next_statements_at : List ℕ → OutcomeOf ℕ (List Statement)
next_statements_at bs = many (next_is (is_byte 59)) next_statement_at bs

-- ---- lines

-- what a line has behind its first spaces: a comment's bytes, or tokens and further statements
pub data Body : Type 0 where
  Remark : List ℕ → Body
  Rest : List Item → List Statement → Body

-- the parts of what a line has behind its first spaces
abbrev pub body_parts : Body → List Part
body_parts (Remark bytes) = gap (1 + length bytes)
body_parts (Rest is others) = joined item_parts is ++ joined next_statement_parts others

-- a #, and the bytes of a comment
unfoldable pub remark_at : List ℕ → OutcomeOf ℕ Body
remark_at bs = do
  h ← one_at (is_byte 35) bs
  w ← front_at is_plain h.1
  Ok (Remark w.0, w.1)

-- tokens, and further statements
unfoldable pub rest_at : List ℕ → OutcomeOf ℕ Body
rest_at bs = do
  is ← items_at bs
  ss ← next_statements_at is.1
  Ok (Rest is.0 ss.0, ss.1)

-- a comment where a # comes, else statements
unfoldable pub body_at : List ℕ → OutcomeOf ℕ Body
body_at bs = if next_is (is_byte 35) bs then remark_at bs else rest_at bs

-- a line, of its first spaces and what it has behind them
abbrev pub line_of : ℕ → Body → Line
line_of n (Remark bytes) = Comment n bytes
line_of n (Rest is others) = Statements (record { spaces = n; items = is }) others

-- a line
unfoldable pub line_at : List ℕ → OutcomeOf ℕ Line
line_at bs = do
  n ← spaces_at bs
  b ← body_at n.1
  Ok (line_of n.0 b.0, b.1)

-- a line feed, and the line behind it
unfoldable pub next_line_at : List ℕ → OutcomeOf ℕ Line
next_line_at bs = do
  f ← one_at (is_byte 10) bs
  l ← line_at f.1
  Ok (l.0, l.1)

-- lines, as long as a line feed comes
unfoldable pub next_lines_at : List ℕ → OutcomeOf ℕ (List Line)
next_lines_at bs = many (next_is (is_byte 10)) next_line_at bs

-- each byte is one
abbrev pub is_any : ℕ → Bool
is_any b = true

-- lines, and nothing behind them
unfoldable pub lines_at : List ℕ → OutcomeOf ℕ (Line × List Line)
lines_at bs = do
  l ← line_at bs
  ls ← next_lines_at l.1
  o ← absent_at is_any ls.1
  Ok ((l.0, ls.0), o.1)
