-- What the slices of tokens are, and the words that they mean.
use Rattle.std.specs.Prelude.{◌≡◌, ℕ, ◌+◌, ◌≤◌, ◌==◌, Bool, true, false, List, [], ◌∷◌, ◌++◌, length, take, count_by, slice_range, Option}
use Rattle.std.specs.Prelude.{codes, unwrap_or, ◌⊎◌}
use Rattle.acc_grammar.specs.Runs.{EachPasses, IsRun}
use Rattle.acc_lex.specs.declared.words.Sign.{Sign}
use Rattle.acc_lex.specs.declared.words.Sign.TheVariants as sign
use Rattle.acc_lex.specs.declared.words.Word.{Word}
use Rattle.acc_lex.specs.declared.words.Word.TheVariants as word
use Rattle.acc_lex.specs.declared.tokens.Kind.{Kind}
use Rattle.acc_lex.specs.declared.tokens.Kind.TheVariants as kind
use Rattle.acc_lex.specs.declared.tokens.Token.{Token as TokenValue}
use Rattle.acc_lex.specs.ByteKinds.{is_plain, is_letter, is_inner}
use Rattle.acc_lex.specs.Keywords.{sign_in, keyword_of}
use Rattle.acc_lex.specs.Spellings.{blanks, IsNumeral}
use Rattle.acc_lex.specs.LineWords.{name_or_sign, number_of}

-- ---- slices

-- the bytes of a token
abbrev pub slice : List ℕ → TokenValue → List ℕ
slice text t = slice_range text t.from t.to

-- the marks, each with the sign that it is
abbrev pub mark_signs : List (List ℕ × Sign)
mark_signs =
    (codes "[", sign.Open) ∷
    (codes "]", sign.Close) ∷
    (codes ",", sign.Comma) ∷
    (codes ".", sign.Dot) ∷
    (codes ":", sign.Colon) ∷
    (codes "=", sign.Equal) ∷
    (codes "<=", sign.AtMost) ∷
    (codes ">=", sign.AtLeast) ∷
    (codes "=>", sign.Implies) ∷
    (codes "+", sign.Plus) ∷
    (codes "-", sign.Minus) ∷
    (codes "*", sign.Times) ∷ []

-- a letter and then letters, digits and _; a numeral; a mark; or a ;, a line feed or nothing
abbrev pub IsOf : Kind → List ℕ → Type 0
IsOf kind.Word w = IsRun is_letter is_inner w
IsOf kind.Number w = IsNumeral w
IsOf kind.Mark w = (s : Sign) × (sign_in mark_signs w ≡ Option.Some s)
IsOf kind.End w = (w ≡ 59 ∷ []) ⊎ ((w ≡ 10 ∷ []) ⊎ (w ≡ []))

-- the line on which the byte behind the first k stands, counted from 1
abbrev pub line_number : List ℕ → ℕ → ℕ
line_number text k = 1 + count_by (λ b. b == 10) (take k text)

-- a slice of the text of the token's kind, with the line on which it begins
pub record IsSlice (text : List ℕ) (t : TokenValue) : Type 0 where
  pub forward : t.from ≤ t.to
  pub within : t.to ≤ length text
  pub kind : IsOf t.kind (slice text t)
  pub line : t.line ≡ line_number text t.from

-- nothing, or a comment: # and bytes from the space to ~
abbrev pub IsRemark : List ℕ → Type 0
IsRemark [] = Unit {0}
IsRemark (b ∷ bs) = (b ≡ 35) × EachPasses is_plain bs

-- spaces, and then nothing or a comment
abbrev pub IsGap : List ℕ → Type 0
IsGap w = (n : ℕ) × (remark : List ℕ) × (w ≡ blanks n ++ remark) × IsRemark remark

-- From a place on: behind a gap stands the first token, and so on; the last one ends where the text does.
abbrev pub InOrder : List ℕ → ℕ → List TokenValue → Type 0
InOrder text from [] = from ≡ length text
InOrder text from (t ∷ ts) = (from ≤ t.from) × IsGap (slice_range text from t.from) × (t.from ≤ t.to) × InOrder text t.to ts

-- ---- words

-- the sign of a mark
abbrev pub mark_sign : List ℕ → Sign
mark_sign w = unwrap_or (sign_in mark_signs w) sign.End

-- the word of a slice
abbrev pub word_of : Kind → List ℕ → Word
word_of kind.Word w = name_or_sign w (keyword_of w)
word_of kind.Number w = word.Number (number_of w)
word_of kind.Mark w = word.Sign (mark_sign w)
word_of kind.End w = word.Sign sign.End

-- whether a token ends a statement
abbrev pub ends : Kind → Bool
ends kind.End = true
ends _ = false

-- the word of a slice; the end of an empty statement is none
abbrev pub told : Bool → Kind → List ℕ → List Word
told true kind.End w = []
told _ k w = word_of k w ∷ []

-- the words of tokens, where no token of the statement stands before, or one does
abbrev pub words_from : Bool → List ℕ → List TokenValue → List Word
words_from empty text [] = []
words_from empty text (t ∷ ts) = told empty t.kind (slice text t) ++ words_from (ends t.kind) text ts

-- the words of a text's tokens
abbrev pub words_of : List ℕ → List TokenValue → List Word
words_of text tokens = words_from true text tokens
