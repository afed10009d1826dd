-- Which bytes are a design's text, and where bytes stop being the front of one.
use Rattle.std.specs.Prelude.{◌≡◌, ℕ, ◌+◌, ◌<◌, ◌≤◌, List, ◌++◌, length, take, Result, Ok, Err}
use Rattle.acc_lex.specs.declared.words.Word.{Word}
use Rattle.acc_lex.specs.declared.lexers.LexError.{LexError}
use Rattle.acc_lex.specs.declared.lexers.LexError.TheVariants as errors
use Rattle.acc_lex.specs.Spellings.{Line, lines_bytes, AreLines}
use Rattle.acc_lex.specs.declared.tokens.Token.{Token as TokenValue}
use Rattle.acc_lex.specs.LineWords.{lines_words}
use Rattle.acc_lex.specs.LineTokens.{lines_tokens}
use Rattle.acc_lex.specs.Slices.{line_number}

-- the bytes are lines, and these are the words of those
pub record IsLexed (text : List ℕ) (words : List Word) : Type 0 where
  pub lines : Line × List Line
  pub fit : AreLines lines
  pub spelled : text ≡ lines_bytes lines
  pub mean : words ≡ lines_words lines

-- the bytes are lines, and these are the tokens of those
pub record HasTokens (text : List ℕ) (tokens : List TokenValue) : Type 0 where
  pub lines : Line × List Line
  pub fit : AreLines lines
  pub spelled : text ≡ lines_bytes lines
  pub mean : tokens ≡ lines_tokens lines

-- some text begins with these bytes
abbrev pub Begins : List ℕ → Type 0
Begins front = (more : List ℕ) × (words : List Word) × IsLexed (front ++ more) words

-- The first k bytes begin a text, and with the next byte none does; where there is no further byte, the text ends too early.
pub record StopsAt (text : List ℕ) (k : ℕ) : Type 0 where
  pub in_range : k ≤ length text
  pub begins : Begins (take k text)
  pub stops : k < length text → ¬ Begins (take (k + 1) text)
  pub ends : (words : List Word) → ¬ IsLexed text words

-- no words are the text's, and the first byte with which no text goes on stands on this line
abbrev pub IsBadAt : List ℕ → ℕ → Type 0
IsBadAt text line = (k : ℕ) × StopsAt text k × (line ≡ line_number text k)

-- what is answered for a text's tokens
abbrev pub TokenAnswers : List ℕ → Result (List TokenValue) LexError → Type 0
TokenAnswers text (Ok tokens) = HasTokens text tokens
TokenAnswers text (Err errors.Memory) = Unit {0}
TokenAnswers text (Err (errors.Bad line)) = IsBadAt text line

-- what is answered for a text's words
abbrev pub Answers : List ℕ → Result (List Word) LexError → Type 0
Answers text (Ok words) = IsLexed text words
Answers text (Err errors.Memory) = Unit {0}
Answers text (Err (errors.Bad line)) = IsBadAt text line
