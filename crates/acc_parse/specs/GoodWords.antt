-- How many words of a text can be continued. Only the code that looks for a line speaks of this; Syntax says which line is wrong.
use Rattle.std.specs.Prelude.{ℕ, ◌+◌, ◌<◌, ◌≤◌, List, length, take}
use Rattle.acc_lex.specs.declared.words.Word.{Word}
use Rattle.acc_lex.specs.Texts.{IsLexed}
use Rattle.acc_parse_designs.specs.Texts.{Begins}
use Rattle.acc_parse_statements.specs.Lines.{feeds, first_lines}

-- so many of the words can be continued to a design's, and with one more they can't
pub record AreGood (words : List Word) (good : ℕ) : Type 0 where
  pub begins : Begins (take good words)
  pub stops : good < length words → ¬ Begins (take (good + 1) words)

-- words can be continued exactly where they are at most so many
pub record GoesOn (good : ℕ) (words : List Word) : Type 0 where
  pub within : length words ≤ good → Begins words
  pub past : good < length words → ¬ Begins words

-- the words of whole lines of a text can be continued exactly where they are at most so many
abbrev pub Judges : List ℕ → ℕ → Type 0
Judges text good = (n : ℕ) (words : List Word) → n ≤ feeds text → IsLexed (first_lines n text) words → GoesOn good words
