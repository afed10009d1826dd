-- On which line a text that isn't of the grammar goes wrong.
use Rattle.std.specs.Prelude.{ℕ, ◌+◌, ◌-◌, ◌≤◌, List, ◌++◌}
use Rattle.acc_parse_statements.specs.Lines.{feeds, first_lines}
use Rattle.acc_parse.specs.Texts.{IsGrammatical}

-- some text of the grammar begins with these bytes
abbrev pub Begins : List ℕ → Type 0
Begins front = (more : List ℕ) × IsGrammatical (front ++ more)

-- The text is not of the grammar. The lines before this one can be continued to a text of the grammar, and with it they
-- can't; what ends too early, or in a line without a line feed, is wrong at one more than the number of its line feeds.
pub record IsWrongAt (text : List ℕ) (line : ℕ) : Type 0 where
  pub none : ¬ IsGrammatical text
  pub low : 1 ≤ line
  pub high : line ≤ 1 + feeds text
  pub begins : Begins (first_lines (line - 1) text)
  pub stops : line ≤ feeds text → ¬ Begins (first_lines line text)
