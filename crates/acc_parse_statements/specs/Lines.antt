-- The lines of a text, and on which of them its statements end.
use Rattle.std.specs.Prelude.{◌≡◌, ℕ, zero, suc, ◌+◌, ◌-◌, ◌^◌, ◌<◌, ◌≤◌, ◌==◌, if◌then◌else◌, List, [], ◌∷◌, count_by}
use Rattle.acc_lex.specs.declared.words.Word.{Word}
use Rattle.acc_lex.specs.Texts.{IsLexed}
use Rattle.acc_parse_statements.specs.Ends.{ends}

-- how many line feeds a text has
abbrev pub feeds : List ℕ → ℕ
feeds text = count_by (λ b. b == 10) text

-- the first lines of a text with their line feeds, or all of it where it has fewer
abbrev pub first_lines : ℕ → List ℕ → List ℕ
first_lines zero text = []
first_lines (suc n) [] = []
first_lines (suc n) (b ∷ bs) = b ∷ first_lines (if b == 10 then n else suc n) bs

-- the text is words, and has a statement of this number, from 0; its statements can be counted in 64 bits
pub record HasStatement (text : List ℕ) (n : ℕ) : Type 0 where
  pub words : List Word
  pub lexed : IsLexed text words
  pub there : n < ends words
  pub few : ends words < 2 ^ 64

-- the statement with the number n, from 0, ends on this line, from 1: the lines before it have at most n ends, and with it there are more
pub record IsLineOf (text : List ℕ) (n line : ℕ) : Type 0 where
  pub low : 1 ≤ line
  pub high : line ≤ 1 + feeds text
  pub before : List Word
  pub before_lexed : IsLexed (first_lines (line - 1) text) before
  pub not_yet : ends before ≤ n
  pub within : List Word
  pub within_lexed : IsLexed (first_lines line text) within
  pub ended : n < ends within

-- so many statements end before this line, and so many with it: the line's own are those from the one number up to before the other
pub record OnLine (text : List ℕ) (line from to : ℕ) : Type 0 where
  pub low : 1 ≤ line
  pub high : line ≤ 1 + feeds text
  pub before : List Word
  pub before_lexed : IsLexed (first_lines (line - 1) text) before
  pub from_is : from ≡ ends before
  pub within : List Word
  pub within_lexed : IsLexed (first_lines line text) within
  pub to_is : to ≡ ends within
