-- Which words are a design's text, and where words stop being the front of one.
use Rattle.std.specs.Prelude.{◌≡◌, ℕ, ◌+◌, ◌<◌, ◌≤◌, List, ◌++◌, length, take, Result, Ok, Err}
use Rattle.acc_grammar.specs.Readers.{AllIn}
use Rattle.acc_lex.specs.declared.words.Word.{Word}
use Rattle.acc_lex.specs.Words.{CanSpell}
use Rattle.acc_parse_syntax.specs.declared.trees.DesignTree.{DesignTree}
use Rattle.acc_parse_designs.specs.declared.designs.SyntaxError.{SyntaxError}
use Rattle.acc_parse_designs.specs.declared.designs.SyntaxError.TheVariants as errors
use Rattle.acc_parse_syntax.specs.Spelling.{spelled_design}
use Rattle.acc_parse_designs.specs.OwnWords.{OwnInTypes}

-- the words spell the tree, and `self` stands only within types
pub record IsSpelling (words : List Word) (t : DesignTree) : Type 0 where
  pub spelled : words ≡ spelled_design t
  pub own : OwnInTypes words

-- some design's text begins with these words, and goes on with words that can stand in a text
abbrev pub Begins : List Word → Type 0
Begins front = (more : List Word) × (t : DesignTree) × AllIn CanSpell more × IsSpelling (front ++ more) t

-- The first k words begin a text, and one more word doesn't; where there is no further word, the text ends too early.
pub record StopsAt (words : List Word) (k : ℕ) : Type 0 where
  pub in_range : k ≤ length words
  pub begins : Begins (take k words)
  pub stops : k < length words → ¬ Begins (take (k + 1) words)
  pub ends : (t : DesignTree) → ¬ IsSpelling words t

-- what is answered for words: a tree that is spelled so, or where they stop
abbrev pub Answers : List Word → Result DesignTree SyntaxError → Type 0
Answers words (Ok t) = IsSpelling words t
Answers words (Err errors.Memory) = Unit {0}
Answers words (Err (errors.At k)) = StopsAt words k
