-- The design that a text stands for, as it is read: into lines, words, a tree and the design. Where the bytes are no such text, these
-- definitions say nothing of use.
use Rattle.std.specs.Prelude.{ℕ, List, [], ◌∷◌, Ok, Err}
use Rattle.acc_base.specs.declared.designs.Design.{Design}
use Rattle.acc_parse_designs.specs.DesignReaders.{design_at}
use Rattle.acc_grammar.specs.Readers.{OutcomeOf}
use Rattle.acc_lex.specs.declared.words.Word.{Word}
use Rattle.acc_lex.specs.LineWords.{lines_words}
use Rattle.acc_lex.specs.Readings.{lines_at}
use Rattle.acc_lex.specs.Spellings.{Line, Comment}
use Rattle.acc_parse_meaning.specs.Designs.{design_of}
use Rattle.acc_parse_syntax.specs.declared.trees.DesignTree.{DesignTree}

abbrev pub lines_or_none : OutcomeOf ℕ (Line × List Line) → Line × List Line
lines_or_none (Ok x) = x.0
lines_or_none (Err e) = (Comment 0 [], [])

abbrev pub tree_or_none : OutcomeOf Word DesignTree → DesignTree
tree_or_none (Ok x) = x.0
tree_or_none (Err e) = record { tables = []; always = []; types = []; entries = []; hints = [] }

abbrev pub lines_in : List ℕ → Line × List Line
lines_in bytes = lines_or_none (lines_at bytes)

abbrev pub words_in : List ℕ → List Word
words_in bytes = lines_words (lines_in bytes)

abbrev pub tree_in : List ℕ → DesignTree
tree_in bytes = tree_or_none (design_at (words_in bytes))

-- what the text stands for
abbrev pub design_in : List ℕ → Design
design_in bytes = design_of (tree_in bytes)
