-- Which text is the text of which design.
use Rattle.std.specs.Prelude.{◌≡◌, ℕ, List, [], ◌++◌, None}
use Rattle.acc_base.specs.declared.designs.Design.{Design}
use Rattle.acc_lex.specs.declared.words.Word.{Word}
use Rattle.acc_lex.specs.Texts.{IsLexed}
use Rattle.acc_parse_syntax.specs.declared.trees.DesignTree.{DesignTree}
use Rattle.acc_parse_designs.specs.Texts.{IsSpelling}
use Rattle.acc_parse_names.specs.Faults.{first_fault_of}
use Rattle.acc_base.specs.declared.limits.Limit.{Limit}
use Rattle.acc_parse_limits.specs.Faults.{limit_faults}
use Rattle.acc_parse_meaning.specs.Sizes.{size_faults}
use Rattle.acc_parse_meaning.specs.Designs.{design_of}

-- the text is of the grammar: it is words that spell a tree
pub record IsGrammatical (text : List ℕ) : Type 0 where
  pub words : List Word
  pub lexed : IsLexed text words
  pub tree : DesignTree
  pub spelled : IsSpelling words tree

-- the limits that statements pass, by what is written and by the numbers that are collected
abbrev pub past_limits : DesignTree → List (ℕ × Limit)
past_limits t = limit_faults t ++ size_faults t

-- no name is defined a second time or used undefined, and no limit is passed
pub record IsAllowed (t : DesignTree) : Type 0 where
  pub names : first_fault_of t ≡ None
  pub limits : past_limits t ≡ []

-- the text spells a tree that is allowed, and stands for the design
pub record IsDesignText (text : List ℕ) (d : Design) : Type 0 where
  pub of : IsGrammatical text
  pub allowed : IsAllowed of.tree
  pub means : d ≡ design_of of.tree
