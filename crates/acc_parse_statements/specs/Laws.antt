-- What holds of the statements of all designs and texts.
-- The laws of this crate state it.
use Rattle.std.specs.Prelude.{◌≡◌, ℕ, List}
use Rattle.acc_parse_syntax.specs.declared.trees.DesignTree.{DesignTree}
use Rattle.acc_parse_syntax.specs.Spelling.{spelled_design}
use Rattle.acc_parse_statements.specs.Ends.{ends}
use Rattle.acc_parse_statements.specs.Counts.{statements_of}
use Rattle.acc_parse_statements.specs.Lines.{IsLineOf}

-- the words of a design have an end for each of its statements
abbrev pub EachStatementEnds : Type 0
EachStatementEnds = (t : DesignTree) → ends (spelled_design t) ≡ statements_of t

-- a statement ends on one line at most
abbrev pub OneLineEach : Type 0
OneLineEach = (text : List ℕ) (n a b : ℕ) → IsLineOf text n a → IsLineOf text n b → a ≡ b
