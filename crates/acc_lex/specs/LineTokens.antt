-- The tokens of a line: a text is parts, one behind the other, and each but spaces and comments is a token.
use Rattle.std.specs.Prelude.{ℕ, ◌+◌, List, [], ◌∷◌, ◌++◌, length, Option, Some, None, ◌==◌, if◌then◌else◌}
use Rattle.acc_grammar.specs.Readers.{joined}
use Rattle.acc_lex.specs.declared.parts.Shape.{Shape}
use Rattle.acc_lex.specs.declared.parts.Shape.TheVariants as shape
use Rattle.acc_lex.specs.declared.parts.Part.{Part}
use Rattle.acc_lex.specs.declared.tokens.Kind.{Kind}
use Rattle.acc_lex.specs.declared.tokens.Kind.TheVariants as kind
use Rattle.acc_lex.specs.declared.tokens.Token.{Token as TokenValue}
use Rattle.acc_lex.specs.Spellings.{Token, Letters, Digits, Mark, Item, Statement, Line, Comment, Statements, token_bytes}

-- ---- the parts of a line, by the lengths of what is written

-- so many bytes of a shape
abbrev pub part : Shape → ℕ → List Part
part s n = record { shape = s; len = n } ∷ []

-- so many bytes between tokens, if there are any
abbrev pub gap : ℕ → List Part
gap n = if n == 0 then [] else part shape.Gap n

-- what a token is
abbrev pub shape_of : Token → Shape
shape_of (Letters w) = shape.Word
shape_of (Digits w) = shape.Number
shape_of (Mark s) = shape.Mark

-- a token, and the spaces behind it
abbrev pub item_parts : Item → List Part
item_parts i = part (shape_of i.token) (length (token_bytes i.token)) ++ gap i.spaces

-- spaces, and then tokens
abbrev pub statement_parts : Statement → List Part
statement_parts s = gap s.spaces ++ joined item_parts s.items

-- a ;, and the statement behind it
abbrev pub next_statement_parts : Statement → List Part
next_statement_parts s = part shape.Stop 1 ++ statement_parts s

-- a comment is spaces, # and bytes; any other line is statements
abbrev pub line_parts : Line → List Part
line_parts (Comment n bytes) = gap n ++ gap (1 + length bytes)
line_parts (Statements s others) = statement_parts s ++ joined next_statement_parts others

-- a line feed, and the line behind it
abbrev pub next_line_parts : Line → List Part
next_line_parts l = part shape.Feed 1 ++ line_parts l

-- a first line, others, and the end of the text
abbrev pub lines_parts : Line × List Line → List Part
lines_parts ls = line_parts ls.0 ++ joined next_line_parts ls.1 ++ part shape.Last 0

-- how many bytes parts have
abbrev pub parts_len : List Part → ℕ
parts_len [] = 0
parts_len (p ∷ ps) = p.len + parts_len ps

-- ---- the tokens of parts

-- what a part is as a token, if it is one
abbrev pub kind_of : Shape → Option Kind
kind_of shape.Gap = None
kind_of shape.Word = Some kind.Word
kind_of shape.Number = Some kind.Number
kind_of shape.Mark = Some kind.Mark
kind_of shape.Stop = Some kind.End
kind_of shape.Feed = Some kind.End
kind_of shape.Last = Some kind.End

-- how many line feeds a part has
abbrev pub feeds_of : Shape → ℕ
feeds_of shape.Feed = 1
feeds_of _ = 0

-- the token from one place to another on a line, if it is one
abbrev pub token_of : Option Kind → ℕ → ℕ → ℕ → List TokenValue
token_of (Some k) line from to = record { line = line; from = from; to = to; kind = k } ∷ []
token_of None line from to = []

-- the tokens of parts that begin on a line, at a place
abbrev pub tokens_from : ℕ → ℕ → List Part → List TokenValue
tokens_from line from [] = []
tokens_from line from (p ∷ ps) = token_of (kind_of p.shape) line from (from + p.len)
    ++ tokens_from (line + feeds_of p.shape) (from + p.len) ps

-- the tokens of lines
abbrev pub lines_tokens : Line × List Line → List TokenValue
lines_tokens ls = tokens_from 1 0 (lines_parts ls)
