-- Reading tables, and statements of names, each up to its end.
-- Only the parser's code speaks of this; Spelling says what a text is.
use Rattle.std.specs.Prelude.{Bool, true, false, ◌||◌, List, Option, Some, None, Ok, if◌then◌else◌}
use Rattle.acc_grammar.specs.Readers.{◌>>=◌, many}
use Rattle.acc_lex.specs.declared.words.Sign.{Sign}
use Rattle.acc_lex.specs.declared.words.Sign.TheVariants as sign
use Rattle.acc_lex.specs.declared.words.Word.{Word}
use Rattle.acc_parse_syntax.specs.declared.trees.Names.{Names}
use Rattle.acc_parse_syntax.specs.declared.trees.TableTree.{TableTree}
use Rattle.acc_parse_syntax.specs.WordReaders.{WordsRead, comes, is_name, sign_at, name_at, number_at}

-- `private` or `table`
unfoldable pub private_at : List Word → WordsRead Bool
private_at ws =
    if comes sign.Private ws then (do
      o ← sign_at sign.Private ws
      Ok (true, o.1))
    else (do
      o ← sign_at sign.Table ws
      Ok (false, o.1))

-- a table
unfoldable pub table_at : List Word → WordsRead TableTree
table_at ws = do
  p ← private_at ws
  x ← name_at p.1
  w ← number_at x.1
  cs ← many is_name name_at w.1
  e ← sign_at sign.End cs.1
  Ok (record { private = p.0; name = x.0; width = w.0; columns = cs.0 }, e.1)

-- a table begins
abbrev pub starts_table : List Word → Bool
starts_table ws = comes sign.Private ws || comes sign.Table ws

-- one or more names
unfoldable pub names_at : List Word → WordsRead Names
names_at ws = do
  x ← name_at ws
  xs ← many is_name name_at x.1
  Ok (record { first = x.0; others = xs.0 }, xs.1)

-- a statement of this word and names, or nothing
unfoldable pub names_statement_at : Sign → List Word → WordsRead (Option Names)
names_statement_at s ws =
    if comes s ws then (do
      k ← sign_at s ws
      ns ← names_at k.1
      e ← sign_at sign.End ns.1
      Ok (Some ns.0, e.1))
    else Ok (None, ws)
