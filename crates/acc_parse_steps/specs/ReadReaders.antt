-- Reading what a step reads.
-- Only the parser's code speaks of this; Spelling says what a text is.
use Rattle.std.specs.Prelude.{Bool, ◌||◌, List, Ok, if◌then◌else◌}
use Rattle.acc_grammar.specs.Readers.{◌>>=◌}
use Rattle.acc_lex.specs.declared.words.Sign.{Sign}
use Rattle.acc_lex.specs.declared.words.Sign.TheVariants as sign
use Rattle.acc_lex.specs.declared.words.Word.{Word}
use Rattle.acc_parse_syntax.specs.declared.trees.Variable.{Variable}
use Rattle.acc_parse_syntax.specs.declared.trees.Place.{Place}
use Rattle.acc_parse_syntax.specs.declared.trees.Cell.{Cell}
use Rattle.acc_parse_syntax.specs.declared.trees.ReadTree.{ReadTree}
use Rattle.acc_parse_syntax.specs.declared.trees.ReadTree.TheVariants as read
use Rattle.acc_parse_syntax.specs.WordReaders.{WordsRead, comes, sign_at, number_at}
use Rattle.acc_parse_syntax.specs.ValueReaders.{variable_at, sum_at, place_at, cell_at}

-- this word, X =
unfoldable pub assigned_at : Sign → List Word → WordsRead Variable
assigned_at s ws = do
  k ← sign_at s ws
  x ← variable_at k.1
  q ← sign_at sign.Equal x.1
  Ok (x.0, q.1)

-- this word, X = row
unfoldable pub row_read_at : Sign → List Word → WordsRead (Variable × Place)
row_read_at s ws = do
  x ← assigned_at s ws
  p ← place_at x.1
  e ← sign_at sign.End p.1
  Ok ((x.0, p.0), e.1)

-- this word, X = row.column
unfoldable pub cell_read_at : Sign → List Word → WordsRead (Variable × Cell)
cell_read_at s ws = do
  x ← assigned_at s ws
  c ← cell_at x.1
  e ← sign_at sign.End c.1
  Ok ((x.0, c.0), e.1)

-- let X = value
unfoldable pub let_at : List Word → WordsRead ReadTree
let_at ws = do
  x ← assigned_at sign.Let ws
  v ← sum_at x.1
  e ← sign_at sign.End v.1
  Ok (read.Let x.0 v.0, e.1)

-- get X = row.column
unfoldable pub get_at : List Word → WordsRead ReadTree
get_at ws = do
  r ← cell_read_at sign.Get ws
  Ok (read.Get r.0.0 r.0.1, r.1)

-- has X = row
unfoldable pub has_at : List Word → WordsRead ReadTree
has_at ws = do
  r ← row_read_at sign.Has ws
  Ok (read.Has r.0.0 r.0.1, r.1)

-- count X = row
unfoldable pub count_at : List Word → WordsRead ReadTree
count_at ws = do
  r ← row_read_at sign.Count ws
  Ok (read.Count r.0.0 r.0.1, r.1)

-- sum X = row.column
unfoldable pub sum_read_at : List Word → WordsRead ReadTree
sum_read_at ws = do
  r ← cell_read_at sign.Sum ws
  Ok (read.Sum r.0.0 r.0.1, r.1)

-- least X = row
unfoldable pub least_at : List Word → WordsRead ReadTree
least_at ws = do
  r ← row_read_at sign.Least ws
  Ok (read.Least r.0.0 r.0.1, r.1)

-- greatest X = row
unfoldable pub greatest_at : List Word → WordsRead ReadTree
greatest_at ws = do
  r ← row_read_at sign.Greatest ws
  Ok (read.Greatest r.0.0 r.0.1, r.1)

-- take X
unfoldable pub take_at : List Word → WordsRead ReadTree
take_at ws = do
  k ← sign_at sign.Take ws
  x ← variable_at k.1
  e ← sign_at sign.End x.1
  Ok (read.Take x.0, e.1)

-- mul X = X X
unfoldable pub mul_at : List Word → WordsRead ReadTree
mul_at ws = do
  x ← assigned_at sign.Mul ws
  a ← variable_at x.1
  b ← variable_at a.1
  e ← sign_at sign.End b.1
  Ok (read.Mul x.0 a.0 b.0, e.1)

-- div X = X INT
unfoldable pub div_at : List Word → WordsRead ReadTree
div_at ws = do
  x ← assigned_at sign.Div ws
  a ← variable_at x.1
  n ← number_at a.1
  e ← sign_at sign.End n.1
  Ok (read.Div x.0 a.0 n.0, e.1)

-- a read
unfoldable pub read_at : List Word → WordsRead ReadTree
read_at ws =
    if comes sign.Let ws then let_at ws
    else (if comes sign.Get ws then get_at ws
    else (if comes sign.Has ws then has_at ws
    else (if comes sign.Count ws then count_at ws
    else (if comes sign.Sum ws then sum_read_at ws
    else (if comes sign.Least ws then least_at ws
    else (if comes sign.Greatest ws then greatest_at ws
    else (if comes sign.Take ws then take_at ws
    else (if comes sign.Mul ws then mul_at ws
    else div_at ws))))))))

-- a read begins
abbrev pub starts_read : List Word → Bool
starts_read ws =
    comes sign.Let ws || (comes sign.Get ws
    || (comes sign.Has ws || (comes sign.Count ws || (comes sign.Sum ws
    || (comes sign.Least ws || (comes sign.Greatest ws || (comes sign.Take ws || (comes sign.Mul ws || (comes sign.Div ws)))))))))
