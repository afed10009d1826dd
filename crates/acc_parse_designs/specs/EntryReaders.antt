-- Reading entries and hints, each a statement up to its end.
-- Only the parser's code speaks of this; Spelling says what a text is.
use Rattle.std.specs.Prelude.{List, Option, Some, None, Ok, if◌then◌else◌}
use Rattle.acc_grammar.specs.Readers.{◌>>=◌, many}
use Rattle.acc_lex.specs.declared.words.Sign.TheVariants as sign
use Rattle.acc_lex.specs.declared.words.Word.{Word}
use Rattle.acc_parse_syntax.specs.declared.trees.SideTree.{SideTree}
use Rattle.acc_parse_syntax.specs.declared.trees.SideTree.TheVariants as side_tree
use Rattle.acc_parse_syntax.specs.declared.trees.PointName.{PointName}
use Rattle.acc_parse_syntax.specs.declared.trees.PairTree.{PairTree}
use Rattle.acc_parse_syntax.specs.declared.trees.Pairs.{Pairs}
use Rattle.acc_parse_syntax.specs.declared.trees.EntryTree.{EntryTree}
use Rattle.acc_parse_designs.specs.declared.entries.EntryHead.{EntryHead}
use Rattle.acc_parse_syntax.specs.declared.trees.HintTree.{HintTree}
use Rattle.acc_parse_syntax.specs.WordReaders.{WordsRead, comes, sign_at, name_at, further_at}
use Rattle.acc_parse_syntax.specs.ValueReaders.{variable_at, sum_at}

-- TYPE . POINT
unfoldable pub point_name_at : List Word → WordsRead PointName
point_name_at ws = do
  t ← name_at ws
  d ← sign_at sign.Dot t.1
  p ← name_at d.1
  Ok (record { type_name = t.0; point = p.0 }, p.1)

-- next or undo
unfoldable pub side_name_at : List Word → WordsRead SideTree
side_name_at ws =
    if comes sign.Next ws then (do
      o ← sign_at sign.Next ws
      Ok (side_tree.Next, o.1))
    else (do
      o ← sign_at sign.Undo ws
      Ok (side_tree.Undo, o.1))

-- X = X
unfoldable pub pair_at : List Word → WordsRead PairTree
pair_at ws = do
  h ← variable_at ws
  q ← sign_at sign.Equal h.1
  s ← variable_at q.1
  Ok (record { held = h.0; step = s.0 }, s.1)

-- a colon and pairs, with commas between them, or nothing
unfoldable pub pairs_at : List Word → WordsRead (Option Pairs)
pairs_at ws =
    if comes sign.Colon ws then (do
      c ← sign_at sign.Colon ws
      p ← pair_at c.1
      ps ← many (comes sign.Comma) (further_at pair_at) p.1
      Ok (Some (record { first = p.0; others = ps.0 }), ps.1))
    else Ok (None, ws)

-- what an entry begins with: two points
unfoldable pub entry_head_at : List Word → WordsRead EntryHead
entry_head_at ws = do
  k ← sign_at sign.Entry ws
  h ← point_name_at k.1
  b ← sign_at sign.By h.1
  y ← point_name_at b.1
  Ok (record { held = h.0; by = y.0 }, y.1)

-- an entry
unfoldable pub entry_at : List Word → WordsRead EntryTree
entry_at ws = do
  h ← entry_head_at ws
  s ← side_name_at h.1
  ps ← pairs_at s.1
  e ← sign_at sign.End ps.1
  Ok (record { held = h.0.held; by = h.0.by; side = s.0; pairs = ps.0 }, e.1)

-- a hint
unfoldable pub hint_at : List Word → WordsRead HintTree
hint_at ws = do
  k ← sign_at sign.Hint ws
  p ← point_name_at k.1
  s ← side_name_at p.1
  v ← sum_at s.1
  e ← sign_at sign.End v.1
  Ok (record { of = p.0; side = s.0; value = v.0 }, e.1)
