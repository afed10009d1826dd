-- Reading paths and steps.
-- Only the parser's code speaks of this; Spelling says what a text is.
use Rattle.std.specs.Prelude.{List, Ok}
use Rattle.acc_grammar.specs.Readers.{◌>>=◌, many}
use Rattle.acc_lex.specs.declared.words.Sign.{Sign}
use Rattle.acc_lex.specs.declared.words.Sign.TheVariants as sign
use Rattle.acc_lex.specs.declared.words.Word.{Word}
use Rattle.acc_parse_syntax.specs.declared.trees.PathTree.{PathTree}
use Rattle.acc_parse_syntax.specs.declared.trees.StepTree.{StepTree}
use Rattle.acc_parse_syntax.specs.WordReaders.{WordsRead, comes, sign_at}
use Rattle.acc_parse_syntax.specs.ValueReaders.{guard_at}
use Rattle.acc_parse_steps.specs.ReadReaders.{read_at, starts_read}
use Rattle.acc_parse_steps.specs.ActionReaders.{action_at, starts_action, target_at}

-- a path
unfoldable pub path_at : List Word → WordsRead PathTree
path_at ws = do
  k ← sign_at sign.Path ws
  g ← guard_at k.1
  e ← sign_at sign.End g.1
  acts ← many starts_action action_at e.1
  t ← target_at acts.1
  Ok (record { guard = g.0; actions = acts.0; target = t.0 }, t.1)

-- a step
unfoldable pub step_at : List Word → WordsRead StepTree
step_at ws = do
  rs ← many starts_read read_at ws
  p ← path_at rs.1
  ps ← many (comes sign.Path) path_at p.1
  Ok (record { reads = rs.0; first = p.0; others = ps.0 }, ps.1)

-- `next` or `undo`, and its step
unfoldable pub side_at : Sign → List Word → WordsRead StepTree
side_at s ws = do
  k ← sign_at s ws
  e ← sign_at sign.End k.1
  st ← step_at e.1
  Ok (st.0, st.1)
