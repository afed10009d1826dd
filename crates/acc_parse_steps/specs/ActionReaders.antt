-- Reading what a path writes, and where it ends, each a statement up to its end.
-- Only the parser's code speaks of this; Spelling says what a text is.
use Rattle.std.specs.Prelude.{Bool, ◌||◌, List, Ok, if◌then◌else◌}
use Rattle.acc_grammar.specs.Readers.{◌>>=◌}
use Rattle.acc_lex.specs.declared.words.Sign.TheVariants as sign
use Rattle.acc_lex.specs.declared.words.Word.{Word}
use Rattle.acc_parse_syntax.specs.declared.trees.ActionTree.{ActionTree}
use Rattle.acc_parse_syntax.specs.declared.trees.ActionTree.TheVariants as action
use Rattle.acc_parse_syntax.specs.declared.trees.TargetTree.{TargetTree}
use Rattle.acc_parse_syntax.specs.declared.trees.TargetTree.TheVariants as target
use Rattle.acc_parse_syntax.specs.WordReaders.{WordsRead, comes, sign_at, name_at, number_at}
use Rattle.acc_parse_syntax.specs.ValueReaders.{sum_at, values_at, place_at, cell_at}

-- put row values
unfoldable pub put_at : List Word → WordsRead ActionTree
put_at ws = do
  k ← sign_at sign.Put ws
  p ← place_at k.1
  vs ← values_at p.1
  e ← sign_at sign.End vs.1
  Ok (action.Put p.0 vs.0, e.1)

-- del row
unfoldable pub del_at : List Word → WordsRead ActionTree
del_at ws = do
  k ← sign_at sign.Del ws
  p ← place_at k.1
  e ← sign_at sign.End p.1
  Ok (action.Del p.0, e.1)

-- set row.column value
unfoldable pub set_at : List Word → WordsRead ActionTree
set_at ws = do
  k ← sign_at sign.Set ws
  c ← cell_at k.1
  v ← sum_at c.1
  e ← sign_at sign.End v.1
  Ok (action.Set c.0 v.0, e.1)

-- add row.column value
unfoldable pub add_at : List Word → WordsRead ActionTree
add_at ws = do
  k ← sign_at sign.Add ws
  c ← cell_at k.1
  v ← sum_at c.1
  e ← sign_at sign.End v.1
  Ok (action.Add c.0 v.0, e.1)

-- an action
unfoldable pub action_at : List Word → WordsRead ActionTree
action_at ws =
    if comes sign.Put ws then put_at ws
    else (if comes sign.Del ws then del_at ws
    else (if comes sign.Set ws then set_at ws
    else add_at ws))

-- an action begins
abbrev pub starts_action : List Word → Bool
starts_action ws = comes sign.Put ws || (comes sign.Del ws || (comes sign.Set ws || comes sign.Add ws))

-- goto NAME
abbrev pub goto_at : List Word → WordsRead TargetTree
goto_at ws = do
  k ← sign_at sign.Goto ws
  x ← name_at k.1
  e ← sign_at sign.End x.1
  Ok (target.Goto x.0, e.1)

-- commit
abbrev pub commit_at : List Word → WordsRead TargetTree
commit_at ws = do
  k ← sign_at sign.Commit ws
  e ← sign_at sign.End k.1
  Ok (target.Commit, e.1)

-- undone
abbrev pub undone_at : List Word → WordsRead TargetTree
undone_at ws = do
  k ← sign_at sign.Undone ws
  e ← sign_at sign.End k.1
  Ok (target.Undone, e.1)

-- refuse INT
unfoldable pub refuse_at : List Word → WordsRead TargetTree
refuse_at ws = do
  k ← sign_at sign.Refuse ws
  n ← number_at k.1
  e ← sign_at sign.End n.1
  Ok (target.Refuse n.0, e.1)

-- a target
unfoldable pub target_at : List Word → WordsRead TargetTree
target_at ws =
    if comes sign.Goto ws then goto_at ws
    else (if comes sign.Commit ws then commit_at ws
    else (if comes sign.Undone ws then undone_at ws
    else refuse_at ws))
