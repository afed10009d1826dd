-- Reading clauses and variants, each a statement up to its end.
-- Only the parser's code speaks of this; Spelling says what a text is.
use Rattle.std.specs.Prelude.{Bool, ◌||◌, List, Option, Some, None, Ok, if◌then◌else◌}
use Rattle.acc_grammar.specs.Readers.{◌>>=◌, many}
use Rattle.acc_lex.specs.declared.words.Sign.{Sign}
use Rattle.acc_lex.specs.declared.words.Sign.TheVariants as sign
use Rattle.acc_lex.specs.declared.words.Word.{Word}
use Rattle.acc_parse_syntax.specs.declared.trees.Names.{Names}
use Rattle.acc_parse_syntax.specs.declared.trees.Sum.{Sum}
use Rattle.acc_parse_syntax.specs.declared.trees.FormRelTree.{FormRelTree}
use Rattle.acc_parse_syntax.specs.declared.trees.ClauseTree.{ClauseTree}
use Rattle.acc_parse_syntax.specs.WordReaders.{WordsRead, comes, sign_at, further_at}
use Rattle.acc_parse_syntax.specs.ValueReaders.{sum_at}
use Rattle.acc_parse_syntax.specs.TableReaders.{names_at}
use Rattle.acc_parse_syntax.specs.FormReaders.{form_rel_at}

-- forall names :, or nothing
unfoldable pub binder_at : List Word → WordsRead (Option Names)
binder_at ws =
    if comes sign.Forall ws then (do
      k ← sign_at sign.Forall ws
      ns ← names_at k.1
      c ← sign_at sign.Colon ns.1
      Ok (Some ns.0, c.1))
    else Ok (None, ws)

-- further guards, or the arrow behind the last one
abbrev pub starts_conclusion : List Word → Bool
starts_conclusion ws = comes sign.Comma ws || comes sign.Implies ws

-- where the relation that was read is a guard: further guards, and the relation behind the arrow
unfoldable pub conclusion_at : List Word → WordsRead (Option (List FormRelTree × FormRelTree))
conclusion_at ws =
    if starts_conclusion ws then (do
      gs ← many (comes sign.Comma) (further_at form_rel_at) ws
      i ← sign_at sign.Implies gs.1
      r ← form_rel_at i.1
      Ok (Some (gs.0, r.0), r.1))
    else Ok (None, ws)

-- the first relation is the clause's own, or its first guard
abbrev pub clause_of : Option Names → FormRelTree → Option (List FormRelTree × FormRelTree) → ClauseTree
clause_of ns r None = record { variables = ns; guards = None; relation = r }
clause_of ns r (Some c) = record { variables = ns; guards = Some (record { first = r; others = c.0 }); relation = c.1 }

-- a clause
unfoldable pub clause_at : List Word → WordsRead ClauseTree
clause_at ws = do
  ns ← binder_at ws
  r ← form_rel_at ns.1
  c ← conclusion_at r.1
  Ok (clause_of ns.0 r.0 c.0, c.1)

-- a statement of this word and a clause
unfoldable pub clause_statement_at : Sign → List Word → WordsRead ClauseTree
clause_statement_at s ws = do
  k ← sign_at s ws
  c ← clause_at k.1
  e ← sign_at sign.End c.1
  Ok (c.0, e.1)

-- variant value, or nothing
unfoldable pub variant_at : List Word → WordsRead (Option Sum)
variant_at ws =
    if comes sign.Variant ws then (do
      k ← sign_at sign.Variant ws
      v ← sum_at k.1
      e ← sign_at sign.End v.1
      Ok (Some v.0, e.1))
    else Ok (None, ws)
