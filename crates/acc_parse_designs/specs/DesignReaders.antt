-- Reading points, types and the whole design.
-- Only the parser's code speaks of this; Spelling says what a text is.
use Rattle.std.specs.Prelude.{ℕ, List, Ok}
use Rattle.acc_grammar.specs.Readers.{◌>>=◌, many}
use Rattle.acc_lex.specs.declared.words.Sign.TheVariants as sign
use Rattle.acc_lex.specs.declared.words.Word.{Word}
use Rattle.acc_parse_syntax.specs.declared.trees.PointTree.{PointTree}
use Rattle.acc_parse_syntax.specs.declared.trees.TypeTree.{TypeTree}
use Rattle.acc_parse_syntax.specs.declared.trees.DesignTree.{DesignTree}
use Rattle.acc_parse_designs.specs.declared.designs.PointHead.{PointHead}
use Rattle.acc_parse_designs.specs.declared.designs.TypeHead.{TypeHead}
use Rattle.acc_parse_designs.specs.declared.designs.TypeNames.{TypeNames}
use Rattle.acc_parse_designs.specs.declared.designs.TypeClauses.{TypeClauses}
use Rattle.acc_parse_designs.specs.declared.designs.TypePoints.{TypePoints}
use Rattle.acc_parse_syntax.specs.WordReaders.{WordsRead, comes, is_name, sign_at, name_at, number_at, end_at}
use Rattle.acc_parse_steps.specs.StepReaders.{side_at}
use Rattle.acc_parse_syntax.specs.ClauseReaders.{clause_statement_at, variant_at}
use Rattle.acc_parse_designs.specs.EntryReaders.{entry_at, hint_at}
use Rattle.acc_parse_syntax.specs.TableReaders.{table_at, starts_table, names_statement_at}

-- what a point begins with, up to its variant
unfoldable pub point_head_at : List Word → WordsRead PointHead
point_head_at ws = do
  k ← sign_at sign.Point ws
  x ← name_at k.1
  e ← sign_at sign.End x.1
  v ← variant_at e.1
  Ok (record { name = x.0; variant = v.0 }, v.1)

-- a point
unfoldable pub point_at : List Word → WordsRead PointTree
point_at ws = do
  h ← point_head_at ws
  hs ← many (comes sign.Holds) (clause_statement_at sign.Holds) h.1
  n ← side_at sign.Next hs.1
  u ← side_at sign.Undo n.1
  Ok (record { name = h.0.name; variant = h.0.variant; holds = hs.0; next = n.0; undo = u.0 }, u.1)

-- limit INT
unfoldable pub limit_at : List Word → WordsRead ℕ
limit_at ws = do
  k ← sign_at sign.Limit ws
  n ← number_at k.1
  e ← sign_at sign.End n.1
  Ok (n.0, e.1)

-- what a type begins with, up to its limit
unfoldable pub type_head_at : List Word → WordsRead TypeHead
type_head_at ws = do
  k ← sign_at sign.Type ws
  x ← name_at k.1
  xs ← many is_name name_at x.1
  e ← sign_at sign.End xs.1
  n ← limit_at e.1
  Ok (record { name = x.0; params = xs.0; limit = n.0 }, n.1)

-- what a type returns, and its other locals
unfoldable pub type_names_at : List Word → WordsRead TypeNames
type_names_at ws = do
  rs ← names_statement_at sign.Returns ws
  ls ← names_statement_at sign.Local rs.1
  Ok (record { returns = rs.0; locals = ls.0 }, ls.1)

-- what a commit of a type ensures, and what a compensation repairs
unfoldable pub type_clauses_at : List Word → WordsRead TypeClauses
type_clauses_at ws = do
  es ← many (comes sign.Ensures) (clause_statement_at sign.Ensures) ws
  cs ← many (comes sign.Repairs) (clause_statement_at sign.Repairs) es.1
  Ok (record { ensured = es.0; repaired = cs.0 }, cs.1)

-- the points of a type
unfoldable pub type_points_at : List Word → WordsRead TypePoints
type_points_at ws = do
  p ← point_at ws
  ps ← many (comes sign.Point) point_at p.1
  Ok (record { first = p.0; others = ps.0 }, ps.1)

-- a type
unfoldable pub type_at : List Word → WordsRead TypeTree
type_at ws = do
  h ← type_head_at ws
  ns ← type_names_at h.1
  cs ← type_clauses_at ns.1
  ps ← type_points_at cs.1
  Ok (
    record {
      name = h.0.name;
      params = h.0.params;
      limit = h.0.limit;
      returns = ns.0.returns;
      locals = ns.0.locals;
      ensured = cs.0.ensured;
      repaired = cs.0.repaired;
      first = ps.0.first;
      others = ps.0.others;
    },
    ps.1,
  )

-- a design, and the end of the words
unfoldable pub design_at : List Word → WordsRead DesignTree
design_at ws = do
  ts ← many starts_table table_at ws
  cs ← many (comes sign.Always) (clause_statement_at sign.Always) ts.1
  ys ← many (comes sign.Type) type_at cs.1
  es ← many (comes sign.Entry) entry_at ys.1
  hs ← many (comes sign.Hint) hint_at es.1
  o ← end_at hs.1
  Ok (record { tables = ts.0; always = cs.0; types = ys.0; entries = es.0; hints = hs.0 }, o.1)
