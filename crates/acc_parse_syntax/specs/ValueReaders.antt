-- Reading linear values, rows and guards.
-- Only the parser's code speaks of this; Spelling says what a text is.
use Rattle.std.specs.Prelude.{ℕ, Bool, true, false, ◌||◌, List, Option, Some, None, Ok, if◌then◌else◌}
use Rattle.acc_grammar.specs.Readers.{◌>>=◌, many}
use Rattle.acc_lex.specs.declared.words.Sign.TheVariants as sign
use Rattle.acc_lex.specs.declared.words.Word.{Word}
use Rattle.acc_parse_syntax.specs.declared.trees.Variable.{Variable}
use Rattle.acc_parse_syntax.specs.declared.trees.Variable.TheVariants.{Named, Oneself}
use Rattle.acc_parse_syntax.specs.declared.trees.Term.{Term}
use Rattle.acc_parse_syntax.specs.declared.trees.Term.TheVariants.{Constant, Plain, Product}
use Rattle.acc_parse_syntax.specs.declared.trees.SignedTerm.{SignedTerm}
use Rattle.acc_parse_syntax.specs.declared.trees.Sum.{Sum}
use Rattle.acc_parse_syntax.specs.declared.trees.Sums.{Sums}
use Rattle.acc_parse_syntax.specs.declared.trees.Place.{Place}
use Rattle.acc_parse_syntax.specs.declared.trees.Cell.{Cell}
use Rattle.acc_parse_syntax.specs.declared.trees.Relation.{Relation}
use Rattle.acc_parse_syntax.specs.declared.trees.Relation.TheVariants as relation
use Rattle.acc_parse_syntax.specs.declared.trees.LinRelTree.{LinRelTree}
use Rattle.acc_parse_syntax.specs.declared.trees.LinRels.{LinRels}
use Rattle.acc_parse_syntax.specs.WordReaders.{WordsRead, comes, is_name, is_number, sign_at, name_at, number_at, further_at}

-- NAME or `self`
unfoldable pub variable_at : List Word → WordsRead Variable
variable_at ws =
    if comes sign.Oneself ws then (do
      o ← sign_at sign.Oneself ws
      Ok (Oneself, o.1))
    else (do
      x ← name_at ws
      Ok (Named x.0, x.1))

-- the variable that a number stands before, if one does
unfoldable pub factor_at : List Word → WordsRead (Option Variable)
factor_at ws =
    if comes sign.Times ws then (do
      o ← sign_at sign.Times ws
      x ← variable_at o.1
      Ok (Some x.0, x.1))
    else Ok (None, ws)

-- the number alone, or times the variable
abbrev pub product_of : ℕ → Option Variable → Term
product_of n None = Constant n
product_of n (Some x) = Product n x

-- a term that begins with a number
unfoldable pub number_term_at : List Word → WordsRead Term
number_term_at ws = do
  n ← number_at ws
  f ← factor_at n.1
  Ok (product_of n.0 f.0, f.1)

-- a term
unfoldable pub term_at : List Word → WordsRead Term
term_at ws =
    if is_number ws then number_term_at ws
    else (do
      x ← variable_at ws
      Ok (Plain x.0, x.1))

-- whether a minus stands here
unfoldable pub minus_at : List Word → WordsRead Bool
minus_at ws =
    if comes sign.Minus ws then (do
      o ← sign_at sign.Minus ws
      Ok (true, o.1))
    else Ok (false, ws)

-- a minus or a plus
unfoldable pub direction_at : List Word → WordsRead Bool
direction_at ws =
    if comes sign.Minus ws then (do
      o ← sign_at sign.Minus ws
      Ok (true, o.1))
    else (do
      o ← sign_at sign.Plus ws
      Ok (false, o.1))

-- a further term
unfoldable pub signed_term_at : List Word → WordsRead SignedTerm
signed_term_at ws = do
  d ← direction_at ws
  t ← term_at d.1
  Ok (record { minus = d.0; term = t.0 }, t.1)

-- a further term begins
abbrev pub starts_signed_term : List Word → Bool
starts_signed_term ws = comes sign.Plus ws || comes sign.Minus ws

-- a linear value
unfoldable pub sum_at : List Word → WordsRead Sum
sum_at ws = do
  m ← minus_at ws
  t ← term_at m.1
  ts ← many starts_signed_term signed_term_at t.1
  Ok (record { minus = m.0; first = t.0; others = ts.0 }, ts.1)

-- a linear value begins
abbrev pub starts_sum : List Word → Bool
starts_sum ws = is_number ws || (is_name ws || (comes sign.Oneself ws || comes sign.Minus ws))

-- linear values, with commas between them
unfoldable pub sums_at : List Word → WordsRead Sums
sums_at ws = do
  s ← sum_at ws
  ss ← many (comes sign.Comma) (further_at sum_at) s.1
  Ok (record { first = s.0; others = ss.0 }, ss.1)

-- linear values, or nothing
unfoldable pub values_at : List Word → WordsRead (Option Sums)
values_at ws =
    if starts_sum ws then (do
      s ← sums_at ws
      Ok (Some s.0, s.1))
    else Ok (None, ws)

-- a row
unfoldable pub place_at : List Word → WordsRead Place
place_at ws = do
  x ← name_at ws
  o ← sign_at sign.Open x.1
  k ← sums_at o.1
  c ← sign_at sign.Close k.1
  Ok (record { table = x.0; key = k.0 }, c.1)

-- a column of a row
unfoldable pub cell_at : List Word → WordsRead Cell
cell_at ws = do
  p ← place_at ws
  d ← sign_at sign.Dot p.1
  c ← name_at d.1
  Ok (record { place = p.0; column = c.0 }, c.1)

-- <=, >= or =
unfoldable pub relation_at : List Word → WordsRead Relation
relation_at ws =
    if comes sign.AtMost ws then (do
      o ← sign_at sign.AtMost ws
      Ok (relation.AtMost, o.1))
    else (if comes sign.AtLeast ws then (do
      o ← sign_at sign.AtLeast ws
      Ok (relation.AtLeast, o.1))
    else (do
      o ← sign_at sign.Equal ws
      Ok (relation.Equal, o.1)))

-- a relation of two linear values
unfoldable pub lin_rel_at : List Word → WordsRead LinRelTree
lin_rel_at ws = do
  l ← sum_at ws
  r ← relation_at l.1
  s ← sum_at r.1
  Ok (record { left = l.0; relation = r.0; right = s.0 }, s.1)

-- relations, with commas between them
unfoldable pub lin_rels_at : List Word → WordsRead LinRels
lin_rels_at ws = do
  r ← lin_rel_at ws
  rs ← many (comes sign.Comma) (further_at lin_rel_at) r.1
  Ok (record { first = r.0; others = rs.0 }, rs.1)

-- a guard, or nothing
unfoldable pub guard_at : List Word → WordsRead (Option LinRels)
guard_at ws =
    if starts_sum ws then (do
      g ← lin_rels_at ws
      Ok (Some g.0, g.1))
    else Ok (None, ws)
