-- Reading forms and relations between them.
-- Only the parser's code speaks of this; Spelling says what a text is.
use Rattle.std.specs.Prelude.{ℕ, List, Option, Some, None, Ok, if◌then◌else◌}
use Rattle.acc_grammar.specs.Readers.{◌>>=◌, many}
use Rattle.acc_lex.specs.declared.words.Sign.TheVariants as sign
use Rattle.acc_lex.specs.declared.words.Word.{Word}
use Rattle.acc_parse_syntax.specs.declared.trees.Variable.TheVariants.{Named, Oneself}
use Rattle.acc_parse_syntax.specs.declared.trees.Sums.{Sums}
use Rattle.acc_parse_syntax.specs.declared.trees.Operand.{Operand}
use Rattle.acc_parse_syntax.specs.declared.trees.Operand.TheVariants as operands
use Rattle.acc_parse_syntax.specs.declared.trees.FormTerm.{FormTerm}
use Rattle.acc_parse_syntax.specs.declared.trees.FormTerm.TheVariants.{Constant, Plain, Product}
use Rattle.acc_parse_syntax.specs.declared.trees.SignedFormTerm.{SignedFormTerm}
use Rattle.acc_parse_syntax.specs.declared.trees.FormTree.{FormTree}
use Rattle.acc_parse_syntax.specs.declared.trees.FormRelTree.{FormRelTree}
use Rattle.acc_parse_syntax.specs.WordReaders.{WordsRead, comes, is_number, sign_at, name_at, number_at}
use Rattle.acc_parse_syntax.specs.ValueReaders.{sums_at, place_at, cell_at, minus_at, direction_at, starts_signed_term, relation_at}

-- the key and the column that a table's name stands before, if they do
unfoldable pub key_and_column_at : List Word → WordsRead (Option (Sums × List ℕ))
key_and_column_at ws =
    if comes sign.Open ws then (do
      o ← sign_at sign.Open ws
      k ← sums_at o.1
      c ← sign_at sign.Close k.1
      d ← sign_at sign.Dot c.1
      x ← name_at d.1
      Ok (Some (k.0, x.0), x.1))
    else Ok (None, ws)

-- the name alone is a variable; with a key and a column it is a table
abbrev pub named_operand : List ℕ → Option (Sums × List ℕ) → Operand
named_operand x None = operands.Variable (Named x)
named_operand x (Some p) = operands.Column (record { place = record { table = x; key = p.0 }; column = p.1 })

-- a variable that has a name, or row.column
unfoldable pub named_operand_at : List Word → WordsRead Operand
named_operand_at ws = do
  x ← name_at ws
  p ← key_and_column_at x.1
  Ok (named_operand x.0 p.0, p.1)

-- has row
abbrev pub has_operand_at : List Word → WordsRead Operand
has_operand_at ws = do
  k ← sign_at sign.Has ws
  p ← place_at k.1
  Ok (operands.Has p.0, p.1)

-- count row
abbrev pub count_operand_at : List Word → WordsRead Operand
count_operand_at ws = do
  k ← sign_at sign.Count ws
  p ← place_at k.1
  Ok (operands.Count p.0, p.1)

-- sum row.column
abbrev pub sum_operand_at : List Word → WordsRead Operand
sum_operand_at ws = do
  k ← sign_at sign.Sum ws
  c ← cell_at k.1
  Ok (operands.Sum c.0, c.1)

-- `self`
abbrev pub self_operand_at : List Word → WordsRead Operand
self_operand_at ws = do
  o ← sign_at sign.Oneself ws
  Ok (operands.Variable Oneself, o.1)

-- an operand
unfoldable pub operand_at : List Word → WordsRead Operand
operand_at ws =
    if comes sign.Has ws then has_operand_at ws
    else (if comes sign.Count ws then count_operand_at ws
    else (if comes sign.Sum ws then sum_operand_at ws
    else (if comes sign.Oneself ws then self_operand_at ws
    else named_operand_at ws)))

-- the operand that a number stands before, if one does
unfoldable pub operand_factor_at : List Word → WordsRead (Option Operand)
operand_factor_at ws =
    if comes sign.Times ws then (do
      o ← sign_at sign.Times ws
      x ← operand_at o.1
      Ok (Some x.0, x.1))
    else Ok (None, ws)

-- the number alone, or times the operand
abbrev pub form_product_of : ℕ → Option Operand → FormTerm
form_product_of n None = Constant n
form_product_of n (Some x) = Product n x

-- a term that begins with a number
unfoldable pub form_number_term_at : List Word → WordsRead FormTerm
form_number_term_at ws = do
  n ← number_at ws
  f ← operand_factor_at n.1
  Ok (form_product_of n.0 f.0, f.1)

-- a term
unfoldable pub form_term_at : List Word → WordsRead FormTerm
form_term_at ws =
    if is_number ws then form_number_term_at ws
    else (do
      x ← operand_at ws
      Ok (Plain x.0, x.1))

-- a further term
unfoldable pub signed_form_term_at : List Word → WordsRead SignedFormTerm
signed_form_term_at ws = do
  d ← direction_at ws
  t ← form_term_at d.1
  Ok (record { minus = d.0; term = t.0 }, t.1)

-- a form
unfoldable pub form_at : List Word → WordsRead FormTree
form_at ws = do
  m ← minus_at ws
  t ← form_term_at m.1
  ts ← many starts_signed_term signed_form_term_at t.1
  Ok (record { minus = m.0; first = t.0; others = ts.0 }, ts.1)

-- a relation of two forms
unfoldable pub form_rel_at : List Word → WordsRead FormRelTree
form_rel_at ws = do
  l ← form_at ws
  r ← relation_at l.1
  f ← form_at r.1
  Ok (record { left = l.0; relation = r.0; right = f.0 }, f.1)
