-- Reads and actions are printed at most eight times as long as they were written.
use Rattle.std.proofs.Common.{◌≡◌, ℕ, ◌+◌, ◌*◌, ◌≤◌, false, List, [], ◌∷◌, ◌++◌, length, Option, Some, None, arith, length-append, pos}
use Rattle.std.specs.Prelude.{◌||◌, codes}
use Rattle.std.specs.Fmt.{signed_decimal}
use Rattle.std.proofs.lemmas.Bool.{or_parts}
use Rattle.acc_base.specs.Lines.{line}
use Rattle.acc_lex.specs.declared.words.Word.{Word}
use Rattle.acc_lex.specs.declared.words.Sign.TheVariants as sign
use Rattle.acc_parse_syntax.specs.declared.trees.Variable.{Variable}
use Rattle.acc_parse_syntax.specs.declared.trees.Sum.{Sum}
use Rattle.acc_parse_syntax.specs.declared.trees.Sums.{Sums}
use Rattle.acc_parse_syntax.specs.declared.trees.Cell.{Cell}
use Rattle.acc_parse_syntax.specs.declared.trees.ReadTree.{ReadTree}
use Rattle.acc_parse_syntax.specs.declared.trees.ReadTree.TheVariants as read
use Rattle.acc_parse_syntax.specs.declared.trees.ActionTree.{ActionTree}
use Rattle.acc_parse_syntax.specs.declared.trees.ActionTree.TheVariants as action
use Rattle.acc_parse_syntax.specs.Spelling.{just, number, variable, sum, place, cell, values, read_statement, action_statement}
use Rattle.acc_parse_names.specs.Faults.{variable_fault, sum_fault, values_fault, place_fault, cell_fault, read_fault, action_fault}
use Rattle.acc_parse_clauses.specs.Scopes.{variable_of, table_in, column_in}
use Rattle.acc_parse_clauses.specs.Values.{kept, lin_of, values_of}
use Rattle.acc_parse_clauses.specs.Rows.{key_in}
use Rattle.acc_parse.specs.Steps.{read_of, action_of}
use Rattle.acc_print.specs.Lists.{spaced, listed}
use Rattle.acc_print.specs.Names.{name_at}
use Rattle.acc_print.specs.Values.{lin_text, row_text, cell_text}
use Rattle.acc_print.specs.Steps.{assigned, read_line, action_line}
use Rattle.acc_parse_readback.proofs.SaidReads.{assigned as assigned_words}
use Rattle.acc_parse_readback.proofs.SaidParts.{all_parts}
use Rattle.acc_parse_readback.proofs.SaidNames.{IsHeard, AreHeard, Setting, variables_of}
use Rattle.acc_parse_readback.proofs.SaidRows.{meant, known, shown}
use Rattle.acc_parse_readback.proofs.ShortNumbers.{signed_short}
use Rattle.acc_parse_readback.proofs.Weights.{weight, weight-append}
use Rattle.acc_parse_readback.proofs.ShortNames.{variable_short}
use Rattle.acc_parse_readback.proofs.ShortValues.{kept_size, lin_short, lins_short, row_short, cell_short}

-- a line of texts
pub line_long : (text : List ℕ) → length (line text) ≡ length text + 1
line_long text = length-append text (10 ∷ [])

module _ (a : Setting) where
  abbrev name_of : Variable → List ℕ
  name_of x = name_at a.names (variable_of (variables_of a) x)

  assigned_short : (x : Variable) (word text : List ℕ) → AreHeard a.own (variable x) → variable_fault a.known x ≡ false →
      length (line (assigned (shown a) word (variable_of (variables_of a) x) ++ text)) ≤ length word + weight (variable x) + 4 + length text
  assigned_short x word text heard none =
      omega (
        arith,
        line_long (assigned (shown a) word (variable_of (variables_of a) x) ++ text),
        variable_short a x heard none,
        length-append (assigned (shown a) word (variable_of (variables_of a) x)) text,
        length-append word (name_of x ++ codes " = "),
        length-append (name_of x) (codes " = "),
      )

  assigned_weight : (x : Variable) (ws : List Word) →
      weight (variable x ++ (just sign.Equal ++ (ws ++ just sign.End))) ≡ weight (variable x) + weight ws + 2
  assigned_weight x ws = omega (
    arith,
    weight-append (variable x) (just sign.Equal ++ (ws ++ just sign.End)),
    weight-append ws (just sign.End),
  )

  pub read_short : (r : ReadTree) → AreHeard a.own (read_statement r) → read_fault (known a) r ≡ false →
      length (read_line (shown a) (read_of (meant a) r)) ≤ 8 * weight (read_statement r)
  read_short (read.Let x v) heard faults =
      let words = assigned_words a.own x (sum v) heard.1 in
      let none = or_parts (variable_fault a.known x) (sum_fault a.known v) faults in
      omega (
        arith,
        assigned_short x (codes "let ") (lin_text a.names (lin_of (variables_of a) v)) words.0 none.0,
        lin_short a v words.1 none.1,
        assigned_weight x (sum v),
      )
  read_short (read.Get x c) heard faults =
      let words = assigned_words a.own x (cell c) heard.1 in
      let none = or_parts (variable_fault a.known x) (cell_fault (known a) c) faults in
      omega (
        arith,
        assigned_short x (codes "get ")
            (cell_text (shown a) (table_in (meant a) c.place) (key_in (meant a) c.place) (column_in (meant a) c)) words.0 none.0,
        cell_short a c words.1 none.1,
        assigned_weight x (cell c),
      )
  read_short (read.Has x p) heard faults =
      let words = assigned_words a.own x (place p) heard.1 in
      let none = or_parts (variable_fault a.known x) (place_fault (known a) p) faults in
      omega (
        arith,
        assigned_short x (codes "has ") (row_text (shown a) (table_in (meant a) p) (key_in (meant a) p)) words.0 none.0,
        row_short a p words.1 none.1,
        assigned_weight x (place p),
      )
  read_short (read.Count x p) heard faults =
      let words = assigned_words a.own x (place p) heard.1 in
      let none = or_parts (variable_fault a.known x) (place_fault (known a) p) faults in
      omega (
        arith,
        assigned_short x (codes "count ") (row_text (shown a) (table_in (meant a) p) (key_in (meant a) p)) words.0 none.0,
        row_short a p words.1 none.1,
        assigned_weight x (place p),
      )
  read_short (read.Sum x c) heard faults =
      let words = assigned_words a.own x (cell c) heard.1 in
      let none = or_parts (variable_fault a.known x) (cell_fault (known a) c) faults in
      omega (
        arith,
        assigned_short x (codes "sum ")
            (cell_text (shown a) (table_in (meant a) c.place) (key_in (meant a) c.place) (column_in (meant a) c)) words.0 none.0,
        cell_short a c words.1 none.1,
        assigned_weight x (cell c),
      )
  read_short (read.Least x p) heard faults =
      let words = assigned_words a.own x (place p) heard.1 in
      let none = or_parts (variable_fault a.known x) (place_fault (known a) p) faults in
      omega (
        arith,
        assigned_short x (codes "least ") (row_text (shown a) (table_in (meant a) p) (key_in (meant a) p)) words.0 none.0,
        row_short a p words.1 none.1,
        assigned_weight x (place p),
      )
  read_short (read.Greatest x p) heard faults =
      let words = assigned_words a.own x (place p) heard.1 in
      let none = or_parts (variable_fault a.known x) (place_fault (known a) p) faults in
      omega (
        arith,
        assigned_short x (codes "greatest ") (row_text (shown a) (table_in (meant a) p) (key_in (meant a) p)) words.0 none.0,
        row_short a p words.1 none.1,
        assigned_weight x (place p),
      )
  read_short (read.Take x) heard faults =
      let words = all_parts (IsHeard a.own) (variable x) (just sign.End) heard.1 in
      omega (arith, variable_short a x words.0 faults, line_long (codes "take " ++ name_of x), weight-append (variable x) (just sign.End))
  read_short (read.Mul x y z) heard faults =
      let words = all_parts (IsHeard a.own) (variable x) (just sign.Equal ++ (variable y ++ (variable z ++ just sign.End))) heard.1 in
      let behind = all_parts (IsHeard a.own) (variable y) (variable z ++ just sign.End) words.1.1 in
      let last = all_parts (IsHeard a.own) (variable z) (just sign.End) behind.1 in
      let none = or_parts (variable_fault a.known x) (variable_fault a.known y || variable_fault a.known z) faults in
      let nor = or_parts (variable_fault a.known y) (variable_fault a.known z) none.1 in
      omega (
        arith,
        assigned_short x (codes "mul ") (name_of y ++ spaced (name_of z)) words.0 none.0,
        variable_short a y behind.0 nor.0,
        variable_short a z last.0 nor.1,
        length-append (name_of y) (spaced (name_of z)),
        weight-append (variable x) (just sign.Equal ++ (variable y ++ (variable z ++ just sign.End))),
        weight-append (variable y) (variable z ++ just sign.End),
        weight-append (variable z) (just sign.End),
      )
  read_short (read.Div x y n) heard faults =
      let words = all_parts (IsHeard a.own) (variable x) (just sign.Equal ++ (variable y ++ (number n ++ just sign.End))) heard.1 in
      let behind = all_parts (IsHeard a.own) (variable y) (number n ++ just sign.End) words.1.1 in
      let none = or_parts (variable_fault a.known x) (variable_fault a.known y) faults in
      omega (
        arith,
        assigned_short x (codes "div ") (name_of y ++ spaced (signed_decimal (kept (pos n)))) words.0 none.0,
        variable_short a y behind.0 none.1,
        signed_short (kept (pos n)),
        kept_size (pos n),
        length-append (name_of y) (spaced (signed_decimal (kept (pos n)))),
        weight-append (variable x) (just sign.Equal ++ (variable y ++ (number n ++ just sign.End))),
        weight-append (variable y) (number n ++ just sign.End),
      )

  -- ---- actions

  values_short : (vs : Option Sums) → AreHeard a.own (values vs) → values_fault a.known vs ≡ false →
      length (listed (lin_text a.names) (codes " ") (values_of (variables_of a) vs)) ≤ 1 + 6 * weight (values vs)
  values_short None heard none = omega arith
  values_short (Some ss) heard none = lins_short a (codes " ") ss heard none

  changed_short : (word : List ℕ) (c : Cell) (v : Sum) → AreHeard a.own (cell c ++ (sum v ++ just sign.End)) →
      cell_fault (known a) c || sum_fault a.known v ≡ false →
      length (line (word ++ (cell_text (shown a) (table_in (meant a) c.place) (key_in (meant a) c.place) (column_in (meant a) c) ++ spaced
      (lin_text a.names (lin_of (variables_of a) v))))) ≤ length word + 8 * weight (cell c ++ (sum v ++ just sign.End))
  changed_short word c v heard faults =
      let words = all_parts (IsHeard a.own) (cell c) (sum v ++ just sign.End) heard in
      let behind = all_parts (IsHeard a.own) (sum v) (just sign.End) words.1 in
      let none = or_parts (cell_fault (known a) c) (sum_fault a.known v) faults in
      let at = cell_text (shown a) (table_in (meant a) c.place) (key_in (meant a) c.place) (column_in (meant a) c) in
      let value = spaced (lin_text a.names (lin_of (variables_of a) v)) in
      omega (
        arith,
        cell_short a c words.0 none.0,
        lin_short a v behind.0 none.1,
        line_long (word ++ (at ++ value)),
        length-append word (at ++ value),
        length-append at value,
        weight-append (cell c) (sum v ++ just sign.End),
        weight-append (sum v) (just sign.End),
      )

  pub action_short : (t : ActionTree) → AreHeard a.own (action_statement t) → action_fault (known a) t ≡ false →
      length (action_line (shown a) (action_of (meant a) t)) ≤ 8 * weight (action_statement t)
  action_short (action.Put p vs) heard faults =
      let words = all_parts (IsHeard a.own) (place p) (values vs ++ just sign.End) heard.1 in
      let behind = all_parts (IsHeard a.own) (values vs) (just sign.End) words.1 in
      let none = or_parts (place_fault (known a) p) (values_fault a.known vs) faults in
      let at = row_text (shown a) (table_in (meant a) p) (key_in (meant a) p) in
      let value = listed (lin_text a.names) (codes " ") (values_of (variables_of a) vs) in
      omega (
        arith,
        row_short a p words.0 none.0,
        values_short vs behind.0 none.1,
        line_long (codes "put " ++ (at ++ value)),
        length-append at value,
        weight-append (place p) (values vs ++ just sign.End),
        weight-append (values vs) (just sign.End),
      )
  action_short (action.Del p) heard faults =
      let words = all_parts (IsHeard a.own) (place p) (just sign.End) heard.1 in
      omega (
        arith,
        row_short a p words.0 faults,
        line_long
            (codes "del " ++ row_text (shown a) (table_in (meant a) p) (key_in (meant a) p)),
        weight-append (place p) (just sign.End),
      )
  action_short (action.Set c v) heard faults = omega (arith, changed_short (codes "set ") c v heard.1 faults)
  action_short (action.Add c v) heard faults = omega (arith, changed_short (codes "add ") c v heard.1 faults)
