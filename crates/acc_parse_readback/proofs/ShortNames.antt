-- The name that is printed for a variable, a table, a column or a point is the one that was written.
use Rattle.std.proofs.Common.{◌≡◌, ℕ, ◌^◌, ◌≤◌, Bool, false, List, [], length, map, Option, Some, ap, sym, ◌∙◌, arith}
use Rattle.std.specs.Prelude.{not, is_none, option_map, unwrap_or, slice_get}
use Rattle.std.specs.List.{find}
use Rattle.std.specs.Str.{bytes_eq}
use Rattle.std.proofs.lemmas.Option.{slice_get-map}
use Rattle.acc_base.specs.declared.tables.Table.{Table}
use Rattle.acc_parse_syntax.specs.declared.trees.Variable.{Variable}
use Rattle.acc_parse_syntax.specs.declared.trees.Variable.TheVariants.{Named, Oneself}
use Rattle.acc_parse_syntax.specs.declared.trees.TableTree.{TableTree}
use Rattle.acc_parse_syntax.specs.Spelling.{variable}
use Rattle.acc_parse_names.specs.Names.{stands_in}
use Rattle.acc_parse_names.specs.Scopes.{columns_of}
use Rattle.acc_parse_names.specs.Faults.{variable_fault, column_fault}
use Rattle.acc_parse_clauses.specs.Scopes.{variable_of, table_names, number_of}
use Rattle.acc_parse.specs.Designs.{table_of}
use Rattle.acc_print.specs.Names.{name_at, table_name, column_name}
use Rattle.acc_parse_readback.proofs.SaidPlaces.{named_there, found_numbered, found_has, some_found}
use Rattle.acc_parse_readback.proofs.SaidNames.{AreHeard, Setting, variables_of, written, name_again, stands_true}
use Rattle.acc_parse_readback.proofs.Weights.{weight}

written_short : (x : Variable) → length (written x) ≤ weight (variable x)
written_short (Named x) = omega arith
written_short Oneself = omega arith

-- a variable's name
pub variable_short : (a : Setting) (x : Variable) → AreHeard a.own (variable x) → variable_fault a.known x ≡ false →
    length (name_at a.names (variable_of (variables_of a) x)) ≤ weight (variable x)
variable_short a x heard known = omega (arith, ap length (name_again a x heard known), written_short x)

-- ---- names in a list

-- a name among some names
pub named_same : (x : List ℕ) (names : List (List ℕ)) → not (stands_in x names) ≡ false → length names ≤ 2 ^ 32 →
    name_at names (number_of x names) ≡ x
named_same x names h few = ap (λ (o : Option (List ℕ)). unwrap_or o []) (named_there x names (stands_true x names h) few)

-- ---- tables and columns

module _ (trees : List TableTree) (few : length trees ≤ 2 ^ 32) where
  abbrev finds : List ℕ → TableTree → Bool
  finds x t = bytes_eq x t.name

  at_number : (x : List ℕ) (t : TableTree) → find (finds x) trees ≡ Some t →
      slice_get (map table_of trees) (number_of x (table_names trees)) ≡ Some (table_of t)
  at_number x t e =
      slice_get-map table_of trees (number_of x (table_names trees)) ∙ ap (option_map table_of)
      (found_numbered (λ (u : TableTree). u.name) x trees t e few)

  pub table_same : (x : List ℕ) → is_none (columns_of trees x) ≡ false →
      table_name (slice_get (map table_of trees) (number_of x (table_names trees))) ≡ x
  table_same x h =
      let found = some_found (λ (t : TableTree). t.columns) (find (finds x) trees) h in
      ap table_name (at_number x found.0 found.1) ∙ found_has (λ (t : TableTree). t.name) x trees found.0 found.1

  pub column_same : (x y : List ℕ) → is_none (columns_of trees x) ≡ false → column_fault (columns_of trees x) y ≡ false →
      ((t : TableTree) → find (finds x) trees ≡ Some t → length t.columns ≤ 2 ^ 32) →
      column_name (slice_get (map table_of trees) (number_of x (table_names trees))) (number_of y (unwrap_or (columns_of trees x) [])) ≡ y
  column_same x y h g few_columns =
      let found = some_found (λ (t : TableTree). t.columns) (find (finds x) trees) h in
      let columns : columns_of trees x ≡ Some found.0.columns = ap (option_map (λ (t : TableTree). t.columns)) found.1 in
      let known : not (stands_in y found.0.columns) ≡ false = sym (ap (λ (o : Option (List (List ℕ))). column_fault o y) columns) ∙ g in
      ap (λ (o : Option Table). column_name o (number_of y (unwrap_or (columns_of trees x) []))) (at_number x found.0 found.1)
      ∙ (ap (λ (o : Option (List (List ℕ))). name_at found.0.columns (number_of y (unwrap_or o []))) columns
      ∙ named_same y found.0.columns known (few_columns found.0 found.1))
