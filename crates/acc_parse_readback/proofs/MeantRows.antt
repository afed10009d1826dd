-- Printed rows and cells stand for themselves, and pass no limit.
use Rattle.std.proofs.Common.{◌≡◌, ◌≤◌, ℕ, List, [], ◌∷◌, length, map, Option, Some, None, refl, ap, subst, ◌∙◌, arith}
use Rattle.std.specs.Prelude.{slice_get, unwrap_or, option_map}
use Rattle.std.specs.List.{find}
use Rattle.std.specs.Str.{bytes_eq}
use Rattle.acc_grammar.specs.Readers.{AllIn}
use Rattle.acc_base.specs.declared.tables.Table.{Table}
use Rattle.acc_base.specs.declared.forms.Lin.{Lin}
use Rattle.acc_parse_syntax.specs.declared.trees.TableTree.{TableTree}
use Rattle.acc_parse_clauses.specs.Scopes.{Scope as Surroundings, number_of, table_names, table_in, column_in}
use Rattle.acc_parse_clauses.specs.Rows.{key_in}
use Rattle.acc_parse_clauses.specs.Sizes.{place_sizes}
use Rattle.acc_print.specs.Names.{Scope, name_at, table_name, column_name}
use Rattle.acc_parse_readback.specs.Trees.{place_tree, cell_tree}
use Rattle.acc_parse_readback.specs.TypeTrees.{table_tree}
use Rattle.acc_parse_readback.specs.Printable.{IsName, IsKeySaid, IsRowSaid, IsCellSaid, AreNew}
use Rattle.acc_parse_readback.specs.PrintableTypes.{IsTableSaid}
use Rattle.acc_parse_readback.proofs.NamePlaces.{number_new}
use Rattle.acc_parse_readback.proofs.ItemNumbers.{looked_up, trees_named, number_item, found_item}
use Rattle.acc_parse_readback.proofs.VariableNumbers.{Fits}
use Rattle.acc_parse_readback.proofs.MeantValues.{lins_back, lins_end}
use Rattle.acc_parse_readback.proofs.OnlyEnds.{AreEnds}

abbrev pub name_of_table : Table → List ℕ
name_of_table t = t.name

-- the trees of the tables, and the variables
pub record Suits (s : Scope) (m : Surroundings) : Type 0 where
  pub tables : m.tables ≡ map table_tree s.tables
  pub said : AllIn IsTableSaid s.tables
  pub few : length s.tables ≤ 64
  pub new : AreNew [] (map name_of_table s.tables)
  pub variables : Fits s.names m.variables

-- a table that has a name is there
table_there : (o : Option Table) → IsName (table_name o) → (t : Table) × (o ≡ Some t)
table_there None h = absurd h.0
table_there (Some t) h = (t, refl)

module _ (s : Scope) (m : Surroundings) (f : Suits s m) where
  names_back : table_names m.tables ≡ map name_of_table s.tables
  names_back = ap table_names f.tables ∙ trees_named name_of_table table_tree (λ u. u.name) (λ t. refl) s.tables

  pub table_back : (table : ℕ) (key : List Lin) → IsRowSaid s table key → table_in m (place_tree s table key) ≡ table
  table_back table key h =
      let there = table_there (slice_get s.tables table) h.table in
      ap (λ (o : Option Table). number_of (table_name o) (table_names m.tables)) there.1 ∙ number_item name_of_table s.tables
      (table_names m.tables) table there.0 names_back f.new (omega (arith, f.few)) there.1

  key_of : (key : List Lin) → IsKeySaid s.names key → key_in m (place_tree s 0 key) ≡ key
  key_of [] h = absurd h
  key_of (l ∷ ls) h = lins_back s.names m.variables f.variables l ls h

  pub key_back : (table : ℕ) (key : List Lin) → IsRowSaid s table key → key_in m (place_tree s table key) ≡ key
  key_back table key h = key_of key h.key

  key_ends : (key : List Lin) → IsKeySaid s.names key → AreEnds (place_sizes m (place_tree s 0 key))
  key_ends [] h = absurd h
  key_ends (l ∷ ls) h = lins_end s.names m.variables f.variables l ls h

  pub row_ends : (table : ℕ) (key : List Lin) → IsRowSaid s table key → AreEnds (place_sizes m (place_tree s table key))
  row_ends table key h = key_ends key h.key

  -- the columns of the table that has the name
  columns_there : (table column : ℕ) (t : Table) → slice_get s.tables table ≡ Some t → IsName (name_at t.cols column) →
      (o : Option TableTree) → o ≡ Some (table_tree t)
      → number_of (name_at t.cols column) (unwrap_or (option_map (λ (u : TableTree). u.columns) o) []) ≡ column
  columns_there table column t e h o is =
      let said = looked_up IsTableSaid s.tables table t f.said e in
      ap (λ (u : Option TableTree). number_of (name_at t.cols column) (unwrap_or (option_map (λ (u : TableTree). u.columns) u) [])) is ∙
      number_new t.cols column said.new_columns (omega (arith, said.few_columns)) h

  pub column_back : (table : ℕ) (key : List Lin) (column : ℕ) → IsCellSaid s table key column →
      column_in m (cell_tree s table key column) ≡ column
  column_back table key column h =
      let there = table_there (slice_get s.tables table) h.row.table in
      let t = there.0 in
      let found = ap (find (λ (u : TableTree). bytes_eq t.name u.name)) f.tables ∙ found_item name_of_table table_tree (λ u. u.name)
      (λ u. refl) s.tables table t f.new there.1 in
      ap (λ (o : Option Table). number_of (column_name o column)
      (unwrap_or (option_map (λ (u : TableTree). u.columns) (find (λ (u : TableTree). bytes_eq (table_name o) u.name) m.tables)) []))
      there.1
      ∙ columns_there table column t there.1 (subst (λ (o : Option Table). IsName (column_name o column)) there.1 h.column)
      (find (λ (u : TableTree). bytes_eq t.name u.name) m.tables) found
