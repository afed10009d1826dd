-- Printed values, rows and guards use names that are defined.
use Rattle.std.proofs.Common.{◌≡◌, ℕ, inl, inr, Bool, true, false, not, List, [], ◌∷◌, ◌++◌, map, Option, Some, None, refl, sym, ap, subst}
use Rattle.std.proofs.Common.{◌∙◌, zero, suc, ℤ, pos, negsuc}
use Rattle.std.specs.Prelude.{◌==◌, if◌then◌else◌, option_map, is_none, unsigned_abs, slice_get, codes}
use Rattle.std.specs.Str.{bytes_eq}
use Rattle.acc_grammar.specs.Readers.{AllIn}
use Rattle.acc_grammar.proofs.Exact.{AllIn-append}
use Rattle.acc_base.specs.declared.forms.Lin.{Lin}
use Rattle.acc_base.specs.declared.forms.LinRel.{LinRel}
use Rattle.acc_base.specs.declared.tables.Table.{Table}
use Rattle.acc_parse_syntax.specs.declared.trees.Variable.{Variable}
use Rattle.acc_parse_syntax.specs.declared.trees.Variable.TheVariants.{Named, Oneself}
use Rattle.acc_parse_syntax.specs.declared.trees.Term.TheVariants.{Plain, Product}
use Rattle.acc_parse_syntax.specs.declared.trees.SignedTerm.{SignedTerm}
use Rattle.acc_parse_syntax.specs.declared.trees.Sum.{Sum}
use Rattle.acc_parse_syntax.specs.declared.trees.LinRelTree.{LinRelTree}
use Rattle.acc_parse_syntax.specs.declared.trees.TableTree.{TableTree}
use Rattle.acc_parse_names.specs.Names.{stands_in}
use Rattle.acc_parse_names.specs.Scopes.{Scope as Known, columns_of}
use Rattle.acc_parse_names.specs.Faults.{variable_fault, term_fault, sum_fault, sums_fault, lin_rel_fault, guard_fault, place_fault, column_fault}
use Rattle.acc_parse_names.specs.Faults.{cell_fault}
use Rattle.acc_print.specs.Names.{Scope, name_at, table_name, column_name}
use Rattle.acc_parse_readback.specs.Trees.{variable_tree, term_tree, signed_tree, constant_trees, sum_tree, lin_tree, sums_tree, place_tree}
use Rattle.acc_parse_readback.specs.Trees.{cell_tree, lin_rel_tree, guard_tree, zero_tree}
use Rattle.acc_parse_readback.specs.TypeTrees.{table_tree}
use Rattle.acc_parse_readback.specs.Printable.{IsName, IsVariable, AreNew, IsTermSaid, IsLinSaid, IsKeySaid, IsRowSaid, IsCellSaid, IsLinRelSaid}
use Rattle.acc_parse_readback.proofs.Mapped.{all_mapped}
use Rattle.acc_parse_readback.proofs.Faultless.{neither, none_any}
use Rattle.acc_parse_readback.proofs.StandingNames.{itself, stands_at, AreSame, found_new}

-- ---- variables

by_flag : (b : Bool) (x : List ℕ) (variables : List (List ℕ)) → (b ≡ false → stands_in x variables ≡ true) →
    variable_fault variables (if b then Oneself else Named x) ≡ false
by_flag true x variables h = refl
by_flag false x variables h = ap not (h refl)

pub variable_defined : (names variables : List (List ℕ)) → AreSame names variables → (n : ℕ) → IsVariable (name_at names n) →
    variable_fault variables (variable_tree names n) ≡ false
variable_defined names variables same n (inl h) =
    by_flag (bytes_eq (name_at names n) (codes "self")) (name_at names n) variables
    (λ other. sym (same (name_at names n) h) ∙ stands_at names n h)
variable_defined names variables same n (inr e) =
    by_flag (bytes_eq (name_at names n) (codes "self")) (name_at names n) variables
    (λ other. absurd (let wrong : true ≡ false = sym (itself (codes "self")) ∙ ap (λ (x : List ℕ). bytes_eq x (codes "self")) (sym e) ∙
    other in cc))

-- ---- sums

module _ (names variables : List (List ℕ)) (same : AreSame names variables) where
  by_one : (b : Bool) (n : ℕ) (x : Variable) → variable_fault variables x ≡ false →
      term_fault variables (if b then Plain x else Product n x) ≡ false
  by_one true n x h = h
  by_one false n x h = h

  term_defined : (t : ℕ × ℤ) → IsTermSaid names t → term_fault variables (term_tree (unsigned_abs t.1) (variable_tree names t.0)) ≡ false
  term_defined t h = by_one (unsigned_abs t.1 == 1) (unsigned_abs t.1) (variable_tree names t.0)
      (variable_defined names variables same t.0 h.0)

  constant_defined : (n : ℤ) → AllIn (λ (t : SignedTerm). term_fault variables t.term ≡ false) (constant_trees n)
  constant_defined (pos zero) = tt
  constant_defined (pos (suc n)) = (refl, tt)
  constant_defined (negsuc n) = (refl, tt)

  sum_defined : (ts : List (ℕ × ℤ)) (n : ℤ) → AllIn (IsTermSaid names) ts → sum_fault variables (sum_tree names ts n) ≡ false
  sum_defined [] n h = refl
  sum_defined (t ∷ ts) n h =
      neither (term_fault variables (term_tree (unsigned_abs t.1) (variable_tree names t.0))) _ (term_defined t h.0)
      (none_any (λ (u : SignedTerm). term_fault variables u.term) (map (signed_tree names) ts ++ constant_trees n)
      (AllIn-append (λ (u : SignedTerm). term_fault variables u.term ≡ false) (map (signed_tree names) ts) (constant_trees n)
      (all_mapped (IsTermSaid names) (λ (u : SignedTerm). term_fault variables u.term ≡ false) (signed_tree names) term_defined ts h.1)
      (constant_defined n)))

  pub lin_defined : (l : Lin) → IsLinSaid names l → sum_fault variables (lin_tree names l) ≡ false
  lin_defined l h = sum_defined l.coeffs l.constant h.terms

  pub sums_defined : (l : Lin) (ls : List Lin) → AllIn (IsLinSaid names) (l ∷ ls) → sums_fault variables (sums_tree names (l ∷ ls)) ≡ false
  sums_defined l ls h =
      neither (sum_fault variables (lin_tree names l)) _ (lin_defined l h.0)
      (none_any (sum_fault variables) (map (lin_tree names) ls)
      (all_mapped (IsLinSaid names) (λ (v : Sum). sum_fault variables v ≡ false) (lin_tree names) lin_defined ls h.1))

  key_defined : (key : List Lin) → IsKeySaid names key → sums_fault variables (sums_tree names key) ≡ false
  key_defined [] h = absurd h
  key_defined (l ∷ ls) h = sums_defined l ls h

  lin_rel_defined : (r : LinRel) → IsLinRelSaid names r → lin_rel_fault variables (lin_rel_tree names r) ≡ false
  lin_rel_defined r h = neither (sum_fault variables (lin_tree names r.lin)) (sum_fault variables zero_tree) (lin_defined r.lin h) refl

  pub guard_defined : (rs : List LinRel) → AllIn (IsLinRelSaid names) rs → guard_fault variables (guard_tree names rs) ≡ false
  guard_defined [] h = refl
  guard_defined (r ∷ rs) h =
      neither (lin_rel_fault variables (lin_rel_tree names r)) _ (lin_rel_defined r h.0)
      (none_any (lin_rel_fault variables) (map (lin_rel_tree names) rs)
      (all_mapped (IsLinRelSaid names) (λ (t : LinRelTree). lin_rel_fault variables t ≡ false) (lin_rel_tree names) lin_rel_defined rs
      h.1))

-- ---- rows

-- what can be named is known: the tables, each of its own name, and the variables
pub record Fits (s : Scope) (v : Known) : Type 0 where
  pub tables : v.tables ≡ map table_tree s.tables
  pub new : AreNew [] (map (λ (t : Table). t.name) s.tables)
  pub same : AreSame s.names v.variables

-- a table that has a name is there
abbrev IsThere : Option Table → Type 0
IsThere o = (t : Table) × (o ≡ Some t)

table_there : (o : Option Table) → IsName (table_name o) → IsThere o
table_there None h = absurd h.0
table_there (Some t) h = (t, refl)

module _ (s : Scope) (v : Known) (fits : Fits s v) where
  columns_are : (n : ℕ) (t : Table) → slice_get s.tables n ≡ Some t → columns_of v.tables (table_name (slice_get s.tables n)) ≡ Some t.cols
  columns_are n t at =
      ap (λ (o : Option Table). columns_of v.tables (table_name o)) at ∙ ap (λ (ts : List TableTree). columns_of ts t.name) fits.tables
      ∙ ap (option_map (λ (u : TableTree). u.columns))
      (found_new (λ (u : Table). u.name) (λ (u : TableTree). u.name) table_tree (λ u. refl) [] s.tables n t fits.new at)

  pub row_defined : (table : ℕ) (key : List Lin) → IsRowSaid s table key → place_fault v (place_tree s table key) ≡ false
  row_defined table key h =
      let there = table_there (slice_get s.tables table) h.table in
      neither (is_none (columns_of v.tables (table_name (slice_get s.tables table)))) (sums_fault v.variables (sums_tree s.names key))
      (ap (λ (o : Option (List (List ℕ))). is_none o) (columns_are table there.0 there.1))
      (key_defined s.names v.variables fits.same key h.key)

  column_defined : (table column : ℕ) (t : Table) → slice_get s.tables table ≡ Some t →
      IsName (column_name (slice_get s.tables table) column) →
      column_fault (columns_of v.tables (table_name (slice_get s.tables table))) (column_name (slice_get s.tables table) column) ≡ false
  column_defined table column t at h =
      let named : IsName (name_at t.cols column) = subst (λ (o : Option Table). IsName (column_name o column)) at h in
      ap (λ (o : Option (List (List ℕ))). column_fault o (column_name (slice_get s.tables table) column)) (columns_are table t at)
      ∙ ap (λ (o : Option Table). not (stands_in (column_name o column) t.cols)) at ∙ ap not (stands_at t.cols column named)

  pub cell_defined : (table : ℕ) (key : List Lin) (column : ℕ) → IsCellSaid s table key column →
      cell_fault v (cell_tree s table key column) ≡ false
  cell_defined table key column h =
      let there = table_there (slice_get s.tables table) h.row.table in
      neither (place_fault v (place_tree s table key)) _ (row_defined table key h.row)
      (column_defined table column there.0 there.1 h.column)
