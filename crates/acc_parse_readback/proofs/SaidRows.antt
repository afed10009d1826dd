-- The rows and the guards of a tree that is a design's can be spelled.
use Rattle.std.proofs.Common.{◌≡◌, ℕ, ◌≤◌, ◌^◌, Bool, false, List, [], ◌∷◌, ◌++◌, length, map, Option, Some, None, ap, sym, ◌∙◌, subst}
use Rattle.std.proofs.Common.{arith}
use Rattle.std.specs.Prelude.{not, nat_lt, is_none, option_map, unwrap_or, slice_get}
use Rattle.std.specs.List.{flat_map, list_any, find}
use Rattle.std.specs.Str.{bytes_eq}
use Rattle.std.proofs.lemmas.Bool.{or_parts}
use Rattle.std.proofs.lemmas.Bool.Decides.{nat_tests}
use Rattle.std.proofs.lemmas.List.{length-map}
use Rattle.std.proofs.lemmas.Option.{slice_get-map}
use Rattle.acc_grammar.specs.Readers.{AllIn, joined}
use Rattle.acc_base.specs.declared.tables.Table.{Table}
use Rattle.acc_lex.specs.declared.words.Word.{Word}
use Rattle.acc_lex.specs.declared.words.Sign.TheVariants as sign
use Rattle.acc_parse_syntax.specs.declared.trees.Sums.{Sums}
use Rattle.acc_parse_syntax.specs.declared.trees.Place.{Place}
use Rattle.acc_parse_syntax.specs.declared.trees.Cell.{Cell}
use Rattle.acc_parse_syntax.specs.declared.trees.TableTree.{TableTree}
use Rattle.acc_parse_syntax.specs.declared.trees.LinRelTree.{LinRelTree}
use Rattle.acc_parse_syntax.specs.declared.trees.LinRels.{LinRels}
use Rattle.acc_parse_syntax.specs.Spelling.{just, name, further, sum, sums, place, cell, relation_sign, lin_rel, guard}
use Rattle.acc_parse_names.specs.Scopes.{columns_of, Scope as KnownScope}
use Rattle.acc_parse_names.specs.Faults.{sum_fault, sums_fault, place_fault, column_fault, cell_fault, lin_rel_fault, guard_fault}
use Rattle.acc_parse_names.specs.Names.{stands_in}
use Rattle.acc_base.specs.declared.limits.Limit.TheVariants as limit
use Rattle.acc_parse_limits.specs.Marks.{past}
use Rattle.acc_parse_limits.specs.Words.{name_marks, sum_marks, sums_marks, place_marks, cell_marks, lin_rel_marks, guard_marks}
use Rattle.acc_parse_clauses.specs.Scopes.{Scope as MeantScope, table_names, table_in, column_in, number_of}
use Rattle.acc_parse_clauses.specs.Values.{parts_of, compared, lin_of, lins_of, all_sums, lin_rel_of, guard_of}
use Rattle.acc_parse_clauses.specs.Rows.{key_in}
use Rattle.acc_parse.specs.Designs.{table_of}
use Rattle.acc_parse_clauses.specs.Sizes.{sum_sizes, sums_sizes, place_sizes, lin_rel_sizes, guard_sizes}
use Rattle.acc_print.specs.Names.{Scope, name_at, table_name, column_name}
use Rattle.acc_parse_readback.specs.Printable.{IsName, IsVariable, IsLinSaid, IsRowSaid, IsCellSaid, IsLinRelSaid}
use Rattle.acc_parse_readback.proofs.OnlyEnds.{AreEnds, IsEnd}
use Rattle.acc_parse_readback.proofs.SaidParts.{not_past, all_parts, all_joined, all_flat, all_map, all_by_four, none_false, all_weaker}
use Rattle.acc_parse_readback.proofs.SaidPlaces.{named_there, found_numbered, found_has, found_all, some_found}
use Rattle.acc_parse_readback.proofs.SaidNames.{AreHeard, IsHeard, Setting, variables_of, variable_said, is_name, stands_true}
use Rattle.acc_parse_readback.proofs.SaidValues.{parts_have, compared_have, lin_by_said, lin_said}

-- ---- the scopes of a setting: what is meant, what is known, what is printed

abbrev pub meant : Setting → MeantScope
meant a = record { tables = a.trees; variables = variables_of a }

abbrev pub known : Setting → KnownScope
known a = record { tables = a.trees; variables = a.known }

abbrev pub shown : Setting → Scope
shown a = record { tables = map table_of a.trees; names = a.names }

-- ---- keys

-- further parts of a list are each spelled behind a comma
pub furthers : {T : Type 0} (own : Bool) (spell : T → List Word) (ts : List T) → AreHeard own (joined (further spell) ts) →
    AllIn (λ t. AreHeard own (spell t)) ts
furthers own spell ts h = all_weaker (λ t. AreHeard own (further spell t)) (λ t. AreHeard own (spell t)) ts (λ t p. p.1)
    (all_joined (IsHeard own) (further spell) ts h)

pub sums_said : (a : Setting) (ss : Sums) → AreHeard a.own (sums ss) → sums_fault a.known ss ≡ false → AreEnds (sums_marks ss) →
    AreEnds (sums_sizes (variables_of a) ss) → AllIn (IsLinSaid a.names) (lins_of (variables_of a) ss)
sums_said a ss heard names marks sizes =
    let v = variables_of a in
    let words = all_parts (IsHeard a.own) (sum ss.first) (joined (further sum) ss.others) heard in
    let faults = or_parts (sum_fault a.known ss.first) (list_any (sum_fault a.known) ss.others) names in
    let ends = all_parts IsEnd (sum_marks ss.first) (flat_map sum_marks ss.others) marks in
    let small = all_flat IsEnd (sum_sizes v) (all_sums ss) sizes in (
      lin_said a ss.first words.0 faults.0 ends.0 small.0,
      all_map (IsLinSaid a.names) (lin_of v) ss.others
          (all_by_four (λ s. AreHeard a.own (sum s)) (λ s. sum_fault a.known s ≡ false) (λ s. AreEnds (sum_marks s))
          (λ s. AreEnds (sum_sizes v s)) (λ s. IsLinSaid a.names (lin_of v s)) ss.others (lin_said a)
          (furthers a.own sum ss.others words.1) (none_false (sum_fault a.known) ss.others faults.1)
          (all_flat IsEnd sum_marks ss.others ends.1) small.1),
    )

-- ---- rows

-- the table of a row, and its number
pub record IsTableFound (a : Setting) (x : List ℕ) : Type 0 where
  pub table : TableTree
  pub is : find (λ (t : TableTree). bytes_eq x t.name) a.trees ≡ Some table
  pub named : table.name ≡ x
  pub numbered : slice_get (map table_of a.trees) (number_of x (table_names a.trees)) ≡ Some (table_of table)
  pub few_columns : length table.columns ≤ 12

table_found : (a : Setting) (x : List ℕ) → is_none (columns_of a.trees x) ≡ false → IsTableFound a x
table_found a x h =
    let found = some_found (λ (t : TableTree). t.columns) (find (λ (t : TableTree). bytes_eq x t.name) a.trees) h in
    let few : length a.trees ≤ 2 ^ 32 = let some = a.few_tables in omega (arith, some) in
    record {
      table = found.0;
      is = found.1;
      named = found_has (λ (t : TableTree). t.name) x a.trees found.0 found.1;
      numbered = slice_get-map table_of a.trees (number_of x (table_names a.trees)) ∙ ap (option_map table_of)
          (found_numbered (λ (t : TableTree). t.name) x a.trees found.0 found.1 few);
      few_columns = found_all (λ (t : TableTree). length t.columns ≤ 12) (λ (t : TableTree). bytes_eq x t.name) a.trees found.0 found.1
          a.few_columns;
    }

-- at its number stands the table of the name
table_again : (a : Setting) (x : List ℕ) → IsTableFound a x →
    table_name (slice_get (map table_of a.trees) (number_of x (table_names a.trees))) ≡ x
table_again a x f = ap table_name f.numbered ∙ f.named

pub place_said : (a : Setting) (p : Place) → AreHeard a.own (place p) → place_fault (known a) p ≡ false → AreEnds (place_marks p) →
    AreEnds (place_sizes (meant a) p) → IsRowSaid (shown a) (table_in (meant a) p) (key_in (meant a) p)
place_said a p heard names marks sizes =
    let words = all_parts (IsHeard a.own) (name p.table) (just sign.Open ++ (sums p.key ++ just sign.Close)) heard in
    let inner = all_parts (IsHeard a.own) (sums p.key) (just sign.Close) words.1.1 in
    let faults = or_parts (is_none (columns_of a.trees p.table)) (sums_fault a.known p.key) names in
    let ends = all_parts IsEnd (name_marks p.table) (sums_marks p.key) marks in
    record {
      table = subst IsName (sym (table_again a p.table (table_found a p.table faults.0))) (is_name a.own p.table words.0 ends.0);
      key = sums_said a p.key inner.0 faults.1 ends.1 sizes;
    }

stands_column : (o : Option (List (List ℕ))) (columns : List (List ℕ)) (x : List ℕ) → o ≡ Some columns → column_fault o x ≡ false →
    not (stands_in x columns) ≡ false
stands_column o columns x e h = sym (ap (λ (q : Option (List (List ℕ))). column_fault q x) e) ∙ h

column_again : (a : Setting) (c : Cell) → IsTableFound a c.place.table → column_fault (columns_of a.trees c.place.table) c.column ≡ false →
    column_name (slice_get (map table_of a.trees) (table_in (meant a) c.place)) (column_in (meant a) c) ≡ c.column
column_again a c f h =
    let columns = ap (option_map (λ (t : TableTree). t.columns)) f.is in
    let stands = stands_true c.column f.table.columns
    (stands_column (columns_of a.trees c.place.table) f.table.columns c.column columns h) in
    let few : length f.table.columns ≤ 2 ^ 32 = let some = f.few_columns in omega (arith, some) in
    ap (λ (o : Option Table). column_name o (column_in (meant a) c)) f.numbered
    ∙ (ap (λ (o : Option (List (List ℕ))). name_at f.table.columns (number_of c.column (unwrap_or o []))) columns
    ∙ ap (λ (o : Option (List ℕ)). unwrap_or o []) (named_there c.column f.table.columns stands few))

pub cell_said : (a : Setting) (c : Cell) → AreHeard a.own (cell c) → cell_fault (known a) c ≡ false → AreEnds (cell_marks c) →
    AreEnds (place_sizes (meant a) c.place) → IsCellSaid (shown a) (table_in (meant a) c.place) (key_in (meant a) c.place)
    (column_in (meant a) c)
cell_said a c heard names marks sizes =
    let words = all_parts (IsHeard a.own) (place c.place) (just sign.Dot ++ name c.column) heard in
    let faults = or_parts (place_fault (known a) c.place) (column_fault (columns_of a.trees c.place.table) c.column) names in
    let found = table_found a c.place.table (or_parts (is_none (columns_of a.trees c.place.table)) (sums_fault a.known c.place.key)
    faults.0).0 in
    let ends = all_parts IsEnd (place_marks c.place) (name_marks c.column) marks in
    record {
      row = place_said a c.place words.0 faults.0 ends.0 sizes;
      column = subst IsName (sym (column_again a c found faults.1)) (is_name a.own c.column words.1.1 ends.1);
    }

-- ---- relations

pub lin_rel_said : (a : Setting) (r : LinRelTree) → AreHeard a.own (lin_rel r) → lin_rel_fault a.known r ≡ false →
    AreEnds (lin_rel_marks r) → AreEnds (lin_rel_sizes (variables_of a) r) → IsLinRelSaid a.names (lin_rel_of (variables_of a) r)
lin_rel_said a r heard names marks sizes =
    let v = variables_of a in
    let P : ℕ → Type 0 = λ k. IsVariable (name_at a.names k) in
    let words = all_parts (IsHeard a.own) (sum r.left) (just (relation_sign r.relation) ++ sum r.right) heard in
    let faults = or_parts (sum_fault a.known r.left) (sum_fault a.known r.right) names in
    let ends = all_parts IsEnd (sum_marks r.left) (sum_marks r.right) marks in
    lin_by_said a.names (compared r.relation (parts_of v r.left) (parts_of v r.right))
    (compared_have P r.relation (parts_of v r.left) (parts_of v r.right)
    (parts_have a IsVariable (variable_said a) r.left words.0 faults.0 ends.0)
    (parts_have a IsVariable (variable_said a) r.right words.1.1 faults.1 ends.1))
    sizes

-- a guard has at most 16 relations
pub record IsGuardSaid (a : Setting) (g : Option LinRels) : Type 0 where
  pub few : length (guard_of (variables_of a) g) ≤ 16
  pub each : AllIn (IsLinRelSaid a.names) (guard_of (variables_of a) g)

pub guard_said : (a : Setting) (g : Option LinRels) → AreHeard a.own (guard g) → guard_fault a.known g ≡ false → AreEnds (guard_marks g) →
    AreEnds (guard_sizes (variables_of a) g) → IsGuardSaid a g
guard_said a None heard names marks sizes = record { few = omega arith; each = tt }
guard_said a (Some rs) heard names marks sizes =
    let v = variables_of a in
    let words = all_parts (IsHeard a.own) (lin_rel rs.first) (joined (further lin_rel) rs.others) heard in
    let faults = or_parts (lin_rel_fault a.known rs.first) (list_any (lin_rel_fault a.known) rs.others) names in
    let ends = all_parts IsEnd (past limit.GuardRelations (nat_lt 15 (length rs.others)))
    (lin_rel_marks rs.first ++ flat_map lin_rel_marks rs.others) marks in
    let each_end = all_parts IsEnd (lin_rel_marks rs.first) (flat_map lin_rel_marks rs.others) ends.1 in
    let small = all_flat IsEnd (lin_rel_sizes v) (rs.first ∷ rs.others) sizes in
    let short : nat_lt 15 (length rs.others) ≡ false = not_past limit.GuardRelations (nat_lt 15 (length rs.others)) ends.0 in
    let fewer : length rs.others ≤ 15 = grind (arith, nat_tests) in
    let same = length-map rs.others (lin_rel_of v) in
    record {
      few = omega (arith, fewer, same);
      each = (
        lin_rel_said a rs.first words.0 faults.0 each_end.0 small.0,
        all_map (IsLinRelSaid a.names) (lin_rel_of v) rs.others
            (all_by_four (λ r. AreHeard a.own (lin_rel r)) (λ r. lin_rel_fault a.known r ≡ false) (λ r. AreEnds (lin_rel_marks r))
            (λ r. AreEnds (lin_rel_sizes v r)) (λ r. IsLinRelSaid a.names (lin_rel_of v r)) rs.others (lin_rel_said a)
            (furthers a.own lin_rel rs.others words.1) (none_false (lin_rel_fault a.known) rs.others faults.1)
            (all_flat IsEnd lin_rel_marks rs.others each_end.1) small.1),
      );
    }
