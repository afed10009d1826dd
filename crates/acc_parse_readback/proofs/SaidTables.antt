-- The tables of a tree that is a design's can be spelled.
use Rattle.std.proofs.Common.{◌≡◌, ℕ, ◌≤◌, ◌<◌, ◌^◌, false, List, [], ◌∷◌, ◌++◌, length, map, refl, ap, arith}
use Rattle.std.specs.Prelude.{◌||◌, nat_lt, if◌then◌else◌}
use Rattle.std.specs.List.{flat_map}
use Rattle.std.proofs.lemmas.Bool.{or_parts}
use Rattle.std.proofs.lemmas.Bool.Decides.{nat_tests}
use Rattle.acc_grammar.specs.Readers.{AllIn, joined}
use Rattle.acc_base.specs.declared.tables.Table.{Table}
use Rattle.acc_lex.specs.declared.words.Sign.TheVariants as sign
use Rattle.acc_parse_syntax.specs.declared.trees.TableTree.{TableTree}
use Rattle.acc_parse_syntax.specs.Spelling.{just, name, number, table}
use Rattle.acc_parse_names.specs.Names.{stands_in, defines_again}
use Rattle.acc_parse_names.specs.Faults.{tables_faults}
use Rattle.acc_base.specs.declared.limits.Limit.TheVariants as limit
use Rattle.acc_parse_limits.specs.Marks.{past, ending}
use Rattle.acc_parse_limits.specs.Words.{name_marks, number_marks}
use Rattle.acc_parse_limits.specs.Statements.{table_marks}
use Rattle.acc_parse.specs.Designs.{table_of}
use Rattle.acc_parse_readback.specs.PrintableTypes.{IsTableSaid}
use Rattle.acc_parse_readback.proofs.OnlyEnds.{AreEnds, IsEnd}
use Rattle.acc_parse_readback.proofs.Faultless.{IsFalse, neither}
use Rattle.acc_parse_readback.proofs.SaidParts.{not_past, all_parts, all_joined, all_flat, all_map, all_by_three}
use Rattle.acc_parse_readback.proofs.SaidPlaces.{fitted_same}
use Rattle.acc_parse_readback.proofs.SaidNames.{AreHeard, IsHeard, is_name, are_names}

-- ---- tables, one after another

-- no column of a table is defined a second time, and no table
pub record AreTablesRight (earlier : List (List ℕ)) (ts : List TableTree) : Type 0 where
  pub each : AllIn (λ (t : TableTree). defines_again [] t.columns ≡ false) ts
  pub new : defines_again earlier (map (λ (t : TableTree). t.name) ts) ≡ false

pub tables_right : (earlier : List (List ℕ)) (ts : List TableTree) → AllIn IsFalse (tables_faults earlier ts) → AreTablesRight earlier ts
tables_right earlier [] h = record { each = tt; new = refl }
tables_right earlier (t ∷ ts) h =
    let parts = or_parts (stands_in t.name earlier) (defines_again [] t.columns) h.0 in
    let rest = tables_right (earlier ++ t.name ∷ []) ts h.1 in
    record {
      each = (parts.1, rest.each);
      new = neither (stands_in t.name earlier)
          (defines_again (earlier ++ t.name ∷ []) (map (λ (u : TableTree). u.name) ts)) parts.0 rest.new;
    }

-- the tables that are meant have the names
pub tables_named : (ts : List TableTree) → map (λ (t : Table). t.name) (map table_of ts) ≡ map (λ (t : TableTree). t.name) ts
tables_named [] = refl
tables_named (t ∷ ts) = ap (λ (xs : List (List ℕ)). t.name ∷ xs) (tables_named ts)

-- ---- a table

columns_few : (t : TableTree) → AreEnds (past limit.Columns (nat_lt 12 (length t.columns))) → length t.columns ≤ 12
columns_few t h = let short : nat_lt 12 (length t.columns) ≡ false = not_past limit.Columns (nat_lt 12 (length t.columns)) h in
    grind (arith, nat_tests)

behind_width : (t : TableTree) → AreEnds (table_marks t) → AreEnds (past limit.KeyWidth (nat_lt t.width 1 || nat_lt 6 t.width)) ×
    AreEnds (past limit.Columns (nat_lt 12 (length t.columns)) ++
    (name_marks t.name ++ (number_marks t.width ++ (flat_map name_marks t.columns ++ ending))))
behind_width t marks =
    all_parts IsEnd (past limit.KeyWidth (nat_lt t.width 1 || nat_lt 6 t.width))
    (past limit.Columns (nat_lt 12 (length t.columns)) ++
    (name_marks t.name ++ (number_marks t.width ++ (flat_map name_marks t.columns ++ ending)))) marks

-- a table has at most 12 columns
pub few_columns : (t : TableTree) → AreEnds (table_marks t) → length t.columns ≤ 12
few_columns t marks = columns_few t (all_parts IsEnd (past limit.Columns (nat_lt 12 (length t.columns)))
    (name_marks t.name ++ (number_marks t.width ++ (flat_map name_marks t.columns ++ ending))) (behind_width t marks).1).0

-- keys of 1 to 6 components
width_said : (n : ℕ) → AreEnds (past limit.KeyWidth (nat_lt n 1 || nat_lt 6 n)) → (1 ≤ n) × (n ≤ 6)
width_said n h =
    let parts = or_parts (nat_lt n 1) (nat_lt 6 n) (not_past limit.KeyWidth (nat_lt n 1 || nat_lt 6 n) h) in
    let low : nat_lt n 1 ≡ false = parts.0 in
    let high : nat_lt 6 n ≡ false = parts.1 in
    (grind (arith, nat_tests), grind (arith, nat_tests))

table_said : (t : TableTree) → AreHeard false (table t) → defines_again [] t.columns ≡ false → AreEnds (table_marks t) →
    IsTableSaid (table_of t)
table_said t heard new marks =
    let H = IsHeard false in
    let first = all_parts H (if t.private then just sign.Private else just sign.Table)
    (name t.name ++ (number t.width ++ (joined name t.columns ++ just sign.End))) heard in
    let named = all_parts H (name t.name) (number t.width ++ (joined name t.columns ++ just sign.End)) first.1 in
    let words = all_parts H (joined name t.columns) (just sign.End) named.1.1 in
    let wide = behind_width t marks in
    let behind = all_parts IsEnd (past limit.Columns (nat_lt 12 (length t.columns)))
    (name_marks t.name ++ (number_marks t.width ++ (flat_map name_marks t.columns ++ ending))) wide.1 in
    let e_name = all_parts IsEnd (name_marks t.name) (number_marks t.width ++ (flat_map name_marks t.columns ++ ending)) behind.1 in
    let e_width = all_parts IsEnd (number_marks t.width) (flat_map name_marks t.columns ++ ending) e_name.1 in
    let e_columns = all_parts IsEnd (flat_map name_marks t.columns) ending e_width.1 in
    let width = width_said t.width wide.0 in
    let narrow = width.1 in
    let some = width.0 in
    let small : t.width < 2 ^ 32 = omega (arith, narrow) in
    let same = fitted_same t.width small in
    record {
      name = is_name false t.name named.0 e_name.0;
      some_width = omega (arith, same, some);
      width = omega (arith, same, narrow);
      columns = are_names false t.columns (all_joined H name t.columns words.0) (all_flat IsEnd name_marks t.columns e_columns.0);
      few_columns = few_columns t marks;
      new_columns = new;
    }

pub tables_said : (ts : List TableTree) → AreHeard false (joined table ts) →
    AllIn (λ (t : TableTree). defines_again [] t.columns ≡ false) ts → AllIn (λ t. AreEnds (table_marks t)) ts →
    AllIn IsTableSaid (map table_of ts)
tables_said ts heard new marks =
    all_map IsTableSaid table_of ts
    (all_by_three (λ t. AreHeard false (table t)) (λ (t : TableTree). defines_again [] t.columns ≡ false) (λ t. AreEnds (table_marks t))
    (λ t. IsTableSaid (table_of t)) ts table_said (all_joined (IsHeard false) table ts heard) new marks)
