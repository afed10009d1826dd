-- A printed text is at most sixteen times as long as the text that was read.
use Rattle.std.proofs.Common.{◌≡◌, ℕ, ◌+◌, ◌*◌, ◌≤◌, Bool, true, false, List, [], ◌∷◌, ◌++◌, length, map, refl, ap, subst, arith}
use Rattle.std.proofs.Common.{length-append}
use Rattle.std.specs.Prelude.{if◌then◌else◌, codes}
use Rattle.std.specs.Fmt.{decimal}
use Rattle.std.specs.List.{flat_map}
use Rattle.std.proofs.lemmas.List.{length-map}
use Rattle.acc_grammar.specs.Readers.{AllIn, joined}
use Rattle.acc_base.specs.declared.designs.Design.{Design}
use Rattle.acc_lex.specs.declared.words.Sign.TheVariants as sign
use Rattle.acc_lex.specs.Words.{CanSpell}
use Rattle.acc_lex.proofs.WholeTexts.{can_spell}
use Rattle.acc_parse_syntax.specs.declared.trees.TableTree.{TableTree}
use Rattle.acc_parse_syntax.specs.declared.trees.PointTree.{PointTree}
use Rattle.acc_parse_syntax.specs.declared.trees.TypeTree.{TypeTree}
use Rattle.acc_parse_syntax.specs.declared.trees.DesignTree.{DesignTree}
use Rattle.acc_parse.specs.OwnWords.{OwnInTypes}
use Rattle.acc_parse_syntax.specs.Spelling.{just, name, number, clause_statement, table, type_words, entry, hint, spelled_design}
use Rattle.acc_parse_names.specs.Scopes.{points_in}
use Rattle.acc_parse_names.specs.Faults.{clause_fault, tables_faults, types_faults, entry_fault, hint_fault, outside as known_outside}
use Rattle.acc_parse_names.specs.Faults.{statement_faults}
use Rattle.acc_parse_clauses.specs.Scopes.{fitted}
use Rattle.acc_parse_clauses.specs.Forms.{clause_of}
use Rattle.acc_parse.specs.Types.{type_scope, point_of, type_of}
use Rattle.acc_parse.specs.Designs.{table_of, outside, entry_of, hint_of, design_of}
use Rattle.acc_parse.specs.Texts.{IsDesignText}
use Rattle.acc_print.specs.Lists.{spaced}
use Rattle.acc_print.specs.Names.{outside as shown_outside}
use Rattle.acc_print.specs.Clauses.{clause_line}
use Rattle.acc_print.specs.Types.{type_lines}
use Rattle.acc_print.specs.Designs.{table_line, entry_line, hint_line, printed}
use Rattle.acc_parse_readback.specs.PrintableTypes.{IsTableSaid, IsTypeSaid, IsSaid}
use Rattle.acc_parse_readback.proofs.Faultless.{IsFalse}
use Rattle.acc_parse_readback.proofs.SaidParts.{none_first, all_parts, all_mapped, all_by_two, all_weaker}
use Rattle.acc_parse_readback.proofs.SaidNames.{Setting}
use Rattle.acc_parse_readback.proofs.SaidOwn.{IsAllHeard, all_heard}
use Rattle.acc_parse_readback.proofs.SaidPointNames.{IsFew, IsBounded}
use Rattle.acc_parse_readback.proofs.SaidDesigns.{parsed_is_said, IsTypeRight, types_right, outside_types}
use Rattle.acc_parse_readback.proofs.ShortNumbers.{decimal_short}
use Rattle.acc_parse_readback.proofs.Weights.{weight, weight-append}
use Rattle.acc_parse_readback.proofs.WrittenSizes.{text_long}
use Rattle.acc_parse_readback.proofs.ShortLists.{joined_short}
use Rattle.acc_parse_readback.proofs.ShortClauses.{spaced_short, clauses_short}
use Rattle.acc_parse_readback.proofs.ShortReads.{line_long}
use Rattle.acc_parse_readback.proofs.ShortSteps.{fitted_size}
use Rattle.acc_parse_readback.proofs.ShortTypes.{type_short}
use Rattle.acc_parse_readback.proofs.ShortEntries.{entries_short, hints_short}

-- ---- tables

word_short : (private : Bool) → length (if private then codes "private " else codes "table ") ≤ 1 + weight
    (if private then just sign.Private else just sign.Table)
word_short true = omega arith
word_short false = omega arith

table_short : (t : TableTree) → length (table_line (table_of t)) ≤ 8 * weight (table t)
table_short t =
    let word = if t.private then codes "private " else codes "table " in
    let columns = flat_map spaced t.columns in
    let width = spaced (decimal (fitted t.width)) in
    let signed = if t.private then just sign.Private else just sign.Table in
    omega (
      arith,
      word_short t.private,
      spaced_short t.columns,
      decimal_short (fitted t.width),
      fitted_size t.width,
      line_long (word ++ (t.name ++ (width ++ columns))),
      length-append word (t.name ++ (width ++ columns)),
      length-append t.name (width ++ columns),
      length-append width columns,
      weight-append signed (name t.name ++ (number t.width ++ (joined name t.columns ++ just sign.End))),
      weight-append (joined name t.columns) (just sign.End),
    )

tables_short : (ts : List TableTree) → length (flat_map table_line (map table_of ts)) ≤ 8 * weight (joined table ts)
tables_short [] = omega arith
tables_short (t ∷ ts) = omega (
  arith,
  table_short t,
  tables_short ts,
  length-append (table_line (table_of t)) (flat_map table_line (map table_of ts)),
  weight-append (table t) (joined table ts),
)

-- ---- what a design that can be said is bounded by

is_few : (trees : List TableTree) (t : TypeTree) → IsTypeSaid (map table_of trees) (type_of trees t) → IsFew t
is_few trees t said =
    let points = said.few_points in
    let same = length-map (points_in t) (point_of (type_scope trees t) (map (λ (p : PointTree). p.name) (points_in t))) in
    record { locals = said.few_locals; points = omega (arith, points, same) }

is_bounded : (d : DesignTree) → IsSaid (design_of d) → IsBounded d
is_bounded d said =
    let tables = said.few_tables in
    let types = said.few_types in
    record {
      tables = omega (arith, tables, length-map d.tables table_of);
      columns = all_weaker (λ t. IsTableSaid (table_of t)) (λ (t : TableTree). length t.columns ≤ 12) d.tables (λ t s. s.few_columns)
          (all_mapped IsTableSaid table_of d.tables said.tables);
      types = omega (arith, types, length-map d.types (type_of d.tables));
      each = all_weaker (λ t. IsTypeSaid (map table_of d.tables) (type_of d.tables t)) IsFew d.types (is_few d.tables)
          (all_mapped (IsTypeSaid (map table_of d.tables)) (type_of d.tables) d.types said.types);
    }

-- ---- the whole

design_short : (d : DesignTree) → IsAllHeard d → AllIn IsFalse (statement_faults d) → IsSaid (design_of d) →
    length (printed (design_of d)) ≤ 8 * weight (spelled_design d)
design_short d heard faults said =
    let trees = d.tables in
    let bounded = is_bounded d said in
    let a : Setting = outside_types trees bounded.tables bounded.columns in
    let f_always = map (clause_fault (known_outside trees)) d.always in
    let f_types = types_faults trees [] d.types in
    let f_entries = map (entry_fault d.types) d.entries in
    let f_hints = map (hint_fault d.types) d.hints in
    let n_tables = all_parts IsFalse (tables_faults [] trees) (f_always ++ (f_types ++ (f_entries ++ f_hints))) faults in
    let n_always = all_parts IsFalse f_always (f_types ++ (f_entries ++ f_hints)) n_tables.1 in
    let n_types = all_parts IsFalse f_types (f_entries ++ f_hints) n_always.1 in
    let n_entries = all_parts IsFalse f_entries f_hints n_types.1 in
    let tables = flat_map table_line (map table_of trees) in
    let always = flat_map (clause_line (shown_outside (map table_of trees)) (codes "always ")) (map (clause_of (outside trees)) d.always) in
    let types = flat_map (type_lines (map table_of trees)) (map (type_of trees) d.types) in
    let entries = flat_map (entry_line (design_of d)) (map (entry_of d.types) d.entries) in
    let hints = flat_map (hint_line (design_of d)) (map (hint_of d.types) d.hints) in
    let w_always = joined (clause_statement sign.Always) d.always in
    let w_types = joined type_words d.types in
    let w_entries = joined entry d.entries in
    let w_hints = joined hint d.hints in
    let each_type = joined_short true (type_lines (map table_of trees)) (type_of trees) type_words (λ t. IsTypeRight trees t ×
    IsTypeSaid (map table_of trees) (type_of trees t)) (λ t h q. type_short trees bounded.tables bounded.columns q.0.0 t h q.0.1 q.1)
    d.types heard.types
    (all_by_two (IsTypeRight trees) (λ t. IsTypeSaid (map table_of trees) (type_of trees t)) _ d.types (λ t p q. (p, q))
    (types_right trees [] d.types n_types.0).each (all_mapped (IsTypeSaid (map table_of trees)) (type_of trees) d.types said.types)) in
    let each_clause : length always ≤ 8 * weight w_always =
    clauses_short a refl sign.Always (codes "always ") (omega arith) d.always heard.always n_always.0 said.always in
    let whole : length (printed (design_of d)) ≡ length tables + length (always ++ (types ++ (entries ++ hints))) =
    length-append tables (always ++ (types ++ (entries ++ hints))) in
    omega (
      arith,
      whole,
      tables_short trees,
      each_clause,
      each_type,
      entries_short d bounded heard.entries n_entries.0,
      hints_short d bounded heard.hints n_entries.1,
      length-append always (types ++ (entries ++ hints)),
      length-append types (entries ++ hints),
      length-append entries hints,
      weight-append (joined table trees) (w_always ++ (w_types ++ (w_entries ++ w_hints))),
      weight-append w_always (w_types ++ (w_entries ++ w_hints)),
      weight-append w_types (w_entries ++ w_hints),
      weight-append w_entries w_hints,
    )

-- what is printed of a text that was read is at most sixteen times as long
pub printed_is_short : (text : List ℕ) (d : Design) → IsDesignText text d → length (printed d) ≤ 16 * length text
printed_is_short text d p =
    let t = p.of.tree in
    let spelled = p.of.spelled.spelled in
    let can = subst (AllIn CanSpell) spelled (can_spell text p.of.words p.of.lexed) in
    let own = subst OwnInTypes spelled p.of.spelled.own in
    let said = subst IsSaid p.means (parsed_is_said text d p) in
    omega (
      arith,
      ap (λ (e : Design). length (printed e)) p.means,
      design_short t (all_heard t can own) (none_first (statement_faults t) p.allowed.names) said,
      ap weight spelled,
      text_long text p.of.words p.of.lexed,
    )
