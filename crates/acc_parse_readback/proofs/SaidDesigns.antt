-- What a text stands for can be said: whatever is read can be printed.
use Rattle.std.proofs.Common.{◌≡◌, ℕ, ◌≤◌, Bool, true, false, List, [], ◌∷◌, ◌++◌, length, map, refl, ap, sym, ◌∙◌, subst, arith}
use Rattle.std.specs.List.{flat_map}
use Rattle.std.proofs.lemmas.Bool.{or_parts}
use Rattle.std.proofs.lemmas.List.{length-map}
use Rattle.acc_grammar.specs.Readers.{AllIn}
use Rattle.acc_base.specs.declared.designs.TxType.{TxType}
use Rattle.acc_base.specs.declared.designs.Design.{Design}
use Rattle.acc_lex.specs.declared.words.Sign.TheVariants as sign
use Rattle.acc_lex.specs.Words.{CanSpell}
use Rattle.acc_lex.proofs.WholeTexts.{can_spell}
use Rattle.acc_parse_syntax.specs.declared.trees.TableTree.{TableTree}
use Rattle.acc_parse_syntax.specs.declared.trees.TypeTree.{TypeTree}
use Rattle.acc_parse_syntax.specs.declared.trees.DesignTree.{DesignTree}
use Rattle.acc_parse.specs.OwnWords.{OwnInTypes}
use Rattle.acc_parse_syntax.specs.Spelling.{type_words}
use Rattle.acc_parse_names.specs.Names.{stands_in, defines_again}
use Rattle.acc_parse_names.specs.Faults.{clause_fault, tables_faults, type_faults, types_faults, entry_fault, hint_fault}
use Rattle.acc_parse_names.specs.Faults.{outside as known_outside, statement_faults}
use Rattle.acc_base.specs.declared.limits.Limit.TheVariants as limit
use Rattle.acc_parse_limits.specs.Marks.{limited}
use Rattle.acc_parse_limits.specs.Statements.{table_marks, clause_statement_marks, type_marks, entry_marks, hint_marks, design_marks}
use Rattle.acc_parse_limits.specs.Faults.{limit_faults}
use Rattle.acc_parse_clauses.specs.Forms.{clause_of}
use Rattle.acc_parse.specs.Types.{type_of}
use Rattle.acc_parse.specs.Designs.{table_of, outside, entry_of, hint_of, design_of}
use Rattle.acc_parse_clauses.specs.Sizes.{clause_statement_sizes}
use Rattle.acc_parse.specs.Sizes.{type_sizes, table_sizes, entry_sizes, hint_sizes, design_sizes, size_faults}
use Rattle.acc_parse.specs.Texts.{IsDesignText}
use Rattle.acc_parse_readback.specs.PrintableTypes.{IsTypeSaid, IsSaid}
use Rattle.acc_parse_readback.proofs.OnlyEnds.{AreEnds, IsEnd}
use Rattle.acc_parse_readback.proofs.Faultless.{IsFalse, neither}
use Rattle.acc_parse_readback.proofs.SaidParts.{none_first, none_placed, all_parts, all_joined, all_flat, all_map, all_weaker, all_by_four}
use Rattle.acc_parse_readback.proofs.SaidParts.{each_counted, at_most_counted}
use Rattle.acc_parse_readback.proofs.SaidNames.{AreHeard, IsHeard, Setting}
use Rattle.acc_parse_readback.proofs.SaidClauses.{clauses_said}
use Rattle.acc_parse_readback.proofs.SaidTypes.{type_said, type_ends, type_locals, type_points}
use Rattle.acc_parse_readback.proofs.SaidOwn.{IsAllHeard, all_heard}
use Rattle.acc_parse_readback.proofs.SaidTables.{tables_right, tables_named, few_columns, tables_said}
use Rattle.acc_parse_readback.proofs.SaidPointNames.{IsFew, IsBounded}
use Rattle.acc_parse_readback.proofs.SaidEntries.{entries_said, hints_said}

-- ---- types, one after another

-- each type is free of faults, and none has the name of an earlier one
abbrev pub IsTypeRight : List TableTree → TypeTree → Type 0
IsTypeRight trees t = (again : Bool) × AllIn IsFalse (type_faults trees again t)

pub record AreTypesRight (trees : List TableTree) (earlier : List (List ℕ)) (ts : List TypeTree) : Type 0 where
  pub each : AllIn (IsTypeRight trees) ts
  pub new : defines_again earlier (map (λ (t : TypeTree). t.name) ts) ≡ false

pub types_right : (trees : List TableTree) (earlier : List (List ℕ)) (ts : List TypeTree) → AllIn IsFalse (types_faults trees earlier ts) →
    AreTypesRight trees earlier ts
types_right trees earlier [] h = record { each = tt; new = refl }
types_right trees earlier (t ∷ ts) h =
    let again = stands_in t.name earlier in
    let parts = all_parts IsFalse (type_faults trees again t) (types_faults trees (earlier ++ t.name ∷ []) ts) h in
    let first = or_parts again (defines_again [] t.params) parts.0.0 in
    let rest = types_right trees (earlier ++ t.name ∷ []) ts parts.1 in
    record {
      each = ((again, parts.0), rest.each);
      new =
          neither again (defines_again (earlier ++ t.name ∷ []) (map (λ (u : TypeTree). u.name) ts)) first.0 rest.new;
    }

types_named : (trees : List TableTree) (ts : List TypeTree) →
    map (λ (t : TxType). t.name) (map (type_of trees) ts) ≡ map (λ (t : TypeTree). t.name) ts
types_named trees [] = refl
types_named trees (t ∷ ts) = ap (λ (xs : List (List ℕ)). t.name ∷ xs) (types_named trees ts)

is_few : (t : TypeTree) → AreEnds (type_marks t) → IsFew t
is_few t marks = let ends = type_ends t marks in record { locals = type_locals t ends; points = type_points t ends }

-- ---- outside types

abbrev pub outside_types : (trees : List TableTree) → length trees ≤ 64 → AllIn (λ (t : TableTree). length t.columns ≤ 12) trees → Setting
outside_types trees few columns = record {
  own = false;
  in_type = false;
  trees = trees;
  locals = [];
  mine = [];
  names = [];
  known = [];
  names_are = refl;
  known_are = refl;
  no_self = λ e. refl;
  no_locals = λ e. refl;
  few_tables = few;
  few_columns = columns;
  few_locals = omega arith;
  few_mine = omega arith;
}

-- ---- the whole

design_said : (d : DesignTree) → IsAllHeard d → AllIn IsFalse (statement_faults d) → AreEnds (design_marks d) → AreEnds (design_sizes d) →
    IsSaid (design_of d)
design_said d heard faults marks sizes =
    let trees = d.tables in
    let f_always = map (clause_fault (known_outside trees)) d.always in
    let f_types = types_faults trees [] d.types in
    let f_entries = map (entry_fault d.types) d.entries in
    let f_hints = map (hint_fault d.types) d.hints in
    let n_tables = all_parts IsFalse (tables_faults [] trees) (f_always ++ (f_types ++ (f_entries ++ f_hints))) faults in
    let n_always = all_parts IsFalse f_always (f_types ++ (f_entries ++ f_hints)) n_tables.1 in
    let n_types = all_parts IsFalse f_types (f_entries ++ f_hints) n_always.1 in
    let n_entries = all_parts IsFalse f_entries f_hints n_types.1 in
    let m_tables = limited limit.Tables 64 table_marks trees in
    let m_always = limited limit.AlwaysClauses 128 clause_statement_marks d.always in
    let m_types = limited limit.Types 64 type_marks d.types in
    let m_entries = limited limit.EntriesAndHints 1024 entry_marks d.entries in
    let m_hints = limited limit.EntriesAndHints 1024 hint_marks d.hints in
    let e_tables = all_parts IsEnd m_tables (m_always ++ (m_types ++ (m_entries ++ m_hints))) marks in
    let e_always = all_parts IsEnd m_always (m_types ++ (m_entries ++ m_hints)) e_tables.1 in
    let e_types = all_parts IsEnd m_types (m_entries ++ m_hints) e_always.1 in
    let e_entries = all_parts IsEnd m_entries m_hints e_types.1 in
    let z_always = flat_map (clause_statement_sizes (outside trees)) d.always in
    let z_types = flat_map (type_sizes trees) d.types in
    let z_entries = flat_map entry_sizes d.entries in
    let z_hints = flat_map (hint_sizes d.types) d.hints in
    let s_tables = all_parts IsEnd (flat_map table_sizes trees) (z_always ++ (z_types ++ (z_entries ++ z_hints))) sizes in
    let s_always = all_parts IsEnd z_always (z_types ++ (z_entries ++ z_hints)) s_tables.1 in
    let s_types = all_parts IsEnd z_types (z_entries ++ z_hints) s_always.1 in
    let s_entries = all_parts IsEnd z_entries z_hints s_types.1 in
    let t_right = tables_right [] trees n_tables.0 in
    let y_right = types_right trees [] d.types n_types.0 in
    let t_ends = each_counted limit.Tables 64 table_marks trees e_tables.0 in
    let y_ends = each_counted limit.Types 64 type_marks d.types e_types.0 in
    let tables_few = at_most_counted limit.Tables 64 table_marks trees e_tables.0 in
    let always_few = at_most_counted limit.AlwaysClauses 128 clause_statement_marks d.always e_always.0 in
    let types_few = at_most_counted limit.Types 64 type_marks d.types e_types.0 in
    let entries_few = at_most_counted limit.EntriesAndHints 1024 entry_marks d.entries e_entries.0 in
    let hints_few = at_most_counted limit.EntriesAndHints 1024 hint_marks d.hints e_entries.1 in
    let columns = all_weaker (λ t. AreEnds (table_marks t)) (λ (t : TableTree). length t.columns ≤ 12) trees few_columns t_ends in
    let bounded : IsBounded d = record {
      tables = tables_few;
      columns = columns;
      types = types_few;
      each =
          all_weaker (λ t. AreEnds (type_marks t)) IsFew d.types is_few y_ends;
    } in
    let a : Setting = outside_types trees tables_few columns in
    let tables_same = length-map trees table_of in
    let always_same = length-map d.always (clause_of (outside trees)) in
    let types_same = length-map d.types (type_of trees) in
    let entries_same = length-map d.entries (entry_of d.types) in
    let hints_same = length-map d.hints (hint_of d.types) in
    record {
      tables = tables_said trees heard.tables t_right.each t_ends;
      few_tables = omega (arith, tables_few, tables_same);
      new_tables = ap (λ (xs : List (List ℕ)). defines_again [] xs) (tables_named trees) ∙ t_right.new;
      few_always = omega (arith, always_few, always_same);
      few_types = omega (arith, types_few, types_same);
      new_types = ap (λ (xs : List (List ℕ)). defines_again [] xs) (types_named trees d.types) ∙ y_right.new;
      few_entries = omega (arith, entries_few, entries_same);
      few_hints = omega (arith, hints_few, hints_same);
      always = clauses_said sign.Always a d.always refl heard.always n_always.0
          (each_counted limit.AlwaysClauses 128 clause_statement_marks d.always e_always.0) s_always.0;
      types = all_map (IsTypeSaid (map table_of trees)) (type_of trees) d.types
          (all_by_four (λ t. AreHeard true (type_words t)) (IsTypeRight trees) (λ t. AreEnds (type_marks t))
          (λ t. AreEnds (type_sizes trees t)) (λ t. IsTypeSaid (map table_of trees) (type_of trees t)) d.types
          (λ t h f m z. type_said trees tables_few columns f.0 t h f.1 m z)
          (all_joined (IsHeard true) type_words d.types heard.types) y_right.each y_ends
          (all_flat IsEnd (type_sizes trees) d.types s_types.0));
      entries = entries_said d bounded heard.entries n_entries.0
          (each_counted limit.EntriesAndHints 1024 entry_marks d.entries e_entries.0);
      hints = hints_said d bounded heard.hints n_entries.1 (each_counted limit.EntriesAndHints 1024 hint_marks d.hints e_entries.1)
          s_entries.1;
    }

-- ---- texts

no_parts : {T : Type 0} (xs ys : List T) → xs ++ ys ≡ [] → (xs ≡ []) × (ys ≡ [])
no_parts [] ys h = (refl, h)
no_parts (x ∷ xs) ys h = absurd cc

no_limits : (d : DesignTree) → limit_faults d ≡ [] → AreEnds (design_marks d)
unfolding limit_faults
no_limits d h = none_placed 0 (design_marks d) h

no_sizes : (d : DesignTree) → size_faults d ≡ [] → AreEnds (design_sizes d)
unfolding size_faults
no_sizes d h = none_placed 0 (design_sizes d) h

-- some text stands for the design of a text: the one that was read
pub parsed_is_said : (text : List ℕ) (d : Design) → IsDesignText text d → IsSaid d
parsed_is_said text d p =
    let t = p.of.tree in
    let spelled = p.of.spelled.spelled in
    let can = subst (AllIn CanSpell) spelled (can_spell text p.of.words p.of.lexed) in
    let own = subst OwnInTypes spelled p.of.spelled.own in
    let limits = no_parts (limit_faults t) (size_faults t) p.allowed.limits in
    subst IsSaid (sym p.means) (design_said t (all_heard t can own) (none_first (statement_faults t) p.allowed.names) (no_limits t limits.0)
    (no_sizes t limits.1))
