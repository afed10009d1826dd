-- A printed design passes no limit.
use Rattle.std.proofs.Common.{◌≡◌, ℕ, ◌^◌, ◌≤◌, inl, false, ◌||◌, List, [], ◌∷◌, length, arith, nat_lt}
use Rattle.std.specs.Prelude.{map, slice_get}
use Rattle.std.specs.List.{flat_map}
use Rattle.std.proofs.lemmas.Bool.Decides.{nat_tests}
use Rattle.acc_grammar.specs.Readers.{AllIn}
use Rattle.acc_base.specs.Lines.{type_name, point_name}
use Rattle.acc_base.specs.Effects.{point_of}
use Rattle.acc_base.specs.declared.tables.Table.{Table}
use Rattle.acc_base.specs.declared.designs.At.{At}
use Rattle.acc_base.specs.declared.designs.Entry.{Entry}
use Rattle.acc_base.specs.declared.designs.Hint.{Hint}
use Rattle.acc_base.specs.declared.designs.Design.{Design}
use Rattle.acc_parse_syntax.specs.declared.trees.TableTree.{TableTree}
use Rattle.acc_parse_syntax.specs.declared.trees.TypeTree.{TypeTree}
use Rattle.acc_parse_syntax.specs.declared.trees.PairTree.{PairTree}
use Rattle.acc_parse_syntax.specs.declared.trees.EntryTree.{EntryTree}
use Rattle.acc_parse_syntax.specs.declared.trees.HintTree.{HintTree}
use Rattle.acc_base.specs.declared.limits.Limit.TheVariants as limit
use Rattle.acc_parse_limits.specs.Marks.{ending, limited}
use Rattle.acc_parse_limits.specs.Words.{name_marks, number_marks, variable_marks, sum_marks, point_name_marks, pair_marks, pairs_marks}
use Rattle.acc_parse_limits.specs.Statements.{table_marks, clause_statement_marks, type_marks, entry_marks, hint_marks, design_marks}
use Rattle.acc_parse_limits.specs.Faults.{limit_faults}
use Rattle.acc_print.specs.Names.{name_at, outside}
use Rattle.acc_print.specs.Designs.{scope_at}
use Rattle.acc_parse_readback.specs.Trees.{variable_tree, lin_tree, clause_tree}
use Rattle.acc_parse_readback.specs.TypeTrees.{table_tree, point_name_tree, pair_tree, pairs_tree, entry_tree, hint_tree, type_tree, tree_of}
use Rattle.acc_parse_readback.specs.PrintableTypes.{IsTableSaid, IsAtSaid, IsPairSaid, IsEntrySaid, IsHintSaid, IsTypeSaid, IsSaid}
use Rattle.acc_parse_readback.proofs.Faultless.{neither}
use Rattle.acc_parse_readback.proofs.OnlyEnds.{AreEnds, ends_behind, no_faults, one_end}
use Rattle.acc_parse_readback.proofs.Mapped.{all_mapped}
use Rattle.acc_parse_readback.proofs.Ends.{not_past, not_above, ends_each, ends_counted}
use Rattle.acc_parse_readback.proofs.LimitedValues.{name_ends, names_end, variable_ends, lin_ends, few_others}
use Rattle.acc_parse_readback.proofs.LimitedClauses.{clauses_end}
use Rattle.acc_parse_readback.proofs.LimitedTypes.{type_ends}

-- ---- tables

not_less : (n most : ℕ) → n ≤ most → nat_lt most n ≡ false
not_less n most h = grind (arith, nat_tests)

pub table_ends : (t : Table) → IsTableSaid t → AreEnds (table_marks (table_tree t))
table_ends t h =
    ends_behind _ _ (not_past limit.KeyWidth (nat_lt t.width 1 || nat_lt 6 t.width)
    (neither (nat_lt t.width 1) (nat_lt 6 t.width) (not_less 1 t.width h.some_width) (not_less t.width 6 h.width)))
    (ends_behind _ _ (not_above limit.Columns 12 (length t.cols) h.few_columns)
    (ends_behind (name_marks t.name) _ (name_ends t.name h.name)
    (ends_behind (number_marks t.width) _ (not_above limit.NumberSize (2 ^ 45) t.width (omega (arith, h.width)))
    (ends_behind (flat_map name_marks t.cols) ending (names_end t.cols h.columns) one_end))))

-- ---- entries and hints

at_ends : (d : Design) (at : At) → IsAtSaid d at → AreEnds (point_name_marks (point_name_tree d at))
at_ends d at h =
    let ty = type_name (slice_get d.types at.ty) in
    let p = point_name (point_of d at.ty at.point) in
    ends_behind (name_marks ty) (name_marks p) (name_ends ty h.ty) (name_ends p h.point)

pair_ends : (held step : List (List ℕ)) (p : ℕ × ℕ) → IsPairSaid held step p → AreEnds (pair_marks (pair_tree held step p))
pair_ends held step p h =
    ends_behind (variable_marks (variable_tree held p.0)) (variable_marks (variable_tree step p.1))
    (variable_ends (name_at held p.0) (inl h.0)) (variable_ends (name_at step p.1) (inl h.1))

pairs_end : (held step : List (List ℕ)) (ps : List (ℕ × ℕ)) → AllIn (IsPairSaid held step) ps →
    AreEnds (pairs_marks (pairs_tree held step ps))
pairs_end held step [] h = tt
pairs_end held step (p ∷ ps) h =
    ends_behind (pair_marks (pair_tree held step p)) _ (pair_ends held step p h.0)
    (ends_each pair_marks (map (pair_tree held step) ps)
    (all_mapped (IsPairSaid held step) (λ (t : PairTree). AreEnds (pair_marks t)) (pair_tree held step) (pair_ends held step) ps h.1))

pub entry_ends : (d : Design) (e : Entry) → IsEntrySaid d e → AreEnds (entry_marks (entry_tree d e))
entry_ends d e h =
    let held = (scope_at d e.held).names in
    let step = (scope_at d e.step).names in
    ends_behind (point_name_marks (point_name_tree d e.held)) _ (at_ends d e.held h.held)
    (ends_behind (point_name_marks (point_name_tree d e.step)) _ (at_ends d e.step h.step)
    (ends_behind (pairs_marks (pairs_tree held step e.pairs)) ending (pairs_end held step e.pairs h.pairs) one_end))

pub hint_ends : (d : Design) (h : Hint) → IsHintSaid d h → AreEnds (hint_marks (hint_tree d h))
hint_ends d h said =
    let names = (scope_at d h.at).names in
    ends_behind (point_name_marks (point_name_tree d h.at)) _ (at_ends d h.at said.at)
    (ends_behind (sum_marks (lin_tree names h.lin)) ending (lin_ends names h.lin said.value) one_end)

-- ---- the whole

design_ends : (d : Design) → IsSaid d → AreEnds (design_marks (tree_of d))
design_ends d h =
    let clauses = map (clause_tree (outside d.tables)) d.always in
    ends_behind (limited limit.Tables 64 table_marks (map table_tree d.tables)) _
    (ends_counted limit.Tables 64 table_marks (map table_tree d.tables) (few_others table_tree 64 d.tables h.few_tables)
    (all_mapped IsTableSaid (λ (t : TableTree). AreEnds (table_marks t)) table_tree table_ends d.tables h.tables))
    (ends_behind (limited limit.AlwaysClauses 128 clause_statement_marks clauses) _
    (ends_counted limit.AlwaysClauses 128 clause_statement_marks clauses
    (few_others (clause_tree (outside d.tables)) 128 d.always h.few_always) (clauses_end (outside d.tables) d.always h.always))
    (ends_behind (limited limit.Types 64 type_marks (map (type_tree d.tables) d.types)) _
    (ends_counted limit.Types 64 type_marks (map (type_tree d.tables) d.types) (few_others (type_tree d.tables) 64 d.types h.few_types)
    (all_mapped (IsTypeSaid d.tables) (λ (t : TypeTree). AreEnds (type_marks t)) (type_tree d.tables) (type_ends d.tables) d.types h.types))
    (ends_behind (limited limit.EntriesAndHints 1024 entry_marks (map (entry_tree d) d.entries)) _
    (ends_counted limit.EntriesAndHints 1024 entry_marks (map (entry_tree d) d.entries)
    (few_others (entry_tree d) 1024 d.entries h.few_entries)
    (all_mapped (IsEntrySaid d) (λ (t : EntryTree). AreEnds (entry_marks t)) (entry_tree d) (entry_ends d) d.entries h.entries))
    (ends_counted limit.EntriesAndHints 1024 hint_marks (map (hint_tree d) d.hints) (few_others (hint_tree d) 1024 d.hints h.few_hints)
    (all_mapped (IsHintSaid d) (λ (t : HintTree). AreEnds (hint_marks t)) (hint_tree d) (hint_ends d) d.hints h.hints)))))

-- no statement of a printed design passes a limit
pub tree_passes_no_limit : (d : Design) → IsSaid d → limit_faults (tree_of d) ≡ []
unfolding limit_faults
tree_passes_no_limit d h = no_faults 0 (design_marks (tree_of d)) (design_ends d h)
