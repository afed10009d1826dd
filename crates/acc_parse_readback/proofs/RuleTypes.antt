-- The form rules are asked of the statements that are printed: types and the whole have as many by the marks as by the tree.
use Rattle.std.proofs.Common.{◌≡◌, ◌≤◌, ℕ, List, [], ◌∷◌, length, map, take, drop, refl, sym, ap, arith}
use Rattle.std.specs.Prelude.{◌==◌, ◌&&◌, nat_le, not}
use Rattle.std.specs.List.{list_all}
use Rattle.std.proofs.lemmas.Bool.{ne_eqb, leb-true, leb-false}
use Rattle.std.proofs.lemmas.List.{drop_all, length-drop}
use Rattle.acc_base.specs.declared.rules.FormRule.TheVariants as rule
use Rattle.acc_base.specs.declared.tables.Table.{Table}
use Rattle.acc_base.specs.declared.designs.TxType.{TxType}
use Rattle.acc_base.specs.declared.designs.Design.{Design}
use Rattle.acc_formed.specs.Sizes.{is_short, returns_small}
use Rattle.acc_formed.specs.Names.{are_distinct, are_new, names_type}
use Rattle.acc_formed.specs.Ends.{is_limit}
use Rattle.acc_form.specs.Statements.{table_marks, clause_marks, head_marks, returns_marks, locals_marks, type_marks, entry_marks}
use Rattle.acc_form.specs.Statements.{hint_marks, design_marks}
use Rattle.acc_parse_statements.specs.Counts.{if_there, type_statements, statements_of}
use Rattle.acc_print.specs.Names.{name_at, within, outside}
use Rattle.acc_parse_readback.specs.Trees.{names_tree, clause_tree}
use Rattle.acc_parse_readback.specs.TypeTrees.{type_tree, table_tree, entry_tree, hint_tree, tree_of}
use Rattle.acc_parse_readback.specs.PrintableTypes.{IsTypeSaid, IsSaid}
use Rattle.acc_form.proofs.StatementEnds.{Counts, ends_of, recounted, no_statement, one_statement, one_more, both, asks, unless}
use Rattle.acc_form.proofs.StatementCounts.{table_counts, clause_counts, entry_counts, hint_counts}
use Rattle.acc_parse_readback.proofs.RuleMarks.{each_counts, each_one}
use Rattle.acc_parse_readback.proofs.RuleStatements.{points_count}

-- ---- types

head_counts : (types : List TxType) (i : ℕ) (t : TxType) → Counts (head_marks types i t) 2
head_counts types i t =
    asks rule.Limits (not (i == 64) && is_short t.name && nat_le t.params 48 && list_all is_short (take t.params t.locals))
    (asks rule.Names (not (names_type (take i types) t.name) && are_distinct (take t.params t.locals))
    (one_more (asks rule.Numbers (is_limit t.limit) one_statement)))

-- names are said where there are some
some_names : (xs : List (List ℕ)) → 1 ≤ length xs → if_there (names_tree xs) ≡ 1
some_names [] h = absurd (omega (arith, h))
some_names (x ∷ xs) h = refl

returns_counts : (t : TxType) → Counts (returns_marks t) (if_there (names_tree (map (name_at t.locals) t.returns)))
returns_counts t = by_returns t.returns
  where
    by_returns : (xs : List ℕ) → Counts (returns_marks (record t { returns = xs })) (if_there (names_tree (map (name_at t.locals) xs)))
    by_returns [] = no_statement
    by_returns (x ∷ xs) = rw (ne_eqb (length (x ∷ xs)) 0 (λ e. absurd (omega (arith, e))))
        (asks rule.Limits (returns_small t.locals (x ∷ xs)) one_statement)

locals_counts : (t : TxType) → Counts (locals_marks t) (if_there (names_tree (drop t.params t.locals)))
locals_counts t =
    unless (nat_le (length t.locals) t.params) (λ e. ap (λ (xs : List (List ℕ)). if_there (names_tree xs))
    (drop_all t.params t.locals (leb-true (length t.locals) t.params e))) (λ e.
    let some = leb-false (length t.locals) t.params e in
    let count = length-drop t.params t.locals in
    recounted (asks rule.Limits (nat_le (length t.locals) 48 && list_all is_short (drop t.params t.locals))
    (asks rule.Names (are_new (take t.params t.locals) (drop t.params t.locals)) one_statement))
    (sym (some_names (drop t.params t.locals) (omega (arith, some, count)))))

pub type_counts : (tables : List Table) (types : List TxType) (i : ℕ) (t : TxType) → IsTypeSaid tables t →
    Counts (type_marks tables types i t) (type_statements (type_tree tables t))
type_counts tables types i t h =
    let s = within tables t in
    let posts = each_one (clause_marks tables t.locals 64) (clause_tree s) (clause_counts tables t.locals 64) 0 t.posts in
    let repairs = each_one (clause_marks tables t.locals 64) (clause_tree s) (clause_counts tables t.locals 64) 0 t.repairs in
    let points = points_count s t.points tables t t.points h.points in
    recounted (both (head_counts types i t) (both (returns_counts t) (both (locals_counts t) (both posts (both repairs points)))))
    (omega arith)

-- ---- the whole

-- each rule is asked of a statement that is printed, and of each statement that is printed the rules are asked
pub design_counts : (d : Design) → IsSaid d → Counts (design_marks d) (statements_of (tree_of d))
unfolding statements_of
design_counts d h =
    let tables = each_one (table_marks d.tables) table_tree (table_counts d.tables) 0 d.tables in
    let always = each_one (clause_marks d.tables [] 128) (clause_tree (outside d.tables)) (clause_counts d.tables [] 128) 0 d.always in
    let types = each_counts (IsTypeSaid d.tables) (type_marks d.tables d.types) (type_tree d.tables) type_statements
    (type_counts d.tables d.types) 0 d.types h.types in
    let entries = each_one (entry_marks d.types d.entries) (entry_tree d) (entry_counts d.types d.entries) 0 d.entries in
    let hints = each_one hint_marks (hint_tree d) hint_counts 0 d.hints in
    recounted (both tables (both always (both types (both entries hints)))) (omega arith)

pub marks_end : (d : Design) → IsSaid d → ends_of (design_marks d) ≡ statements_of (tree_of d)
marks_end d h = (design_counts d h).ends
