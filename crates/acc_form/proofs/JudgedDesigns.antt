-- Statements that are judged are those in print, with the marks of the form rules: types and the whole.
use Rattle.std.proofs.Common.{◌≡◌, ◌≤◌, ℕ, List, [], ◌∷◌, ◌++◌, length, map, take, drop, refl, sym, ap, ◌∙◌, append_assoc, arith}
use Rattle.std.specs.Prelude.{◌==◌, ◌&&◌, nat_le, not, if◌then◌else◌, codes}
use Rattle.std.specs.List.{flat_map, list_all}
use Rattle.std.specs.Fmt.{decimal}
use Rattle.std.proofs.lemmas.Bool.{eqb-true, eqb-false, leb-true, leb-false}
use Rattle.std.proofs.lemmas.List.{length-drop, length-map}
use Rattle.acc_base.specs.declared.rules.FormRule.TheVariants as rules
use Rattle.acc_base.specs.Lines.{line, at_text}
use Rattle.acc_base.specs.declared.forms.Clause.{Clause}
use Rattle.acc_base.specs.declared.tables.Table.{Table}
use Rattle.acc_base.specs.declared.designs.TxType.{TxType}
use Rattle.acc_base.specs.declared.designs.Entry.{Entry}
use Rattle.acc_base.specs.declared.designs.Hint.{Hint}
use Rattle.acc_base.specs.declared.designs.Design.{Design}
use Rattle.acc_form.specs.Marks.{ending, asked}
use Rattle.acc_formed.specs.Sizes.{is_short, returns_small}
use Rattle.acc_formed.specs.Names.{are_distinct, are_new, names_type}
use Rattle.acc_formed.specs.Ends.{is_limit}
use Rattle.acc_form.specs.Statements.{table_marks, clause_marks, head_marks, returns_marks, locals_marks, point_marks, type_marks}
use Rattle.acc_form.specs.Statements.{entry_marks, hint_marks, design_marks}
use Rattle.acc_print.specs.Lists.{spaced, listed}
use Rattle.acc_print.specs.Names.{name_at, outside, within}
use Rattle.acc_print.specs.Values.{lin_text}
use Rattle.acc_print.specs.Clauses.{clause_text, clause_line}
use Rattle.acc_print.specs.Types.{names_lines, point_lines, type_lines}
use Rattle.acc_print.specs.Designs.{table_line, side_text, scope_at, pair_text, entry_line, hint_line, printed}
use Rattle.acc_form.specs.Judged.{judged_table, judged_always, judged_clause, judged_point, type_name_marks, judged_head, judged_returns}
use Rattle.acc_form.specs.Judged.{judged_locals, judged_type, judged_entry, judged_hint, judged}
use Rattle.acc_form.proofs.StatementEnds.{one_statement, asks}
use Rattle.acc_form.proofs.StatementCounts.{table_counts, clause_counts, entry_counts, hint_counts}
use Rattle.acc_form.proofs.JudgedMarks.{Judges, rejudged, one_judged, judged_unless, both_judged, each_judged, behind_two}
use Rattle.acc_form.proofs.JudgedSteps.{clause_judged, point_judged}

-- ---- types

head_judged : (types : List TxType) (i : ℕ) (t : TxType)
    → Judges (judged_head types i t) (line (codes "type " ++ (t.name ++ flat_map spaced (take t.params t.locals))) ++ line
    (codes "limit " ++ decimal t.limit)) (head_marks types i t)
head_judged types i t =
    let few = not (i == 64) && is_short t.name && nat_le t.params 48 && list_all is_short (take t.params t.locals) in
    let new = not (names_type (take i types) t.name) && are_distinct (take t.params t.locals) in
    rejudged (both_judged (one_judged (codes "type " ++ (t.name ++ flat_map spaced (take t.params t.locals))) (type_name_marks types i t)
    (asks rules.Limits few (asks rules.Names new one_statement)))
    (one_judged (codes "limit " ++ decimal t.limit) (asked rules.Numbers (is_limit t.limit) ++ ending)
    (asks rules.Numbers (is_limit t.limit) one_statement))) refl
    (behind_two (asked rules.Limits few) (asked rules.Names new) ending (asked rules.Numbers (is_limit t.limit) ++ ending))

-- names are said where there are some
no_names : (word : List ℕ) (xs : List (List ℕ)) → length xs ≤ 0 → names_lines word xs ≡ []
no_names word [] h = refl
no_names word (x ∷ xs) h = absurd (omega (arith, h))

some_names : (word : List ℕ) (xs : List (List ℕ)) → 1 ≤ length xs → (words : List ℕ) × (names_lines word xs ≡ line words)
some_names word [] h = absurd (omega (arith, h))
some_names word (x ∷ xs) h = (word ++ flat_map spaced (x ∷ xs), refl)

returns_judged : (t : TxType)
    → Judges (judged_returns t) (names_lines (codes "returns") (map (name_at t.locals) t.returns)) (returns_marks t)
returns_judged t =
    let names = map (name_at t.locals) t.returns in
    let count = length-map t.returns (name_at t.locals) in
    judged_unless (length t.returns == 0) (names_lines (codes "returns") names)
    (asked rules.Limits (returns_small t.locals t.returns) ++ ending)
    (λ e. let none = eqb-true (length t.returns) 0 e in no_names (codes "returns") names (omega (arith, none, count)))
    (λ e. some_names (codes "returns") names (some (length t.returns) (length names) count (eqb-false (length t.returns) 0 e)))
    (asks rules.Limits (returns_small t.locals t.returns) one_statement)
  where
    some : (n m : ℕ) → m ≡ n → (n ≡ 0 → ⊥) → 1 ≤ m
    some n m e h = omega (arith, e, h)

locals_judged : (t : TxType) → Judges (judged_locals t) (names_lines (codes "local") (drop t.params t.locals)) (locals_marks t)
locals_judged t =
    let names = drop t.params t.locals in
    let count = length-drop t.params t.locals in
    let few = nat_le (length t.locals) 48 && list_all is_short names in
    let new = are_new (take t.params t.locals) names in
    judged_unless (nat_le (length t.locals) t.params) (names_lines (codes "local") names)
    (asked rules.Limits few ++ (asked rules.Names new ++ ending))
    (λ e. let none = leb-true (length t.locals) t.params e in no_names (codes "local") names (omega (arith, none, count)))
    (λ e. let some = leb-false (length t.locals) t.params e in some_names (codes "local") names (omega (arith, some, count)))
    (asks rules.Limits few (asks rules.Names new one_statement))

-- what the type begins with is printed before the rest of it
head_first : (name limit returns locals rest : List ℕ)
    → (name ++ limit) ++ (returns ++ (locals ++ rest)) ≡ (name ++ (limit ++ (returns ++ locals))) ++ rest
head_first name limit returns locals rest =
    append_assoc name limit (returns ++ (locals ++ rest)) ∙ sym
    (behind_two name limit (returns ++ locals) rest ∙ ap (λ (bs : List ℕ). name ++ (limit ++ bs)) (append_assoc returns locals rest))

type_judged : (tables : List Table) (types : List TxType) (i : ℕ) (t : TxType)
    → Judges (judged_type tables types i t) (type_lines tables t) (type_marks tables types i t)
type_judged tables types i t =
    let s = within tables t in
    let posts = each_judged (judged_clause tables t (codes "ensures ")) (clause_line s (codes "ensures "))
    (clause_marks tables t.locals 64) (clause_judged tables t (codes "ensures ")) 0 t.posts in
    let repairs = each_judged (judged_clause tables t (codes "repairs ")) (clause_line s (codes "repairs "))
    (clause_marks tables t.locals 64) (clause_judged tables t (codes "repairs ")) 0 t.repairs in
    let points = each_judged (judged_point tables t) (point_lines s t.points) (point_marks tables t) (point_judged tables t) 0 t.points in
    rejudged (both_judged (head_judged types i t)
    (both_judged (returns_judged t) (both_judged (locals_judged t) (both_judged posts (both_judged repairs points)))))
    (head_first (line (codes "type " ++ (t.name ++ flat_map spaced (take t.params t.locals)))) (line (codes "limit " ++ decimal t.limit))
    (names_lines (codes "returns") (map (name_at t.locals) t.returns))
    (names_lines (codes "local") (drop t.params t.locals))
    (flat_map (clause_line s (codes "ensures ")) t.posts ++
    (flat_map (clause_line s (codes "repairs ")) t.repairs ++ flat_map (point_lines s t.points) t.points))) refl

-- ---- the whole

table_judged : (tables : List Table) (i : ℕ) (t : Table) → Judges (judged_table tables i t) (table_line t) (table_marks tables i t)
table_judged tables i t =
    one_judged ((if t.own then codes "private " else codes "table ") ++ (t.name ++ (spaced (decimal t.width) ++ flat_map spaced t.cols)))
    (table_marks tables i t) (table_counts tables i t)

always_judged : (tables : List Table) (i : ℕ) (c : Clause)
    → Judges (judged_always tables i c) (clause_line (outside tables) (codes "always ") c) (clause_marks tables [] 128 i c)
always_judged tables i c =
    one_judged (codes "always " ++ clause_text (outside tables) c) (clause_marks tables [] 128 i c) (clause_counts tables [] 128 i c)

entry_judged : (d : Design) (i : ℕ) (e : Entry) → Judges (judged_entry d i e) (entry_line d e) (entry_marks d.types d.entries i e)
entry_judged d i e =
    let pairs = listed (pair_text (scope_at d e.held).names (scope_at d e.step).names) (codes " : ") e.pairs in
    one_judged (codes "entry " ++ (at_text d e.held ++ (codes " by " ++ (at_text d e.step ++ (side_text e.side ++ pairs)))))
    (entry_marks d.types d.entries i e) (entry_counts d.types d.entries i e)

hint_judged : (d : Design) (i : ℕ) (h : Hint) → Judges (judged_hint d i h) (hint_line d h) (hint_marks i h)
hint_judged d i h =
    one_judged (codes "hint " ++ (at_text d h.at ++ (side_text h.side ++ spaced (lin_text (scope_at d h.at).names h.lin))))
    (hint_marks i h) (hint_counts i h)

pub design_judged : (d : Design) → Judges (judged d) (printed d) (design_marks d)
design_judged d =
    let tables = each_judged (judged_table d.tables) table_line (table_marks d.tables) (table_judged d.tables) 0 d.tables in
    let always = each_judged (judged_always d.tables) (clause_line (outside d.tables) (codes "always ")) (clause_marks d.tables [] 128)
    (always_judged d.tables) 0 d.always in
    let types = each_judged (judged_type d.tables d.types) (type_lines d.tables) (type_marks d.tables d.types)
    (type_judged d.tables d.types) 0 d.types in
    let entries = each_judged (judged_entry d) (entry_line d) (entry_marks d.types d.entries) (entry_judged d) 0 d.entries in
    let hints = each_judged (judged_hint d) (hint_line d) hint_marks (hint_judged d) 0 d.hints in
    both_judged tables (both_judged always (both_judged types (both_judged entries hints)))

-- the texts of the statements are the print
pub judged_is_printed : (d : Design) → flat_map (λ j. j.text) (judged d) ≡ printed d
judged_is_printed d = (design_judged d).texts

-- and their marks are those of the design
pub judged_is_marked : (d : Design) → flat_map (λ j. j.marks) (judged d) ≡ design_marks d
judged_is_marked d = (design_judged d).all_marks
