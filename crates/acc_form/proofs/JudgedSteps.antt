-- Statements that are judged are those in print, with the marks of the form rules: steps and points.
use Rattle.std.proofs.Common.{ℕ, ◌+◌, Bool, false, List, ◌++◌, length, take, refl, sym, ◌∙◌, append_assoc}
use Rattle.std.specs.Prelude.{◌==◌, ◌&&◌, ◌||◌, nat_lt, not, codes}
use Rattle.acc_base.specs.declared.rules.FormRule.TheVariants as rules
use Rattle.acc_base.specs.Lines.{line}
use Rattle.acc_base.specs.declared.forms.Lin.{Lin}
use Rattle.acc_base.specs.declared.forms.Clause.{Clause}
use Rattle.acc_base.specs.declared.tables.Table.{Table}
use Rattle.acc_base.specs.declared.steps.Read.{Read}
use Rattle.acc_base.specs.declared.steps.Action.{Action}
use Rattle.acc_base.specs.declared.steps.Path.{Path}
use Rattle.acc_base.specs.declared.steps.Step.{Step}
use Rattle.acc_base.specs.declared.designs.Side.{Side}
use Rattle.acc_base.specs.declared.designs.Side.TheVariants.{Next, Undo}
use Rattle.acc_base.specs.declared.designs.Point.{Point}
use Rattle.acc_base.specs.declared.designs.TxType.{TxType}
use Rattle.acc_form.specs.Marks.{ending, asked, numbered}
use Rattle.acc_formed.specs.Sizes.{is_short, lin_small, guard_small}
use Rattle.acc_formed.specs.Names.{names_point}
use Rattle.acc_form.specs.Statements.{clause_marks, read_marks, action_marks, target_marks, path_marks, step_marks, is_zero, variant_marks}
use Rattle.acc_form.specs.Statements.{point_marks}
use Rattle.acc_print.specs.Lists.{listed}
use Rattle.acc_print.specs.Names.{within}
use Rattle.acc_print.specs.Values.{lin_text, lin_rel_text}
use Rattle.acc_print.specs.Clauses.{clause_text, clause_line}
use Rattle.acc_print.specs.Steps.{read_text, read_line, action_text, action_line, target_text, path_lines, step_lines}
use Rattle.acc_print.specs.Types.{variant_lines, sides_lines, point_lines}
use Rattle.acc_form.specs.Judged.{judged_clause, judged_read, judged_action, guard_marks, judged_path, side_word, judged_step}
use Rattle.acc_form.specs.Judged.{judged_variant, point_name_marks, judged_point}
use Rattle.acc_form.proofs.StatementEnds.{one_statement, asks}
use Rattle.acc_form.proofs.StatementCounts.{clause_counts, read_counts, action_counts, target_counts, same_zero}
use Rattle.acc_form.proofs.JudgedMarks.{Judges, rejudged, one_judged, judged_unless, both_judged, each_judged, behind_two}

-- ---- clauses and steps

pub clause_judged : (tables : List Table) (t : TxType) (word : List ℕ) (i : ℕ) (c : Clause)
    → Judges (judged_clause tables t word i c) (clause_line (within tables t) word c) (clause_marks tables t.locals 64 i c)
clause_judged tables t word i c =
    one_judged (word ++ clause_text (within tables t) c) (clause_marks tables t.locals 64 i c) (clause_counts tables t.locals 64 i c)

read_judged : (tables : List Table) (t : TxType) (side : Side) (i : ℕ) (r : Read)
    → Judges (judged_read tables t side i r) (read_line (within tables t) r) (read_marks tables t side i r)
read_judged tables t side i r = one_judged (read_text (within tables t) r) (read_marks tables t side i r) (read_counts tables t side i r)

action_judged : (tables : List Table) (t : TxType) (is_bare : Bool) (i : ℕ) (a : Action)
    → Judges (judged_action tables t is_bare i a) (action_line (within tables t) a) (action_marks tables t is_bare i a)
action_judged tables t is_bare i a =
    one_judged (action_text (within tables t) a) (action_marks tables t is_bare i a) (action_counts tables t is_bare i a)

path_judged : (tables : List Table) (t : TxType) (side : Side) (is_bare : Bool) (count i : ℕ) (p : Path)
    → Judges (judged_path tables t side is_bare count i p) (path_lines (within tables t) t.points p)
    (path_marks tables t side is_bare count i p)
path_judged tables t side is_bare count i p =
    let s = within tables t in
    let few = not (i == 16) && guard_small p.guard in
    let last = nat_lt (i + 1) count || (length p.guard == 0) in
    let guard = one_judged (codes "path" ++ listed (lin_rel_text s.names) (codes " ") p.guard) (guard_marks count i p)
    (asks rules.Limits few (asks rules.LastPaths last one_statement)) in
    let actions = each_judged (judged_action tables t is_bare) (action_line s) (action_marks tables t is_bare)
    (action_judged tables t is_bare) 0 p.actions in
    let target = one_judged (target_text t.points p.target) (target_marks t side is_bare p) (target_counts t side is_bare p) in
    rejudged (both_judged guard (both_judged actions target)) refl
    (behind_two (asked rules.Limits few) (asked rules.LastPaths last) ending
    (numbered (action_marks tables t is_bare) p.actions ++ target_marks t side is_bare p))

step_judged : (tables : List Table) (t : TxType) (side : Side) (is_bare : Bool) (s : Step)
    → Judges (judged_step tables t side is_bare s) (line (side_word side) ++ step_lines (within tables t) t.points s)
    (step_marks tables t side is_bare s)
step_judged tables t side is_bare s =
    let reads = each_judged (judged_read tables t side) (read_line (within tables t)) (read_marks tables t side)
    (read_judged tables t side) 0 s.reads in
    let count = length s.paths in
    let paths = each_judged (judged_path tables t side is_bare count) (path_lines (within tables t) t.points)
    (path_marks tables t side is_bare count) (path_judged tables t side is_bare count) 0 s.paths in
    both_judged (one_judged (side_word side) ending one_statement) (both_judged reads paths)

-- ---- points

sides_judged : (tables : List Table) (t : TxType) (i : ℕ) (p : Point)
    → Judges (judged_step tables t Next false p.next ++ judged_step tables t Undo (i == 0) p.undo)
    (sides_lines (within tables t) t.points p) (step_marks tables t Next false p.next ++ step_marks tables t Undo (i == 0) p.undo)
sides_judged tables t i p =
    let s = within tables t in
    rejudged (both_judged (step_judged tables t Next false p.next) (step_judged tables t Undo (i == 0) p.undo))
    (append_assoc (line (codes "next")) (step_lines s t.points p.next) (line (codes "undo") ++ step_lines s t.points p.undo)) refl

variant_judged : (tables : List Table) (t : TxType) (l : Lin)
    → Judges (judged_variant tables t l) (variant_lines (within tables t).names l) (variant_marks l)
variant_judged tables t l =
    let names = (within tables t).names in
    judged_unless (is_zero l) (variant_lines names l) (asked rules.Limits (lin_small l) ++ ending) (λ e. rw (sym (same_zero l) ∙ e) refl)
    (λ e. (codes "variant " ++ lin_text names l, rw (sym (same_zero l) ∙ e) refl)) (asks rules.Limits (lin_small l) one_statement)

pub point_judged : (tables : List Table) (t : TxType) (i : ℕ) (p : Point)
    → Judges (judged_point tables t i p) (point_lines (within tables t) t.points p) (point_marks tables t i p)
point_judged tables t i p =
    let few = not (i == 32) && is_short p.name in
    let new = not (names_point (take i t.points) p.name) in
    let name = one_judged (codes "point " ++ p.name) (point_name_marks t i p)
    (asks rules.Limits few (asks rules.Names new one_statement)) in
    let holds = each_judged (judged_clause tables t (codes "holds ")) (clause_line (within tables t) (codes "holds "))
    (clause_marks tables t.locals 64) (clause_judged tables t (codes "holds ")) 0 p.clauses in
    rejudged (both_judged name (both_judged (variant_judged tables t p.variant) (both_judged holds (sides_judged tables t i p)))) refl
    (behind_two (asked rules.Limits few) (asked rules.Names new) ending
    (variant_marks p.variant ++ (numbered (clause_marks tables t.locals 64) p.clauses ++
    (step_marks tables t Next false p.next ++ step_marks tables t Undo (i == 0) p.undo))))
