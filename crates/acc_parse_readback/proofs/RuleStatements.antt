-- The form rules are asked of the statements that are printed: the parts have as many by the marks as by the tree. First steps and points.
use Rattle.std.proofs.Common.{ℕ, ◌+◌, Bool, false, List, [], ◌∷◌, length, map, take, drop, refl, sym, ◌∙◌, arith}
use Rattle.std.specs.Prelude.{sum_by, ◌==◌, ◌&&◌, ◌||◌, nat_lt, not}
use Rattle.acc_base.specs.declared.rules.FormRule.TheVariants as rule
use Rattle.acc_base.specs.declared.forms.Lin.{Lin}
use Rattle.acc_base.specs.declared.tables.Table.{Table}
use Rattle.acc_base.specs.declared.steps.Path.{Path}
use Rattle.acc_base.specs.declared.steps.Step.{Step}
use Rattle.acc_base.specs.declared.designs.Side.{Side}
use Rattle.acc_base.specs.declared.designs.Side.TheVariants.{Next, Undo}
use Rattle.acc_base.specs.declared.designs.Point.{Point}
use Rattle.acc_base.specs.declared.designs.TxType.{TxType}
use Rattle.acc_form.specs.Marks.{numbered}
use Rattle.acc_formed.specs.Sizes.{is_short, lin_small, guard_small}
use Rattle.acc_formed.specs.Names.{names_point}
use Rattle.acc_form.specs.Statements.{clause_marks, read_marks, action_marks, path_marks, step_marks, is_zero, variant_marks, point_marks}
use Rattle.acc_parse_statements.specs.Counts.{if_there, path_statements, step_statements, point_statements}
use Rattle.acc_print.specs.Names.{Scope}
use Rattle.acc_parse_readback.specs.Trees.{clause_tree}
use Rattle.acc_parse_readback.specs.TypeTrees.{read_statement_tree, action_statement_tree, path_tree, first_path, step_tree, variant_tree}
use Rattle.acc_parse_readback.specs.TypeTrees.{point_tree, first_point}
use Rattle.acc_parse_readback.specs.PrintableTypes.{IsPathSaid, ArePathsSaid, IsStepSaid, IsPointSaid, ArePointsSaid}
use Rattle.acc_form.proofs.StatementEnds.{Counts, recounted, one_statement, one_more, both, asks, unless}
use Rattle.acc_form.proofs.StatementCounts.{clause_counts, read_counts, action_counts, target_counts, same_zero}
use Rattle.acc_parse_readback.proofs.RuleMarks.{each_counts, each_one}

-- ---- clauses and steps

pub path_counts : (s : Scope) (points : List Point) (tables : List Table) (t : TxType) (side : Side) (is_bare : Bool) (count i : ℕ)
    (p : Path)
    → Counts (path_marks tables t side is_bare count i p) (path_statements (path_tree s points p))
path_counts s points tables t side is_bare count i p =
    let actions = each_one (action_marks tables t is_bare) (action_statement_tree s) (action_counts tables t is_bare) 0 p.actions in
    recounted (asks rule.Limits (not (i == 16) && guard_small p.guard)
    (asks rule.LastPaths (nat_lt (i + 1) count || (length p.guard == 0)) (one_more (both actions (target_counts t side is_bare p))))) (omega arith)

paths_count : (s : Scope) (points : List Point) (tables : List Table) (t : TxType) (side : Side) (is_bare : Bool) (count : ℕ)
    (ps : List Path) → ArePathsSaid s points ps
    → Counts (numbered (path_marks tables t side is_bare count) ps)
    (path_statements (first_path s points ps) + sum_by path_statements (map (path_tree s points) (drop 1 ps)))
paths_count s points tables t side is_bare count [] h = absurd h
paths_count s points tables t side is_bare count (p ∷ ps) h =
    let each = path_counts s points tables t side is_bare count in
    both (each 0 p) (each_counts (IsPathSaid s points) (path_marks tables t side is_bare count) (path_tree s points) path_statements
    (λ i x g. each i x) (0 + 1) ps h.1)

pub step_counts : (s : Scope) (points : List Point) (tables : List Table) (t : TxType) (side : Side) (is_bare : Bool) (st : Step) →
    IsStepSaid s points st
    → Counts (step_marks tables t side is_bare st) (step_statements (step_tree s points st))
step_counts s points tables t side is_bare st h =
    let reads = each_one (read_marks tables t side) (read_statement_tree s) (read_counts tables t side) 0 st.reads in
    let paths = paths_count s points tables t side is_bare (length st.paths) st.paths h.paths in
    recounted (one_more (both reads paths)) (omega arith)

-- ---- points

variant_counts : (names : List (List ℕ)) (l : Lin) → Counts (variant_marks l) (if_there (variant_tree names l))
variant_counts names l = unless (is_zero l) (λ e. rw (sym (same_zero l) ∙ e) refl)
    (λ e. rw (sym (same_zero l) ∙ e) (asks rule.Limits (lin_small l) one_statement))

pub point_counts : (s : Scope) (points : List Point) (tables : List Table) (t : TxType) (i : ℕ) (p : Point) → IsPointSaid s points p
    → Counts (point_marks tables t i p) (point_statements (point_tree s points p))
point_counts s points tables t i p h =
    let holds = each_one (clause_marks tables t.locals 64) (clause_tree s) (clause_counts tables t.locals 64) 0 p.clauses in
    let next = step_counts s points tables t Next false p.next h.next in
    let undo = step_counts s points tables t Undo (i == 0) p.undo h.undo in
    recounted (asks rule.Limits (not (i == 32) && is_short p.name)
    (asks rule.Names (not (names_point (take i t.points) p.name))
    (one_more (both (variant_counts s.names p.variant) (both holds (both next undo)))))) (omega arith)

pub points_count : (s : Scope) (points : List Point) (tables : List Table) (t : TxType) (ps : List Point) → ArePointsSaid s points ps
    → Counts (numbered (point_marks tables t) ps)
    (point_statements (first_point s points ps) + sum_by point_statements (map (point_tree s points) (drop 1 ps)))
points_count s points tables t [] h = absurd h
points_count s points tables t (p ∷ ps) h =
    both (point_counts s points tables t 0 p h.0)
    (each_counts (IsPointSaid s points) (point_marks tables t) (point_tree s points) point_statements (point_counts s points tables t)
    (0 + 1) ps h.1)
