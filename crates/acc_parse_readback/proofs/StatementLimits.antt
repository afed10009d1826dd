-- A design that some text stands for has few statements, by its limits.
use Rattle.std.proofs.Common.{◌≤◌, ◌<◌, ◌^◌, ◌*◌, ℕ, ◌+◌, ◌-◌, List, [], ◌∷◌, length, map, drop, arith}
use Rattle.std.proofs.lemmas.List.{length-map}
use Rattle.std.specs.Prelude.{sum_by, Option, Some, None}
use Rattle.std.proofs.Math.Nat.{suc-mul}
use Rattle.std.proofs.lemmas.List.Sums.{sum_by-cons}
use Rattle.acc_grammar.specs.Readers.{AllIn}
use Rattle.acc_base.specs.declared.tables.Table.{Table}
use Rattle.acc_base.specs.declared.steps.Path.{Path}
use Rattle.acc_base.specs.declared.steps.Step.{Step}
use Rattle.acc_base.specs.declared.designs.Point.{Point}
use Rattle.acc_base.specs.declared.designs.TxType.{TxType}
use Rattle.acc_base.specs.declared.designs.Design.{Design}
use Rattle.acc_parse_statements.specs.Counts.{if_there, path_statements, step_statements, point_statements, type_statements, statements_of}
use Rattle.acc_print.specs.Names.{Scope, name_at, within, outside}
use Rattle.acc_parse_readback.specs.Trees.{names_tree, clause_tree}
use Rattle.acc_parse_readback.specs.TypeTrees.{read_statement_tree, action_statement_tree, path_tree, first_path, step_tree, variant_tree}
use Rattle.acc_parse_readback.specs.TypeTrees.{point_tree, first_point, type_tree, table_tree, entry_tree, hint_tree, tree_of}
use Rattle.acc_parse_readback.specs.PrintableTypes.{IsPathSaid, ArePathsSaid, IsStepSaid, IsPointSaid, ArePointsSaid, IsTypeSaid, IsSaid}

-- what items have together that have at most so much each
sum_few : {X Y : Type 0} (P : X → Type 0) (tree : X → Y) (count : Y → ℕ) (most : ℕ) → ((x : X) → P x → count (tree x) ≤ most) →
    (xs : List X) → AllIn P xs → sum_by count (map tree xs) ≤ length xs * most
sum_few P tree count most each [] h = omega arith
sum_few P tree count most each (x ∷ xs) h =
    let sum = sum_by-cons count (tree x) (map tree xs) in
    let product = suc-mul (length xs) most in
    let one = each x h.0 in
    let others = sum_few P tree count most each xs h.1 in omega (arith, sum, product, one, others)

one_at_most : {T : Type 0} (o : Option T) → if_there o ≤ 1
one_at_most None = omega arith
one_at_most (Some x) = omega arith

-- ---- steps and points

path_few : (s : Scope) (points : List Point) (p : Path) → IsPathSaid s points p → path_statements (path_tree s points p) ≤ 18
path_few s points p h = let same = length-map p.actions (action_statement_tree s) in let few = h.few_actions in omega (arith, same, few)

paths_few : (s : Scope) (points : List Point) (ps : List Path) → length ps ≤ 16 → ArePathsSaid s points ps →
    path_statements (first_path s points ps) + sum_by path_statements (map (path_tree s points) (drop 1 ps)) ≤ 288
paths_few s points [] few h = absurd h
paths_few s points (p ∷ ps) few h =
    let first = path_few s points p h.0 in
    let others = sum_few (IsPathSaid s points) (path_tree s points) path_statements 18 (path_few s points) ps h.1 in
    omega (arith, few, first, others)

step_few : (s : Scope) (points : List Point) (st : Step) → IsStepSaid s points st → step_statements (step_tree s points st) ≤ 321
step_few s points st h =
    let same = length-map st.reads (read_statement_tree s) in
    let few = h.few_reads in
    let paths = paths_few s points st.paths h.few_paths h.paths in omega (arith, same, few, paths)

point_few : (s : Scope) (points : List Point) (p : Point) → IsPointSaid s points p → point_statements (point_tree s points p) ≤ 708
point_few s points p h =
    let variant = one_at_most (variant_tree s.names p.variant) in
    let same = length-map p.clauses (clause_tree s) in
    let few = h.few_clauses in
    let next = step_few s points p.next h.next in
    let undo = step_few s points p.undo h.undo in omega (arith, variant, same, few, next, undo)

points_few : (s : Scope) (points ps : List Point) → length ps ≤ 32 → ArePointsSaid s points ps →
    point_statements (first_point s points ps) + sum_by point_statements (map (point_tree s points) (drop 1 ps)) ≤ 22656
points_few s points [] few h = absurd h
points_few s points (p ∷ ps) few h =
    let first = point_few s points p h.0 in
    let others = sum_few (IsPointSaid s points) (point_tree s points) point_statements 708 (point_few s points) ps h.1 in
    omega (arith, few, first, others)

-- ---- types and the whole

type_few : (tables : List Table) (t : TxType) → IsTypeSaid tables t → type_statements (type_tree tables t) ≤ 22788
type_few tables t h =
    let s = within tables t in
    let returns = one_at_most (names_tree (map (name_at t.locals) t.returns)) in
    let locals = one_at_most (names_tree (drop t.params t.locals)) in
    let posts = length-map t.posts (clause_tree s) in
    let few_posts = h.few_posts in
    let repairs = length-map t.repairs (clause_tree s) in
    let few_repairs = h.few_repairs in
    let points = points_few s t.points t.points h.few_points h.points in
    omega (arith, returns, locals, posts, few_posts, repairs, few_repairs, points)

pub few_statements : (d : Design) → IsSaid d → statements_of (tree_of d) < 2 ^ 64 - 1
unfolding statements_of
few_statements d h =
    let tables = length-map d.tables table_tree in
    let few_tables = h.few_tables in
    let always = length-map d.always (clause_tree (outside d.tables)) in
    let few_always = h.few_always in
    let types = sum_few (IsTypeSaid d.tables) (type_tree d.tables) type_statements 22788 (type_few d.tables) d.types h.types in
    let few_types = h.few_types in
    let entries = length-map d.entries (entry_tree d) in
    let few_entries = h.few_entries in
    let hints = length-map d.hints (hint_tree d) in
    let few_hints = h.few_hints in omega (
      arith,
      tables,
      few_tables,
      always,
      few_always,
      types,
      few_types,
      entries,
      few_entries,
      hints,
      few_hints,
    )
