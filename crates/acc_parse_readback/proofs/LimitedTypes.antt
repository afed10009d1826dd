-- Printed types pass no limit.
use Rattle.std.proofs.Common.{◌≡◌, ℕ, ◌+◌, ◌≤◌, Bool, true, false, List, [], ◌∷◌, ◌++◌, length, length-append, Some, None, ap, arith, take}
use Rattle.std.proofs.Common.{drop}
use Rattle.std.specs.Prelude.{map, if◌then◌else◌}
use Rattle.std.specs.List.{flat_map}
use Rattle.std.proofs.lemmas.List.{take-append-drop}
use Rattle.acc_grammar.specs.Readers.{AllIn}
use Rattle.acc_base.specs.declared.forms.Lin.{Lin}
use Rattle.acc_base.specs.declared.tables.Table.{Table}
use Rattle.acc_base.specs.declared.designs.Point.{Point}
use Rattle.acc_base.specs.declared.designs.TxType.{TxType}
use Rattle.acc_parse_syntax.specs.declared.trees.Sum.{Sum}
use Rattle.acc_parse_syntax.specs.declared.trees.PointTree.{PointTree}
use Rattle.acc_base.specs.declared.limits.Limit.TheVariants as limit
use Rattle.acc_parse_limits.specs.Marks.{ending, limited}
use Rattle.acc_parse_limits.specs.Words.{name_marks, small_number_marks, sum_marks}
use Rattle.acc_parse_limits.specs.Statements.{clause_statement_marks, returns_marks, locals_marks, variant_marks, step_marks, point_marks}
use Rattle.acc_parse_limits.specs.Statements.{head_marks, type_marks}
use Rattle.acc_print.specs.Names.{Scope, name_at, within}
use Rattle.acc_print.specs.Types.{is_zero}
use Rattle.acc_parse_readback.specs.Trees.{lin_tree, names_tree, clause_tree}
use Rattle.acc_parse_readback.specs.TypeTrees.{step_tree, variant_tree, point_tree, first_point, type_tree}
use Rattle.acc_parse_readback.specs.Printable.{IsName, IsLinSaid}
use Rattle.acc_parse_readback.specs.PrintableTypes.{IsPointSaid, ArePointsSaid, IsTypeSaid}
use Rattle.acc_parse_readback.proofs.OnlyEnds.{AreEnds, ends_behind, one_end}
use Rattle.acc_parse_readback.proofs.Mapped.{all_mapped}
use Rattle.acc_parse_readback.proofs.Ends.{not_above, ends_counted}
use Rattle.acc_parse_readback.proofs.LimitedValues.{name_ends, names_end, lin_ends, few_others}
use Rattle.acc_parse_readback.proofs.LimitedClauses.{clauses_end}
use Rattle.acc_parse_readback.proofs.LimitedSteps.{count_ends, step_ends}

-- ---- points

by_zero : (b : Bool) (v : Sum) → AreEnds (sum_marks v) → AreEnds (variant_marks (if b then None else Some v))
by_zero true v h = tt
by_zero false v h = ends_behind (sum_marks v) ending h one_end

variant_ends : (names : List (List ℕ)) (l : Lin) → IsLinSaid names l → AreEnds (variant_marks (variant_tree names l))
variant_ends names l h = by_zero (is_zero l.coeffs l.constant) (lin_tree names l) (lin_ends names l h)

point_ends : (s : Scope) (points : List Point) (p : Point) → IsPointSaid s points p → AreEnds (point_marks (point_tree s points p))
point_ends s points p h =
    ends_behind (name_marks p.name) _ (name_ends p.name h.name)
    (ends_behind ending _ one_end
    (ends_behind (variant_marks (variant_tree s.names p.variant)) _ (variant_ends s.names p.variant h.variant)
    (ends_behind (limited limit.Clauses 64 clause_statement_marks (map (clause_tree s) p.clauses)) _
    (ends_counted limit.Clauses 64 clause_statement_marks (map (clause_tree s) p.clauses)
    (few_others (clause_tree s) 64 p.clauses h.few_clauses) (clauses_end s p.clauses h.clauses))
    (ends_behind (step_marks (step_tree s points p.next)) (step_marks (step_tree s points p.undo)) (step_ends s points p.next h.next)
    (step_ends s points p.undo h.undo)))))

points_end : (s : Scope) (points ps : List Point) → length ps ≤ 32 → ArePointsSaid s points ps →
    AreEnds (point_marks (first_point s points ps) ++ limited limit.Points 31 point_marks (map (point_tree s points) (drop 1 ps)))
points_end s points [] few h = absurd h
points_end s points (p ∷ ps) few h =
    ends_behind (point_marks (point_tree s points p)) _ (point_ends s points p h.0)
    (ends_counted limit.Points 31 point_marks (map (point_tree s points) ps) (few_others (point_tree s points) 31 ps (omega arith))
    (all_mapped (IsPointSaid s points) (λ (t : PointTree). AreEnds (point_marks t)) (point_tree s points) (point_ends s points) ps h.1))

-- ---- the head of a type

returns_end : (xs : List (List ℕ)) → AllIn IsName xs → AreEnds (returns_marks (names_tree xs))
returns_end [] h = tt
returns_end (x ∷ xs) h = ends_behind (name_marks x ++ flat_map name_marks xs) ending (names_end (x ∷ xs) h) one_end

locals_end : (n : ℕ) (xs : List (List ℕ)) → n + length xs ≤ 48 → AllIn IsName xs → AreEnds (locals_marks n (names_tree xs))
locals_end n [] few h = tt
locals_end n (x ∷ xs) few h =
    ends_behind _ _ (not_above limit.Locals 47 (n + length xs) (omega arith))
    (ends_behind (name_marks x ++ flat_map name_marks xs) ending (names_end (x ∷ xs) h) one_end)

-- the parameters and what is behind them are as many as the locals
parted : (n : ℕ) (xs : List (List ℕ)) → length (take n xs) + length (drop n xs) ≡ length xs
parted n xs = omega (arith, length-append (take n xs) (drop n xs), ap (λ (ys : List (List ℕ)). length ys) (take-append-drop n xs))

head_ends : (tables : List Table) (t : TxType) → IsTypeSaid tables t → AreEnds (head_marks (type_tree tables t))
head_ends tables t h =
    let params = take t.params t.locals in
    ends_behind _ _ (not_above limit.Locals 48 (length params) (omega (arith, parted t.params t.locals, h.few_locals)))
    (ends_behind (name_marks t.name) _ (name_ends t.name h.name)
    (ends_behind (flat_map name_marks params) _ (names_end params h.parameters)
    (ends_behind ending _ one_end
    (ends_behind (small_number_marks t.limit) ending (count_ends t.limit h.limit) one_end))))

-- ---- types

pub type_ends : (tables : List Table) (t : TxType) → IsTypeSaid tables t → AreEnds (type_marks (type_tree tables t))
type_ends tables t h =
    let s = within tables t in
    let later = drop t.params t.locals in
    ends_behind (head_marks (type_tree tables t)) _ (head_ends tables t h)
    (ends_behind (returns_marks (names_tree (map (name_at t.locals) t.returns))) _
    (returns_end (map (name_at t.locals) t.returns) h.returns)
    (ends_behind (locals_marks (length (take t.params t.locals)) (names_tree later)) _
    (locals_end (length (take t.params t.locals)) later (omega (arith, parted t.params t.locals, h.few_locals)) h.locals)
    (ends_behind (limited limit.Clauses 64 clause_statement_marks (map (clause_tree s) t.posts)) _
    (ends_counted limit.Clauses 64 clause_statement_marks (map (clause_tree s) t.posts) (few_others (clause_tree s) 64 t.posts h.few_posts)
    (clauses_end s t.posts h.posts))
    (ends_behind (limited limit.Clauses 64 clause_statement_marks (map (clause_tree s) t.repairs)) _
    (ends_counted limit.Clauses 64 clause_statement_marks (map (clause_tree s) t.repairs)
    (few_others (clause_tree s) 64 t.repairs h.few_repairs) (clauses_end s t.repairs h.repairs))
    (points_end s t.points t.points h.few_points h.points)))))
