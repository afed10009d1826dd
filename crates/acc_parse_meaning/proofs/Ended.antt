-- Each collected number that is too large stands at one of the statements, since each part ends with a statement's end.
use Rattle.std.proofs.Common.{◌+◌, ◌<◌, List, [], ◌∷◌, All, arith, append-nil, ◌∙◌}
use Rattle.std.specs.List.{flat_map}
use Rattle.acc_parse_syntax.specs.declared.trees.ClauseTree.{ClauseTree}
use Rattle.acc_parse_syntax.specs.declared.trees.TableTree.{TableTree}
use Rattle.acc_parse_syntax.specs.declared.trees.PathTree.{PathTree}
use Rattle.acc_parse_syntax.specs.declared.trees.StepTree.{StepTree}
use Rattle.acc_parse_syntax.specs.declared.trees.PointTree.{PointTree}
use Rattle.acc_parse_syntax.specs.declared.trees.TypeTree.{TypeTree}
use Rattle.acc_parse_syntax.specs.declared.trees.HintTree.{HintTree}
use Rattle.acc_parse_syntax.specs.declared.trees.DesignTree.{DesignTree}
use Rattle.acc_parse_statements.specs.Counts.{statements_of}
use Rattle.acc_parse_limits.specs.Marks.{Mark, ending}
use Rattle.acc_parse_limits.specs.Faults.{placed}
use Rattle.acc_parse_limits.proofs.WordEndings.{endings}
use Rattle.acc_parse_limits.proofs.Ended.{AreEnded, EndsLast, under_more, ended_last, ended_nil, ended_append, last_end, last_behind}
use Rattle.acc_parse_clauses.specs.Scopes.{Scope}
use Rattle.acc_parse_meaning.specs.Designs.{outside}
use Rattle.acc_parse_meaning.specs.Types.{type_scope}
use Rattle.acc_parse_clauses.specs.Sizes.{clause_statement_sizes}
use Rattle.acc_parse_meaning.specs.Sizes.{path_sizes, step_sizes, point_sizes, names_sizes, type_sizes, table_sizes}
use Rattle.acc_parse_meaning.specs.Sizes.{entry_sizes, hint_sizes, design_sizes, size_faults}
use Rattle.acc_parse_meaning.proofs.Endings.{design_endings}

-- ---- items, one behind another

ended_each : {T : Type 0} (marks : T → List Mark) (xs : List T) → ((x : T) → EndsLast (marks x)) → AreEnded (flat_map marks xs)
ended_each marks [] f = ended_nil
ended_each marks (x ∷ xs) f = ended_append (marks x) (flat_map marks xs) (ended_last (marks x) (f x)) (ended_each marks xs f)

-- a first item, and others
last_each : {T : Type 0} (marks : T → List Mark) (x : T) (xs : List T) → ((y : T) → EndsLast (marks y)) → EndsLast (flat_map marks (x ∷ xs))
last_each marks x [] f = record { front = (f x).front; same = append-nil (marks x) ∙ (f x).same }
last_each marks x (y ∷ ys) f = last_behind (marks x) (flat_map marks (y ∷ ys)) (last_each marks y ys f)

-- ---- the parts of a design

clause_last : (s : Scope) (c : ClauseTree) → EndsLast (clause_statement_sizes s c)
clause_last s c = last_behind _ ending last_end

path_last : (s : Scope) (p : PathTree) → EndsLast (path_sizes s p)
path_last s p = last_behind _ _ (last_behind ending _ (last_behind _ ending last_end))

step_last : (s : Scope) (st : StepTree) → EndsLast (step_sizes s st)
step_last s st = last_behind ending _ (last_behind _ _ (last_each (path_sizes s) st.first st.others (path_last s)))

point_last : (s : Scope) (p : PointTree) → EndsLast (point_sizes s p)
point_last s p = last_behind ending _ (last_behind _ _
    (last_behind _ _ (last_behind (step_sizes s p.next) (step_sizes s p.undo) (step_last s p.undo))))

type_last : (tables : List TableTree) (t : TypeTree) → EndsLast (type_sizes tables t)
type_last tables t =
    let s = type_scope tables t in
    last_behind ending _ (last_behind ending _ (last_behind (names_sizes t.returns) _
    (last_behind (names_sizes t.locals) _ (last_behind (flat_map (clause_statement_sizes s) t.ensured) _
    (last_behind (flat_map (clause_statement_sizes s) t.repaired) _ (last_each (point_sizes s) t.first t.others (point_last s)))))))

hint_last : (types : List TypeTree) (h : HintTree) → EndsLast (hint_sizes types h)
hint_last types h = last_behind _ ending last_end

design_ended : (d : DesignTree) → AreEnded (design_sizes d)
design_ended d =
    ended_append _ _ (ended_each table_sizes d.tables (λ t. last_end)) (
    ended_append _ _ (ended_each (clause_statement_sizes (outside d.tables)) d.always (clause_last (outside d.tables))) (
    ended_append _ _ (ended_each (type_sizes d.tables) d.types (type_last d.tables)) (
    ended_append _ _ (ended_each entry_sizes d.entries (λ e. last_end)) (ended_each (hint_sizes d.types) d.hints (hint_last d.types)))))

-- each of them stands at one of the statements
pub faults_within : (d : DesignTree) → All (λ f. f.0 < statements_of d) (size_faults d)
unfolding size_faults
faults_within d = under_more (0 + endings (design_sizes d)) (statements_of d) (placed 0 (design_sizes d)) (omega (arith, design_endings d))
    ((design_ended d).under 0)
