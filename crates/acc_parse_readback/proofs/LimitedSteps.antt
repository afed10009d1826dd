-- Printed steps pass no limit.
use Rattle.std.proofs.Common.{ℕ, ◌^◌, ◌≤◌, List, [], ◌∷◌, ◌++◌, length, arith}
use Rattle.std.specs.Prelude.{map, drop, slice_get, unsigned_abs}
use Rattle.acc_grammar.specs.Readers.{AllIn}
use Rattle.acc_base.specs.Lines.{point_name}
use Rattle.acc_base.specs.declared.forms.Lin.{Lin}
use Rattle.acc_base.specs.declared.steps.Read.{Read}
use Rattle.acc_base.specs.declared.steps.Read.TheVariants as read
use Rattle.acc_base.specs.declared.steps.Action.{Action}
use Rattle.acc_base.specs.declared.steps.Action.TheVariants as action
use Rattle.acc_base.specs.declared.steps.Target.{Target}
use Rattle.acc_base.specs.declared.steps.Target.TheVariants as target
use Rattle.acc_base.specs.declared.steps.Path.{Path}
use Rattle.acc_base.specs.declared.steps.Step.{Step}
use Rattle.acc_base.specs.declared.designs.Point.{Point}
use Rattle.acc_parse_syntax.specs.declared.trees.ReadTree.{ReadTree}
use Rattle.acc_parse_syntax.specs.declared.trees.ActionTree.{ActionTree}
use Rattle.acc_parse_syntax.specs.declared.trees.PathTree.{PathTree}
use Rattle.acc_base.specs.declared.limits.Limit.TheVariants as limit
use Rattle.acc_parse_limits.specs.Marks.{ending, limited}
use Rattle.acc_parse_limits.specs.Words.{number_marks, small_number_marks, variable_marks, sum_marks, place_marks, cell_marks, guard_marks}
use Rattle.acc_parse_limits.specs.Statements.{read_words_marks, read_marks, values_marks, action_words_marks, action_marks, target_words_marks}
use Rattle.acc_parse_limits.specs.Statements.{target_marks, path_marks, step_marks}
use Rattle.acc_print.specs.Names.{Scope, name_at}
use Rattle.acc_parse_readback.specs.Trees.{variable_tree, lin_tree, place_tree, cell_tree, guard_tree}
use Rattle.acc_parse_readback.specs.TypeTrees.{read_statement_tree, values_tree, action_statement_tree, target_statement_tree, path_tree}
use Rattle.acc_parse_readback.specs.TypeTrees.{first_path, step_tree}
use Rattle.acc_parse_readback.specs.Printable.{IsVariable, IsLinSaid}
use Rattle.acc_parse_readback.specs.PrintableTypes.{IsCount, IsReadSaid, IsActionSaid, IsTargetSaid, IsPathSaid, ArePathsSaid, IsStepSaid}
use Rattle.acc_parse_readback.proofs.OnlyEnds.{AreEnds, ends_behind, one_end}
use Rattle.acc_parse_readback.proofs.Mapped.{all_mapped}
use Rattle.acc_parse_readback.proofs.Ends.{not_reached, ends_counted}
use Rattle.acc_parse_readback.proofs.LimitedValues.{name_ends, number_ends, variable_ends, lin_ends, sums_end, row_ends, cell_ends, guard_ends}
use Rattle.acc_parse_readback.proofs.LimitedValues.{few_others}

-- ---- reads

variable_at : (s : Scope) (x : ℕ) → IsVariable (name_at s.names x) → AreEnds (variable_marks (variable_tree s.names x))
variable_at s x h = variable_ends (name_at s.names x) h

read_words_end : (s : Scope) (r : Read) → IsReadSaid s r → AreEnds (read_words_marks (read_statement_tree s r))
read_words_end s (read.Let x v) h = ends_behind (variable_marks (variable_tree s.names x)) (sum_marks (lin_tree s.names v))
    (variable_at s x h.0) (lin_ends s.names v h.1)
read_words_end s (read.Col x table key column) h =
    ends_behind (variable_marks (variable_tree s.names x)) (cell_marks (cell_tree s table key column)) (variable_at s x h.0)
    (cell_ends s table key column h.1)
read_words_end s (read.Has x table key) h = ends_behind (variable_marks (variable_tree s.names x)) (place_marks (place_tree s table key))
    (variable_at s x h.0) (row_ends s table key h.1)
read_words_end s (read.Count x table key) h = ends_behind (variable_marks (variable_tree s.names x)) (place_marks (place_tree s table key))
    (variable_at s x h.0) (row_ends s table key h.1)
read_words_end s (read.Sum x table key column) h =
    ends_behind (variable_marks (variable_tree s.names x)) (cell_marks (cell_tree s table key column)) (variable_at s x h.0)
    (cell_ends s table key column h.1)
read_words_end s (read.Least x table key) h = ends_behind (variable_marks (variable_tree s.names x)) (place_marks (place_tree s table key))
    (variable_at s x h.0) (row_ends s table key h.1)
read_words_end s (read.Greatest x table key) h =
    ends_behind (variable_marks (variable_tree s.names x)) (place_marks (place_tree s table key)) (variable_at s x h.0)
    (row_ends s table key h.1)
read_words_end s (read.Take x) h = variable_at s x h
read_words_end s (read.Mul x a b) h =
    ends_behind (variable_marks (variable_tree s.names x)) _ (variable_at s x h.0)
    (ends_behind (variable_marks (variable_tree s.names a)) (variable_marks (variable_tree s.names b)) (variable_at s a h.1)
    (variable_at s b h.2))
read_words_end s (read.Div x a n) h =
    ends_behind (variable_marks (variable_tree s.names x)) _ (variable_at s x h.0)
    (ends_behind (variable_marks (variable_tree s.names a)) (number_marks (unsigned_abs n)) (variable_at s a h.1) (number_ends n h.3))

read_ends : (s : Scope) (r : Read) → IsReadSaid s r → AreEnds (read_marks (read_statement_tree s r))
read_ends s r h = ends_behind (read_words_marks (read_statement_tree s r)) ending (read_words_end s r h) one_end

-- ---- actions and targets

values_end : (names : List (List ℕ)) (ls : List Lin) → AllIn (IsLinSaid names) ls → AreEnds (values_marks (values_tree names ls))
values_end names [] h = tt
values_end names (l ∷ ls) h = sums_end names l ls h

action_words_end : (s : Scope) (a : Action) → IsActionSaid s a → AreEnds (action_words_marks (action_statement_tree s a))
action_words_end s (action.Put table key vs) h =
    ends_behind (place_marks (place_tree s table key)) (values_marks (values_tree s.names vs)) (row_ends s table key h.0)
    (values_end s.names vs h.1)
action_words_end s (action.Del table key) h = row_ends s table key h
action_words_end s (action.Set table key column v) h =
    ends_behind (cell_marks (cell_tree s table key column)) (sum_marks (lin_tree s.names v)) (cell_ends s table key column h.0)
    (lin_ends s.names v h.1)
action_words_end s (action.Add table key column v) h =
    ends_behind (cell_marks (cell_tree s table key column)) (sum_marks (lin_tree s.names v)) (cell_ends s table key column h.0)
    (lin_ends s.names v h.1)

action_ends : (s : Scope) (a : Action) → IsActionSaid s a → AreEnds (action_marks (action_statement_tree s a))
action_ends s a h = ends_behind (action_words_marks (action_statement_tree s a)) ending (action_words_end s a h) one_end

pub count_ends : (n : ℕ) → IsCount n → AreEnds (small_number_marks n)
count_ends n h = not_reached limit.NumberSize (2 ^ 32) n h

target_words_end : (points : List Point) (t : Target) → IsTargetSaid points t →
    AreEnds (target_words_marks (target_statement_tree points t))
target_words_end points (target.Point n) h = name_ends (point_name (slice_get points n)) h
target_words_end points target.Commit h = tt
target_words_end points target.Undone h = tt
target_words_end points (target.Refuse n) h = count_ends n h

target_ends : (points : List Point) (t : Target) → IsTargetSaid points t → AreEnds (target_marks (target_statement_tree points t))
target_ends points t h = ends_behind (target_words_marks (target_statement_tree points t)) ending (target_words_end points t h) one_end

-- ---- paths and steps

path_ends : (s : Scope) (points : List Point) (p : Path) → IsPathSaid s points p → AreEnds (path_marks (path_tree s points p))
path_ends s points p h =
    ends_behind (guard_marks (guard_tree s.names p.guard)) _ (guard_ends s.names p.guard h.few_relations h.guard)
    (ends_behind ending _ one_end
    (ends_behind (limited limit.Actions 16 action_marks (map (action_statement_tree s) p.actions))
    (target_marks (target_statement_tree points p.target))
    (ends_counted limit.Actions 16 action_marks (map (action_statement_tree s) p.actions)
    (few_others (action_statement_tree s) 16 p.actions h.few_actions)
    (all_mapped (IsActionSaid s) (λ (t : ActionTree). AreEnds (action_marks t)) (action_statement_tree s) (action_ends s) p.actions
    h.actions))
    (target_ends points p.target h.target)))

paths_end : (s : Scope) (points : List Point) (ps : List Path) → length ps ≤ 16 → ArePathsSaid s points ps →
    AreEnds (path_marks (first_path s points ps) ++ limited limit.Paths 15 path_marks (map (path_tree s points) (drop 1 ps)))
paths_end s points [] few h = absurd h
paths_end s points (p ∷ ps) few h =
    ends_behind (path_marks (path_tree s points p)) _ (path_ends s points p h.0)
    (ends_counted limit.Paths 15 path_marks (map (path_tree s points) ps) (few_others (path_tree s points) 15 ps (omega arith))
    (all_mapped (IsPathSaid s points) (λ (t : PathTree). AreEnds (path_marks t)) (path_tree s points) (path_ends s points) ps h.1))

pub step_ends : (s : Scope) (points : List Point) (st : Step) → IsStepSaid s points st → AreEnds (step_marks (step_tree s points st))
step_ends s points st h =
    ends_behind ending _ one_end
    (ends_behind (limited limit.Reads 32 read_marks (map (read_statement_tree s) st.reads)) _
    (ends_counted limit.Reads 32 read_marks (map (read_statement_tree s) st.reads)
    (few_others (read_statement_tree s) 32 st.reads h.few_reads)
    (all_mapped (IsReadSaid s) (λ (t : ReadTree). AreEnds (read_marks t)) (read_statement_tree s) (read_ends s) st.reads h.reads))
    (paths_end s points st.paths h.few_paths h.paths))
