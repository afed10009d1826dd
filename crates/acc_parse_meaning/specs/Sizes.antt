-- Which statements pass the limit of numbers by what is collected: a coefficient or a constant that isn't within 2^45 of 0.
-- The numbers as they are written are a matter of the limits of a text.
use Rattle.std.specs.Prelude.{ℕ, List, [], ◌++◌, Option, Some, None}
use Rattle.std.specs.List.{flat_map}
use Rattle.acc_base.specs.declared.limits.Limit.{Limit}
use Rattle.acc_parse_limits.specs.Marks.{Mark, ending}
use Rattle.acc_parse_limits.specs.Faults.{placed}
use Rattle.acc_parse_syntax.specs.declared.trees.Sum.{Sum}
use Rattle.acc_parse_syntax.specs.declared.trees.Names.{Names}
use Rattle.acc_parse_syntax.specs.declared.trees.ReadTree.{ReadTree}
use Rattle.acc_parse_syntax.specs.declared.trees.ReadTree.TheVariants as read_tree
use Rattle.acc_parse_syntax.specs.declared.trees.ActionTree.{ActionTree}
use Rattle.acc_parse_syntax.specs.declared.trees.ActionTree.TheVariants as action_tree
use Rattle.acc_parse_syntax.specs.declared.trees.TableTree.{TableTree}
use Rattle.acc_parse_syntax.specs.declared.trees.PathTree.{PathTree}
use Rattle.acc_parse_syntax.specs.declared.trees.StepTree.{StepTree}
use Rattle.acc_parse_syntax.specs.declared.trees.PointTree.{PointTree}
use Rattle.acc_parse_syntax.specs.declared.trees.TypeTree.{TypeTree}
use Rattle.acc_parse_syntax.specs.declared.trees.EntryTree.{EntryTree}
use Rattle.acc_parse_syntax.specs.declared.trees.HintTree.{HintTree}
use Rattle.acc_parse_syntax.specs.declared.trees.DesignTree.{DesignTree}
use Rattle.acc_parse_names.specs.Scopes.{points_in}
use Rattle.acc_parse_clauses.specs.Scopes.{Variables, Scope}
use Rattle.acc_parse_clauses.specs.Sizes.{sum_sizes, values_sizes, guard_sizes, place_sizes, clause_statement_sizes}
use Rattle.acc_parse_meaning.specs.Steps.{all_paths}
use Rattle.acc_parse_meaning.specs.Types.{type_scope}
use Rattle.acc_parse_meaning.specs.Designs.{outside, variables_at}

-- ---- steps

abbrev pub read_words_sizes : Scope → ReadTree → List Mark
read_words_sizes s (read_tree.Let x v) = sum_sizes s.variables v
read_words_sizes s (read_tree.Get x c) = place_sizes s c.place
read_words_sizes s (read_tree.Has x p) = place_sizes s p
read_words_sizes s (read_tree.Count x p) = place_sizes s p
read_words_sizes s (read_tree.Sum x c) = place_sizes s c.place
read_words_sizes s (read_tree.Least x p) = place_sizes s p
read_words_sizes s (read_tree.Greatest x p) = place_sizes s p
read_words_sizes s (read_tree.Take x) = []
read_words_sizes s (read_tree.Mul x a b) = []
read_words_sizes s (read_tree.Div x a n) = []

abbrev pub read_sizes : Scope → ReadTree → List Mark
read_sizes s r = read_words_sizes s r ++ ending

abbrev pub action_words_sizes : Scope → ActionTree → List Mark
action_words_sizes s (action_tree.Put p vs) = place_sizes s p ++ values_sizes s.variables vs
action_words_sizes s (action_tree.Del p) = place_sizes s p
action_words_sizes s (action_tree.Set c v) = place_sizes s c.place ++ sum_sizes s.variables v
action_words_sizes s (action_tree.Add c v) = place_sizes s c.place ++ sum_sizes s.variables v

abbrev pub action_sizes : Scope → ActionTree → List Mark
action_sizes s a = action_words_sizes s a ++ ending

-- `path` with its guard, the actions, the target
abbrev pub path_sizes : Scope → PathTree → List Mark
path_sizes s p = guard_sizes s.variables p.guard ++ (ending ++ (flat_map (action_sizes s) p.actions ++ ending))

-- `next` or `undo`, the reads, the paths
abbrev pub step_sizes : Scope → StepTree → List Mark
step_sizes s st = ending ++ (flat_map (read_sizes s) st.reads ++ flat_map (path_sizes s) (all_paths st))

-- ---- points and types

abbrev pub variant_sizes : Variables → Option Sum → List Mark
variant_sizes v None = []
variant_sizes v (Some s) = sum_sizes v s ++ ending

-- `point` with its name, the variant, what holds, the two steps
abbrev pub point_sizes : Scope → PointTree → List Mark
point_sizes s p =
    ending ++ (variant_sizes s.variables p.variant
    ++ (flat_map (clause_statement_sizes s) p.holds ++ (step_sizes s p.next ++ step_sizes s p.undo)))

-- `returns` or `local`, which may be left out
abbrev pub names_sizes : Option Names → List Mark
names_sizes None = []
names_sizes (Some ns) = ending

-- `type` with its names, `limit`, `returns`, `local`, what is ensured and repaired, the points
abbrev pub type_sizes : List TableTree → TypeTree → List Mark
type_sizes tables t =
    ending ++ (ending ++ (names_sizes t.returns ++ (names_sizes t.locals ++ (
    flat_map (clause_statement_sizes (type_scope tables t)) t.ensured ++ (
    flat_map (clause_statement_sizes (type_scope tables t)) t.repaired ++
    flat_map (point_sizes (type_scope tables t)) (points_in t))))))

-- ---- the whole text

abbrev pub table_sizes : TableTree → List Mark
table_sizes t = ending

abbrev pub entry_sizes : EntryTree → List Mark
entry_sizes e = ending

abbrev pub hint_sizes : List TypeTree → HintTree → List Mark
hint_sizes types h = sum_sizes (variables_at types h.of) h.value ++ ending

abbrev pub design_sizes : DesignTree → List Mark
design_sizes d =
    flat_map table_sizes d.tables ++ (
    flat_map (clause_statement_sizes (outside d.tables)) d.always ++ (
    flat_map (type_sizes d.tables) d.types ++ (
    flat_map entry_sizes d.entries ++ flat_map (hint_sizes d.types) d.hints)))

-- the statements, by their numbers from 0, that pass the limit of numbers by what is collected
unfoldable pub size_faults : DesignTree → List (ℕ × Limit)
size_faults d = placed 0 (design_sizes d)
