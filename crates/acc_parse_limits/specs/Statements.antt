-- The marks on a design's statements, part by part.
use Rattle.std.specs.Prelude.{ℕ, ◌+◌, ◌-◌, ◌||◌, List, [], ◌++◌, length, Option, Some, None, nat_lt}
use Rattle.std.specs.List.{flat_map}
use Rattle.acc_base.specs.declared.bounds.TheConstants.{MOST_ACTIONS, MOST_ALWAYS, MOST_CLAUSES, MOST_COLUMNS, MOST_ENTRIES, MOST_HINTS}
use Rattle.acc_base.specs.declared.bounds.TheConstants.{MOST_KEY_PARTS}
use Rattle.acc_base.specs.declared.bounds.TheConstants.{MOST_LOCALS, MOST_PATHS, MOST_POINTS, MOST_READS, MOST_TABLES, MOST_TYPES}
use Rattle.acc_parse_syntax.specs.declared.trees.Sum.{Sum}
use Rattle.acc_parse_syntax.specs.declared.trees.Sums.{Sums}
use Rattle.acc_parse_syntax.specs.declared.trees.Names.{Names}
use Rattle.acc_parse_syntax.specs.declared.trees.ClauseTree.{ClauseTree}
use Rattle.acc_parse_syntax.specs.declared.trees.TableTree.{TableTree}
use Rattle.acc_parse_syntax.specs.declared.trees.ReadTree.{ReadTree}
use Rattle.acc_parse_syntax.specs.declared.trees.ReadTree.TheVariants as read
use Rattle.acc_parse_syntax.specs.declared.trees.ActionTree.{ActionTree}
use Rattle.acc_parse_syntax.specs.declared.trees.ActionTree.TheVariants as action
use Rattle.acc_parse_syntax.specs.declared.trees.TargetTree.{TargetTree}
use Rattle.acc_parse_syntax.specs.declared.trees.TargetTree.TheVariants as target
use Rattle.acc_parse_syntax.specs.declared.trees.PathTree.{PathTree}
use Rattle.acc_parse_syntax.specs.declared.trees.StepTree.{StepTree}
use Rattle.acc_parse_syntax.specs.declared.trees.PointTree.{PointTree}
use Rattle.acc_parse_syntax.specs.declared.trees.TypeTree.{TypeTree}
use Rattle.acc_parse_syntax.specs.declared.trees.EntryTree.{EntryTree}
use Rattle.acc_parse_syntax.specs.declared.trees.HintTree.{HintTree}
use Rattle.acc_parse_syntax.specs.declared.trees.DesignTree.{DesignTree}
use Rattle.acc_base.specs.declared.limits.Limit.TheVariants as limit
use Rattle.acc_parse_limits.specs.Marks.{Mark, ending, past, limited}
use Rattle.acc_parse_limits.specs.Words.{name_marks, number_marks, small_number_marks, names_marks, variable_marks, sum_marks, sums_marks}
use Rattle.acc_parse_limits.specs.Words.{place_marks, cell_marks, guard_marks, clause_marks, point_name_marks, pairs_marks}

-- ---- single statements

-- a key has 1 to 6 components; at most 12 columns
abbrev pub table_marks : TableTree → List Mark
table_marks t =
    past limit.KeyWidth (nat_lt t.width 1 || nat_lt MOST_KEY_PARTS t.width) ++ (
    past limit.Columns (nat_lt MOST_COLUMNS (length t.columns)) ++ (
    name_marks t.name ++ (number_marks t.width ++ (flat_map name_marks t.columns ++ ending))))

-- `always`, `ensures`, `repairs` or `holds`
abbrev pub clause_statement_marks : ClauseTree → List Mark
clause_statement_marks c = clause_marks c ++ ending

abbrev pub read_words_marks : ReadTree → List Mark
read_words_marks (read.Let x v) = variable_marks x ++ sum_marks v
read_words_marks (read.Get x c) = variable_marks x ++ cell_marks c
read_words_marks (read.Has x p) = variable_marks x ++ place_marks p
read_words_marks (read.Count x p) = variable_marks x ++ place_marks p
read_words_marks (read.Sum x c) = variable_marks x ++ cell_marks c
read_words_marks (read.Least x p) = variable_marks x ++ place_marks p
read_words_marks (read.Greatest x p) = variable_marks x ++ place_marks p
read_words_marks (read.Take x) = variable_marks x
read_words_marks (read.Mul x a b) = variable_marks x ++ (variable_marks a ++ variable_marks b)
read_words_marks (read.Div x a n) = variable_marks x ++ (variable_marks a ++ number_marks n)

abbrev pub read_marks : ReadTree → List Mark
read_marks r = read_words_marks r ++ ending

abbrev pub values_marks : Option Sums → List Mark
values_marks None = []
values_marks (Some vs) = sums_marks vs

abbrev pub action_words_marks : ActionTree → List Mark
action_words_marks (action.Put p vs) = place_marks p ++ values_marks vs
action_words_marks (action.Del p) = place_marks p
action_words_marks (action.Set c v) = cell_marks c ++ sum_marks v
action_words_marks (action.Add c v) = cell_marks c ++ sum_marks v

abbrev pub action_marks : ActionTree → List Mark
action_marks a = action_words_marks a ++ ending

abbrev pub target_words_marks : TargetTree → List Mark
target_words_marks (target.Goto x) = name_marks x
target_words_marks target.Commit = []
target_words_marks target.Undone = []
target_words_marks (target.Refuse n) = small_number_marks n

abbrev pub target_marks : TargetTree → List Mark
target_marks t = target_words_marks t ++ ending

-- `returns`, which may be left out
abbrev pub returns_marks : Option Names → List Mark
returns_marks None = []
returns_marks (Some ns) = names_marks ns ++ ending

-- `local`, which may be left out, behind so many parameters: at most 48 locals, the parameters among them
abbrev pub locals_marks : ℕ → Option Names → List Mark
locals_marks params None = []
locals_marks params (Some ns) =
    past limit.Locals (nat_lt (MOST_LOCALS - 1) (params + length ns.others)) ++ (names_marks ns ++ ending)

-- `variant`, which may be left out
abbrev pub variant_marks : Option Sum → List Mark
variant_marks None = []
variant_marks (Some v) = sum_marks v ++ ending

abbrev pub entry_marks : EntryTree → List Mark
entry_marks e = point_name_marks e.held ++ (point_name_marks e.by ++ (pairs_marks e.pairs ++ ending))

abbrev pub hint_marks : HintTree → List Mark
hint_marks h = point_name_marks h.of ++ (sum_marks h.value ++ ending)

-- ---- the parts of a type

-- `path` with its guard, at most 16 actions, and the target
abbrev pub path_marks : PathTree → List Mark
path_marks p = guard_marks p.guard ++ (ending ++ (limited limit.Actions MOST_ACTIONS action_marks p.actions ++ target_marks p.target))

-- `next` or `undo`, at most 32 reads, and at most 16 paths: a first one, and 15 others
abbrev pub step_marks : StepTree → List Mark
step_marks s =
    ending ++ (
    limited limit.Reads MOST_READS read_marks s.reads ++ (
    path_marks s.first ++ limited limit.Paths (MOST_PATHS - 1) path_marks s.others))

-- `point` with its name, the variant, at most 64 clauses that hold, and the two steps
abbrev pub point_marks : PointTree → List Mark
point_marks p =
    name_marks p.name ++ (ending ++ (
    variant_marks p.variant ++ (
    limited limit.Clauses MOST_CLAUSES clause_statement_marks p.holds ++ (
    step_marks p.next ++ step_marks p.undo))))

-- `type` with its name and parameters, and the number of steps
abbrev pub head_marks : TypeTree → List Mark
head_marks t =
    past limit.Locals (nat_lt MOST_LOCALS (length t.params)) ++ (
    name_marks t.name ++ (flat_map name_marks t.params ++ (ending ++ (
    small_number_marks t.limit ++ ending))))

-- a type: at most 64 clauses that it ensures, 64 that it repairs, and 32 points: a first one, and 31 others
abbrev pub type_marks : TypeTree → List Mark
type_marks t =
    head_marks t ++ (
    returns_marks t.returns ++ (
    locals_marks (length t.params) t.locals ++ (
    limited limit.Clauses MOST_CLAUSES clause_statement_marks t.ensured ++ (
    limited limit.Clauses MOST_CLAUSES clause_statement_marks t.repaired ++ (
    point_marks t.first ++ limited limit.Points (MOST_POINTS - 1) point_marks t.others)))))

-- ---- the whole text

-- at most 64 tables, 128 clauses that hold always, 64 types, 1,024 entries and 1,024 hints
abbrev pub design_marks : DesignTree → List Mark
design_marks d =
    limited limit.Tables MOST_TABLES table_marks d.tables ++ (
    limited limit.AlwaysClauses MOST_ALWAYS clause_statement_marks d.always ++ (
    limited limit.Types MOST_TYPES type_marks d.types ++ (
    limited limit.EntriesAndHints MOST_ENTRIES entry_marks d.entries ++ limited limit.EntriesAndHints MOST_HINTS hint_marks d.hints)))
