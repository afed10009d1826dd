-- In the marks on a design as many statements end as it has.
use Rattle.std.proofs.Common.{◌≡◌, ℕ, ◌+◌, ◌==◌, List, [], ◌∷◌, ◌++◌, length, nat_lt, ◌||◌, Option, Some, None, arith}
use Rattle.std.specs.Prelude.{sum_by}
use Rattle.std.specs.List.{flat_map}
use Rattle.std.proofs.lemmas.List.Sums.{sum_by-cons}
use Rattle.acc_parse_syntax.specs.declared.trees.Sum.{Sum}
use Rattle.acc_parse_syntax.specs.declared.trees.Sums.{Sums}
use Rattle.acc_parse_syntax.specs.declared.trees.Names.{Names}
use Rattle.acc_parse_syntax.specs.declared.trees.ClauseTree.{ClauseTree}
use Rattle.acc_parse_syntax.specs.declared.trees.TableTree.{TableTree}
use Rattle.acc_parse_syntax.specs.declared.trees.ReadTree.{ReadTree}
use Rattle.acc_parse_syntax.specs.declared.trees.ReadTree.TheVariants as read
use Rattle.acc_parse_syntax.specs.declared.trees.ActionTree.{ActionTree}
use Rattle.acc_parse_syntax.specs.declared.trees.ActionTree.TheVariants as action
use Rattle.acc_parse_syntax.specs.declared.trees.TargetTree.{TargetTree}
use Rattle.acc_parse_syntax.specs.declared.trees.TargetTree.TheVariants as target
use Rattle.acc_parse_syntax.specs.declared.trees.PathTree.{PathTree}
use Rattle.acc_parse_syntax.specs.declared.trees.StepTree.{StepTree}
use Rattle.acc_parse_syntax.specs.declared.trees.PointTree.{PointTree}
use Rattle.acc_parse_syntax.specs.declared.trees.TypeTree.{TypeTree}
use Rattle.acc_parse_syntax.specs.declared.trees.EntryTree.{EntryTree}
use Rattle.acc_parse_syntax.specs.declared.trees.HintTree.{HintTree}
use Rattle.acc_parse_syntax.specs.declared.trees.DesignTree.{DesignTree}
use Rattle.acc_parse_statements.specs.Counts.{if_there, path_statements, step_statements, point_statements, type_statements, statements_of}
use Rattle.acc_base.specs.declared.limits.Limit.{Limit}
use Rattle.acc_base.specs.declared.limits.Limit.TheVariants as limit
use Rattle.acc_parse_limits.specs.Marks.{Mark, ending, past, limited_from, limited}
use Rattle.acc_parse_limits.specs.Words.{name_marks, number_marks, names_marks, variable_marks, sum_marks, place_marks, cell_marks, guard_marks}
use Rattle.acc_parse_limits.specs.Words.{clause_marks, point_name_marks, pairs_marks}
use Rattle.acc_parse_limits.specs.Statements.{table_marks, clause_statement_marks, read_words_marks, read_marks, values_marks, action_words_marks}
use Rattle.acc_parse_limits.specs.Statements.{action_marks, target_words_marks, target_marks, returns_marks, locals_marks, variant_marks}
use Rattle.acc_parse_limits.specs.Statements.{entry_marks, hint_marks, path_marks, step_marks, point_marks, head_marks, type_marks, design_marks}
use Rattle.acc_parse_limits.proofs.WordEndings.{endings, HasEndings, no_marks, behind, past_part, end_then, end_last, passed, each_none}
use Rattle.acc_parse_limits.proofs.WordEndings.{name_none, number_none, small_number_none, names_none, variable_none, sum_none, sums_none}
use Rattle.acc_parse_limits.proofs.WordEndings.{place_none, cell_none, guard_none, clause_none, point_name_none, pairs_none}

-- ---- items, one behind another

counted_sum : {T : Type 0} (i : ℕ) (limit : Limit) (most : ℕ) (marks : T → List Mark) (count : T → ℕ) (xs : List T) →
    ((x : T) → HasEndings (count x) (marks x)) → HasEndings (sum_by count xs) (limited_from i limit most marks xs)
counted_sum i limit most marks count [] h = no_marks
counted_sum i limit most marks count (x ∷ xs) h =
    let rest = counted_sum (i + 1) limit most marks count xs h in
    let whole = past_part (count x + sum_by count xs) (past limit (i == most)) _ (passed limit (i == most))
    (behind (count x) (sum_by count xs) (marks x) _ (h x) rest) in
    record { is = omega (arith, whole.is, sum_by-cons count x xs) }

counted_ones : {T : Type 0} (i : ℕ) (limit : Limit) (most : ℕ) (marks : T → List Mark) (xs : List T) → ((x : T) → HasEndings 1 (marks x)) →
    HasEndings (length xs) (limited_from i limit most marks xs)
counted_ones i limit most marks [] h = no_marks
counted_ones i limit most marks (x ∷ xs) h =
    let rest = counted_ones (i + 1) limit most marks xs h in
    let whole = past_part (1 + length xs) (past limit (i == most)) _ (passed limit (i == most))
    (behind 1 (length xs) (marks x) _ (h x) rest) in
    record { is = omega (arith, whole.is) }

-- ---- single statements

-- what stands within a statement, and its end
ended : (a : List Mark) → HasEndings 0 a → HasEndings 1 (a ++ ending)
ended a h = past_part 1 a ending h end_last

table_one : (t : TableTree) → HasEndings 1 (table_marks t)
table_one t =
    past_part 1 _ _ (passed limit.KeyWidth (nat_lt t.width 1 || nat_lt 6 t.width)) (
    past_part 1 _ _ (passed limit.Columns (nat_lt 12 (length t.columns))) (past_part 1 (name_marks t.name) _ (name_none t.name) (
    past_part 1 (number_marks t.width) _ (number_none t.width)
    (ended (flat_map name_marks t.columns) (each_none name_marks t.columns name_none)))))

clause_one : (c : ClauseTree) → HasEndings 1 (clause_statement_marks c)
clause_one c = ended (clause_marks c) (clause_none c)

read_none : (r : ReadTree) → HasEndings 0 (read_words_marks r)
read_none (read.Let x v) = past_part 0 (variable_marks x) _ (variable_none x) (sum_none v)
read_none (read.Get x c) = past_part 0 (variable_marks x) _ (variable_none x) (cell_none c)
read_none (read.Has x p) = past_part 0 (variable_marks x) _ (variable_none x) (place_none p)
read_none (read.Count x p) = past_part 0 (variable_marks x) _ (variable_none x) (place_none p)
read_none (read.Sum x c) = past_part 0 (variable_marks x) _ (variable_none x) (cell_none c)
read_none (read.Least x p) = past_part 0 (variable_marks x) _ (variable_none x) (place_none p)
read_none (read.Greatest x p) = past_part 0 (variable_marks x) _ (variable_none x) (place_none p)
read_none (read.Take x) = variable_none x
read_none (read.Mul x a b) = past_part 0 (variable_marks x) _ (variable_none x)
    (past_part 0 (variable_marks a) _ (variable_none a) (variable_none b))
read_none (read.Div x a n) = past_part 0 (variable_marks x) _ (variable_none x)
    (past_part 0 (variable_marks a) _ (variable_none a) (number_none n))

read_one : (r : ReadTree) → HasEndings 1 (read_marks r)
read_one r = ended (read_words_marks r) (read_none r)

values_none : (vs : Option Sums) → HasEndings 0 (values_marks vs)
values_none None = no_marks
values_none (Some vs) = sums_none vs

action_none : (a : ActionTree) → HasEndings 0 (action_words_marks a)
action_none (action.Put p vs) = past_part 0 (place_marks p) _ (place_none p) (values_none vs)
action_none (action.Del p) = place_none p
action_none (action.Set c v) = past_part 0 (cell_marks c) _ (cell_none c) (sum_none v)
action_none (action.Add c v) = past_part 0 (cell_marks c) _ (cell_none c) (sum_none v)

action_one : (a : ActionTree) → HasEndings 1 (action_marks a)
action_one a = ended (action_words_marks a) (action_none a)

target_none : (t : TargetTree) → HasEndings 0 (target_words_marks t)
target_none (target.Goto x) = name_none x
target_none target.Commit = no_marks
target_none target.Undone = no_marks
target_none (target.Refuse n) = small_number_none n

target_one : (t : TargetTree) → HasEndings 1 (target_marks t)
target_one t = ended (target_words_marks t) (target_none t)

returns_endings : (ns : Option Names) → HasEndings (if_there ns) (returns_marks ns)
returns_endings None = no_marks
returns_endings (Some ns) = ended (names_marks ns) (names_none ns)

locals_endings : (params : ℕ) (ns : Option Names) → HasEndings (if_there ns) (locals_marks params ns)
locals_endings params None = no_marks
locals_endings params (Some ns) = past_part 1 _ _ (passed _ _) (ended (names_marks ns) (names_none ns))

variant_endings : (v : Option Sum) → HasEndings (if_there v) (variant_marks v)
variant_endings None = no_marks
variant_endings (Some v) = ended (sum_marks v) (sum_none v)

entry_one : (e : EntryTree) → HasEndings 1 (entry_marks e)
entry_one e = past_part 1 (point_name_marks e.held) _ (point_name_none e.held)
    (past_part 1 (point_name_marks e.by) _ (point_name_none e.by) (ended (pairs_marks e.pairs) (pairs_none e.pairs)))

hint_one : (h : HintTree) → HasEndings 1 (hint_marks h)
hint_one h = past_part 1 (point_name_marks h.of) _ (point_name_none h.of) (ended (sum_marks h.value) (sum_none h.value))

-- ---- the parts of a type

path_endings : (p : PathTree) → HasEndings (path_statements p) (path_marks p)
path_endings p =
    let actions = counted_ones 0 limit.Actions 16 action_marks p.actions action_one in
    let rest = behind (length p.actions) 1 (limited limit.Actions 16 action_marks p.actions) (target_marks p.target) actions
    (target_one p.target) in
    let whole = past_part (1 + (length p.actions + 1)) (guard_marks p.guard) _ (guard_none p.guard)
    (end_then (length p.actions + 1) _ rest) in
    record { is = omega (arith, whole.is) }

step_endings : (s : StepTree) → HasEndings (step_statements s) (step_marks s)
step_endings s =
    let others = counted_sum 0 limit.Paths 15 path_marks path_statements s.others path_endings in
    let paths = behind (path_statements s.first) (sum_by path_statements s.others) (path_marks s.first) _ (path_endings s.first) others in
    let reads = behind (length s.reads) _ (limited limit.Reads 32 read_marks s.reads) _
    (counted_ones 0 limit.Reads 32 read_marks s.reads read_one) paths in
    let whole = end_then _ _ reads in
    record { is = omega (arith, whole.is) }

point_endings : (p : PointTree) → HasEndings (point_statements p) (point_marks p)
point_endings p =
    let steps = behind (step_statements p.next) (step_statements p.undo) (step_marks p.next) (step_marks p.undo) (step_endings p.next)
    (step_endings p.undo) in
    let holds = behind (length p.holds) _ (limited limit.Clauses 64 clause_statement_marks p.holds) _
    (counted_ones 0 limit.Clauses 64 clause_statement_marks p.holds clause_one) steps in
    let rest = behind (if_there p.variant) _ (variant_marks p.variant) _ (variant_endings p.variant) holds in
    let whole = past_part _ (name_marks p.name) _ (name_none p.name) (end_then _ _ rest) in
    record { is = omega (arith, whole.is) }

head_endings : (t : TypeTree) → HasEndings 2 (head_marks t)
head_endings t =
    past_part 2 _ _ (passed _ _) (past_part 2 (name_marks t.name) _ (name_none t.name) (
    past_part 2 (flat_map name_marks t.params) _ (each_none name_marks t.params name_none) (
    end_then 1 _ (past_part 1 _ _ (small_number_none t.limit) end_last))))

type_endings : (t : TypeTree) → HasEndings (type_statements t) (type_marks t)
type_endings t =
    let others = counted_sum 0 limit.Points 31 point_marks point_statements t.others point_endings in
    let points = behind (point_statements t.first) (sum_by point_statements t.others) (point_marks t.first) _ (point_endings t.first)
    others in
    let repaired = behind (length t.repaired) _ (limited limit.Clauses 64 clause_statement_marks t.repaired) _
    (counted_ones 0 limit.Clauses 64 clause_statement_marks t.repaired clause_one) points in
    let ensured = behind (length t.ensured) _ (limited limit.Clauses 64 clause_statement_marks t.ensured) _
    (counted_ones 0 limit.Clauses 64 clause_statement_marks t.ensured clause_one) repaired in
    let locals = behind (if_there t.locals) _ (locals_marks (length t.params) t.locals) _ (locals_endings (length t.params) t.locals)
    ensured in
    let returns = behind (if_there t.returns) _ (returns_marks t.returns) _ (returns_endings t.returns) locals in
    let whole = behind 2 _ (head_marks t) _ (head_endings t) returns in
    record { is = omega (arith, whole.is) }

-- ---- the whole text

pub design_endings : (d : DesignTree) → endings (design_marks d) ≡ statements_of d
unfolding statements_of
design_endings d =
    let hints = counted_ones 0 limit.EntriesAndHints 1024 hint_marks d.hints hint_one in
    let entries = behind (length d.entries) (length d.hints) (limited limit.EntriesAndHints 1024 entry_marks d.entries) _
    (counted_ones 0 limit.EntriesAndHints 1024 entry_marks d.entries entry_one) hints in
    let types = behind (sum_by type_statements d.types) _ (limited limit.Types 64 type_marks d.types) _
    (counted_sum 0 limit.Types 64 type_marks type_statements d.types type_endings) entries in
    let always = behind (length d.always) _ (limited limit.AlwaysClauses 128 clause_statement_marks d.always) _
    (counted_ones 0 limit.AlwaysClauses 128 clause_statement_marks d.always clause_one) types in
    let whole = behind (length d.tables) _ (limited limit.Tables 64 table_marks d.tables) _
    (counted_ones 0 limit.Tables 64 table_marks d.tables table_one) always in
    omega (arith, whole.is)
