-- The words of a design have an end for each of its statements.
use Rattle.std.proofs.Common.{◌≡◌, ◌+◌, List, [], ◌++◌, false, length, Option, Some, None, refl, arith}
use Rattle.std.specs.Prelude.{sum_by}
use Rattle.acc_grammar.specs.Readers.{joined}
use Rattle.acc_lex.specs.declared.words.Sign.{Sign}
use Rattle.acc_lex.specs.declared.words.Sign.TheVariants as sign
use Rattle.acc_lex.specs.declared.words.Word.{Word}
use Rattle.acc_lex.specs.declared.words.Word.TheVariants as word
use Rattle.acc_parse_syntax.specs.declared.trees.Sum.{Sum}
use Rattle.acc_parse_syntax.specs.declared.trees.Sums.{Sums}
use Rattle.acc_parse_syntax.specs.declared.trees.Names.{Names}
use Rattle.acc_parse_syntax.specs.declared.trees.ClauseTree.{ClauseTree}
use Rattle.acc_parse_syntax.specs.declared.trees.TableTree.{TableTree}
use Rattle.acc_parse_syntax.specs.declared.trees.ReadTree.{ReadTree}
use Rattle.acc_parse_syntax.specs.declared.trees.ReadTree.TheVariants as read
use Rattle.acc_parse_syntax.specs.declared.trees.ActionTree.{ActionTree}
use Rattle.acc_parse_syntax.specs.declared.trees.ActionTree.TheVariants as action
use Rattle.acc_parse_syntax.specs.declared.trees.TargetTree.{TargetTree}
use Rattle.acc_parse_syntax.specs.declared.trees.TargetTree.TheVariants as target
use Rattle.acc_parse_syntax.specs.declared.trees.PathTree.{PathTree}
use Rattle.acc_parse_syntax.specs.declared.trees.StepTree.{StepTree}
use Rattle.acc_parse_syntax.specs.declared.trees.PointTree.{PointTree}
use Rattle.acc_parse_syntax.specs.declared.trees.TypeTree.{TypeTree}
use Rattle.acc_parse_syntax.specs.declared.trees.EntryTree.{EntryTree}
use Rattle.acc_parse_syntax.specs.declared.trees.HintTree.{HintTree}
use Rattle.acc_parse_syntax.specs.declared.trees.DesignTree.{DesignTree}
use Rattle.acc_parse_syntax.specs.Spelling.{just, name, names, variable, sum, place, cell, guard, point_name, pairs, side_sign, clause}
use Rattle.acc_parse_syntax.specs.Spelling.{clause_statement, table, read_statement, values, action_statement, target_statement, names_statement}
use Rattle.acc_parse_syntax.specs.Spelling.{variant_statement, entry, hint, path, step, side, point, type_words, spelled_design}
use Rattle.acc_parse_statements.specs.Ends.{is_end, ends}
use Rattle.acc_parse_statements.specs.Counts.{if_there, path_statements, step_statements, point_statements, type_statements, statements_of}
use Rattle.acc_parse_statements.proofs.Within.{no_ends, behind, past_word, past_part, end_then, end_last, either, joined_none, joined_ones}
use Rattle.acc_parse_statements.proofs.Within.{joined_sum, name_none, names_none, variable_none, sum_none, sums_none, place_none, cell_none}
use Rattle.acc_parse_statements.proofs.Within.{guard_none, side_none, point_name_none, pairs_none}
use Rattle.acc_parse_statements.proofs.ClauseEnds.{clause_none}

-- ---- a statement has one end

-- a word that the grammar fixes, what stands within the statement, its end
ended : (s : Sign) (a : List Word) → is_end (word.Sign s) ≡ false → ends a ≡ 0 → ends (just s ++ (a ++ just sign.End)) ≡ 1
ended s a e h = past_word 1 _ _ e (past_part 1 a _ h end_last)

always_one : (c : ClauseTree) → ends (clause_statement sign.Always c) ≡ 1
always_one c = ended sign.Always (clause c) refl (clause_none c)

ensures_one : (c : ClauseTree) → ends (clause_statement sign.Ensures c) ≡ 1
ensures_one c = ended sign.Ensures (clause c) refl (clause_none c)

repairs_one : (c : ClauseTree) → ends (clause_statement sign.Repairs c) ≡ 1
repairs_one c = ended sign.Repairs (clause c) refl (clause_none c)

holds_one : (c : ClauseTree) → ends (clause_statement sign.Holds c) ≡ 1
holds_one c = ended sign.Holds (clause c) refl (clause_none c)

table_one : (t : TableTree) → ends (table t) ≡ 1
table_one t =
    past_part 1 _ _ (either 0 t.private _ _ (past_word 0 _ [] refl no_ends) (past_word 0 _ [] refl no_ends)) (
    past_word 1 _ _ refl (past_word 1 _ _ refl (
    past_part 1 (joined name t.columns) _ (joined_none name t.columns name_none) end_last)))

-- a variable, =, and two parts
assigned : (s : Sign) (x a : List Word) → is_end (word.Sign s) ≡ false → ends x ≡ 0 → ends a ≡ 0 →
    ends (just s ++ (x ++ (just sign.Equal ++ (a ++ just sign.End)))) ≡ 1
assigned s x a e h k = past_word 1 _ _ e (past_part 1 x _ h (past_word 1 _ _ refl (past_part 1 a _ k end_last)))

read_one : (r : ReadTree) → ends (read_statement r) ≡ 1
read_one (read.Let x v) = assigned sign.Let (variable x) (sum v) refl (variable_none x) (sum_none v)
read_one (read.Get x c) = assigned sign.Get (variable x) (cell c) refl (variable_none x) (cell_none c)
read_one (read.Has x p) = assigned sign.Has (variable x) (place p) refl (variable_none x) (place_none p)
read_one (read.Count x p) = assigned sign.Count (variable x) (place p) refl (variable_none x) (place_none p)
read_one (read.Sum x c) = assigned sign.Sum (variable x) (cell c) refl (variable_none x) (cell_none c)
read_one (read.Least x p) = assigned sign.Least (variable x) (place p) refl (variable_none x) (place_none p)
read_one (read.Greatest x p) = assigned sign.Greatest (variable x) (place p) refl (variable_none x) (place_none p)
read_one (read.Take x) = ended sign.Take (variable x) refl (variable_none x)
read_one (read.Mul x a b) =
    past_word 1 _ _ refl (past_part 1 (variable x) _ (variable_none x) (past_word 1 _ _ refl (
    past_part 1 (variable a) _ (variable_none a) (past_part 1 (variable b) _ (variable_none b) end_last))))
read_one (read.Div x a n) =
    past_word 1 _ _ refl (past_part 1 (variable x) _ (variable_none x) (past_word 1 _ _ refl (
    past_part 1 (variable a) _ (variable_none a) (past_word 1 _ _ refl end_last))))

values_none : (vs : Option Sums) → ends (values vs) ≡ 0
values_none None = no_ends
values_none (Some s) = sums_none s

-- a word, and two parts
ended_both : (s : Sign) (a b : List Word) → is_end (word.Sign s) ≡ false → ends a ≡ 0 → ends b ≡ 0 →
    ends (just s ++ (a ++ (b ++ just sign.End))) ≡ 1
ended_both s a b e h k = past_word 1 _ _ e (past_part 1 a _ h (past_part 1 b _ k end_last))

action_one : (a : ActionTree) → ends (action_statement a) ≡ 1
action_one (action.Put p vs) = ended_both sign.Put (place p) (values vs) refl (place_none p) (values_none vs)
action_one (action.Del p) = ended sign.Del (place p) refl (place_none p)
action_one (action.Set c v) = ended_both sign.Set (cell c) (sum v) refl (cell_none c) (sum_none v)
action_one (action.Add c v) = ended_both sign.Add (cell c) (sum v) refl (cell_none c) (sum_none v)

target_one : (t : TargetTree) → ends (target_statement t) ≡ 1
target_one (target.Goto x) = past_word 1 _ _ refl (past_word 1 _ _ refl end_last)
target_one target.Commit = past_word 1 _ _ refl end_last
target_one target.Undone = past_word 1 _ _ refl end_last
target_one (target.Refuse n) = past_word 1 _ _ refl (past_word 1 _ _ refl end_last)

returns_ends : (ns : Option Names) → ends (names_statement sign.Returns ns) ≡ if_there ns
returns_ends None = no_ends
returns_ends (Some ns) = ended sign.Returns (names ns) refl (names_none ns)

local_ends : (ns : Option Names) → ends (names_statement sign.Local ns) ≡ if_there ns
local_ends None = no_ends
local_ends (Some ns) = ended sign.Local (names ns) refl (names_none ns)

variant_ends : (v : Option Sum) → ends (variant_statement v) ≡ if_there v
variant_ends None = no_ends
variant_ends (Some v) = ended sign.Variant (sum v) refl (sum_none v)

entry_one : (e : EntryTree) → ends (entry e) ≡ 1
entry_one e =
    past_word 1 _ _ refl (past_part 1 (point_name e.held) _ (point_name_none e.held) (
    past_word 1 _ _ refl (past_part 1 (point_name e.by) _ (point_name_none e.by) (
    past_part 1 (just (side_sign e.side)) _ (side_none e.side) (past_part 1 (pairs e.pairs) _ (pairs_none e.pairs) end_last)))))

hint_one : (h : HintTree) → ends (hint h) ≡ 1
hint_one h =
    past_word 1 _ _ refl (past_part 1 (point_name h.of) _ (point_name_none h.of) (
    past_part 1 (just (side_sign h.side)) _ (side_none h.side) (past_part 1 (sum h.value) _ (sum_none h.value) end_last)))

-- ---- the parts of a type

path_ends : (p : PathTree) → ends (path p) ≡ path_statements p
path_ends p =
    let rest = behind (length p.actions) 1 (joined action_statement p.actions) (target_statement p.target)
    (joined_ones action_statement p.actions action_one) (target_one p.target) in
    let whole = past_word (1 + (length p.actions + 1)) (word.Sign sign.Path) _ refl
    (past_part (1 + (length p.actions + 1)) (guard p.guard) _ (guard_none p.guard) (end_then (length p.actions + 1) _ rest)) in
    omega (arith, whole)

step_ends : (s : StepTree) → 1 + ends (step s) ≡ step_statements s
step_ends s =
    let paths = behind (path_statements s.first) (sum_by path_statements s.others) (path s.first) (joined path s.others) (path_ends s.first)
    (joined_sum path path_statements s.others path_ends) in
    let whole = behind (length s.reads) (path_statements s.first + sum_by path_statements s.others) (joined read_statement s.reads) _
    (joined_ones read_statement s.reads read_one) paths in
    omega (arith, whole)

side_ends : (s : Sign) (st : StepTree) → is_end (word.Sign s) ≡ false → ends (side s st) ≡ step_statements st
side_ends s st e =
    let whole = past_word (1 + ends (step st)) (word.Sign s) _ e (end_then (ends (step st)) (step st) refl) in
    omega (arith, whole, step_ends st)

point_ends : (p : PointTree) → ends (point p) ≡ point_statements p
point_ends p =
    let sides = behind (step_statements p.next) (step_statements p.undo) (side sign.Next p.next) (side sign.Undo p.undo)
    (side_ends sign.Next p.next refl) (side_ends sign.Undo p.undo refl) in
    let held = behind (length p.holds) (step_statements p.next + step_statements p.undo) (joined (clause_statement sign.Holds) p.holds) _
    (joined_ones (clause_statement sign.Holds) p.holds holds_one) sides in
    let rest = behind (if_there p.variant) (length p.holds + (step_statements p.next + step_statements p.undo))
    (variant_statement p.variant) _ (variant_ends p.variant) held in
    let count = if_there p.variant + (length p.holds + (step_statements p.next + step_statements p.undo)) in
    let whole = past_word (1 + count) (word.Sign sign.Point) _ refl
    (past_word (1 + count) (word.Name p.name) _ refl (end_then count _ rest)) in
    omega (arith, whole)

type_ends : (t : TypeTree) → ends (type_words t) ≡ type_statements t
type_ends t =
    let points = behind (point_statements t.first) (sum_by point_statements t.others) (point t.first) (joined point t.others)
    (point_ends t.first) (joined_sum point point_statements t.others point_ends) in
    let repaired = behind (length t.repaired) _ (joined (clause_statement sign.Repairs) t.repaired) _
    (joined_ones (clause_statement sign.Repairs) t.repaired repairs_one) points in
    let ensured = behind (length t.ensured) _ (joined (clause_statement sign.Ensures) t.ensured) _
    (joined_ones (clause_statement sign.Ensures) t.ensured ensures_one) repaired in
    let locals = behind (if_there t.locals) _ (names_statement sign.Local t.locals) _ (local_ends t.locals) ensured in
    let returns = behind (if_there t.returns) _ (names_statement sign.Returns t.returns) _ (returns_ends t.returns) locals in
    let limited = end_then _ _ (past_word _ (word.Sign sign.Limit) _ refl (past_word _ (word.Number t.limit) _ refl (end_then _ _ returns)))
    in
    let whole = past_word _ (word.Sign sign.Type) _ refl
    (past_word _ (word.Name t.name) _ refl (past_part _ (joined name t.params) _ (joined_none name t.params name_none) limited)) in
    omega (arith, whole)

-- ---- the whole text

pub spelled_ends : (d : DesignTree) → ends (spelled_design d) ≡ statements_of d
unfolding statements_of
spelled_ends d =
    let hints = behind (length d.entries) (length d.hints) (joined entry d.entries) (joined hint d.hints)
    (joined_ones entry d.entries entry_one) (joined_ones hint d.hints hint_one) in
    let types = behind (sum_by type_statements d.types) _ (joined type_words d.types) _
    (joined_sum type_words type_statements d.types type_ends) hints in
    let always = behind (length d.always) _ (joined (clause_statement sign.Always) d.always) _
    (joined_ones (clause_statement sign.Always) d.always always_one) types in
    let whole = behind (length d.tables) _ (joined table d.tables) _ (joined_ones table d.tables table_one) always in
    omega (arith, whole)
