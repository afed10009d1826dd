-- Each fault of a design stands at one of its statements, since each part ends with a statement's end.
use Rattle.std.proofs.Common.{◌≡◌, ℕ, ◌+◌, ◌<◌, ◌≤◌, ◌==◌, List, [], ◌∷◌, ◌++◌, All, refl, sym, ap, subst, ◌∙◌, arith, append_assoc}
use Rattle.std.proofs.Common.{append-nil, length, nat_lt, ◌||◌}
use Rattle.std.specs.List.{flat_map}
use Rattle.std.proofs.lemmas.List.Elements.{All-nil, All-cons, All-append, All-weaker}
use Rattle.acc_parse_syntax.specs.declared.trees.ClauseTree.{ClauseTree}
use Rattle.acc_parse_syntax.specs.declared.trees.TableTree.{TableTree}
use Rattle.acc_parse_syntax.specs.declared.trees.PathTree.{PathTree}
use Rattle.acc_parse_syntax.specs.declared.trees.StepTree.{StepTree}
use Rattle.acc_parse_syntax.specs.declared.trees.PointTree.{PointTree}
use Rattle.acc_parse_syntax.specs.declared.trees.TypeTree.{TypeTree}
use Rattle.acc_parse_syntax.specs.declared.trees.EntryTree.{EntryTree}
use Rattle.acc_parse_syntax.specs.declared.trees.HintTree.{HintTree}
use Rattle.acc_parse_syntax.specs.declared.trees.DesignTree.{DesignTree}
use Rattle.acc_base.specs.declared.limits.Limit.{Limit}
use Rattle.acc_base.specs.declared.limits.Limit.TheVariants as limit
use Rattle.acc_parse_limits.specs.Marks.{Mark, Past, End, ending, past, limited_from, limited}
use Rattle.acc_parse_limits.specs.Words.{name_marks, number_marks, clause_marks, point_name_marks, pairs_marks}
use Rattle.acc_parse_limits.specs.Statements.{table_marks, clause_statement_marks, target_marks, path_marks, step_marks, point_marks, head_marks}
use Rattle.acc_parse_limits.specs.Statements.{returns_marks, locals_marks, type_marks, entry_marks, hint_marks, design_marks}
use Rattle.acc_parse_statements.specs.Counts.{statements_of}
use Rattle.acc_parse_limits.specs.Faults.{placed, limit_faults}
use Rattle.acc_parse_limits.proofs.WordEndings.{endings, endings-append}
use Rattle.acc_parse_limits.proofs.Endings.{design_endings}

-- ---- marks whose faults all stand at statements that end

placed-append : (n : ℕ) (xs ys : List Mark) → placed n (xs ++ ys) ≡ placed n xs ++ placed (n + endings xs) ys
placed-append n [] ys = ap (λ (k : ℕ). placed k ys) (omega arith)
placed-append n (Past l ∷ xs) ys = ap (λ (fs : List (ℕ × Limit)). (n, l) ∷ fs) (placed-append n xs ys)
placed-append n (End ∷ xs) ys =
    placed-append (n + 1) xs ys ∙ ap (λ (k : ℕ). placed (n + 1) xs ++ placed k ys) (omega arith)

-- a fault before a statement
abbrev pub IsUnder : ℕ → (ℕ × Limit) → Type 0
IsUnder k f = f.0 < k

pub under_more : (k m : ℕ) (fs : List (ℕ × Limit)) → k ≤ m → All (IsUnder k) fs → All (IsUnder m) fs
under_more k m fs le h = All-weaker (IsUnder k) (IsUnder m) (λ f l. omega arith) fs h

-- the statements of all faults end
pub record AreEnded (ms : List Mark) : Type 0 where
  pub under : (n : ℕ) → All (IsUnder (n + endings ms)) (placed n ms)

-- the last mark is a statement's end
pub record EndsLast (ms : List Mark) : Type 0 where
  pub front : List Mark
  pub same : ms ≡ front ++ ending

under_next : (n : ℕ) (ms : List Mark) → All (IsUnder (n + endings ms + 1)) (placed n ms)
under_next n [] = All-nil (IsUnder (n + 0 + 1))
under_next n (Past l ∷ ms) = All-cons (IsUnder (n + endings ms + 1)) (n, l) (placed n ms) (omega arith) (under_next n ms)
under_next n (End ∷ ms) = under_more _ _ (placed (n + 1) ms) (omega arith) (under_next (n + 1) ms)

pub ended_last : (ms : List Mark) → EndsLast ms → AreEnded ms
ended_last ms h = subst AreEnded (sym h.same) (record {
  under = λ n.
      let faults : placed n (h.front ++ ending) ≡ placed n h.front ++ [] = placed-append n h.front ending in
      let count : endings (h.front ++ ending) ≡ endings h.front + 1 = omega (arith, endings-append h.front ending) in
      let k = n + endings h.front + 1 in
      under_more k (n + endings (h.front ++ ending)) (placed n (h.front ++ ending)) (omega arith)
      (subst (All (IsUnder k)) (sym faults) (All-append (IsUnder k) (placed n h.front) [] (under_next n h.front) (All-nil (IsUnder k))));
})

pub ended_nil : AreEnded []
ended_nil = record { under = λ n. All-nil (IsUnder (n + 0)) }

pub ended_append : (xs ys : List Mark) → AreEnded xs → AreEnded ys → AreEnded (xs ++ ys)
ended_append xs ys h g = record {
  under = λ n.
      let k = n + endings (xs ++ ys) in
      let count : endings (xs ++ ys) ≡ endings xs + endings ys = endings-append xs ys in
      subst (All (IsUnder k)) (sym (placed-append n xs ys)) (All-append (IsUnder k) (placed n xs) (placed (n + endings xs) ys)
      (under_more (n + endings xs) k (placed n xs) (omega arith) (h.under n))
      (under_more (n + endings xs + endings ys) k (placed (n + endings xs) ys) (omega arith) (g.under (n + endings xs))));
}

-- ---- marks that end with a statement

pub last_end : EndsLast ending
last_end = record { front = []; same = refl }

pub last_behind : (xs ys : List Mark) → EndsLast ys → EndsLast (xs ++ ys)
last_behind xs ys h = record {
  front = xs ++ h.front;
  same =
      ap (λ (zs : List Mark). xs ++ zs) h.same ∙ sym (append_assoc xs h.front ending);
}

pub last_counted : {T : Type 0} (i : ℕ) (limit : Limit) (most : ℕ) (marks : T → List Mark) (ys : List Mark) (xs : List T) →
    ((x : T) → EndsLast (marks x)) → EndsLast ys → EndsLast (ys ++ limited_from i limit most marks xs)
last_counted i limit most marks ys [] f h = subst EndsLast (sym (append-nil ys)) h
last_counted i limit most marks ys (x ∷ xs) f h =
    let passed = past limit (i == most) in
    let rest = limited_from (i + 1) limit most marks xs in
    let same : ((ys ++ passed) ++ marks x) ++ rest ≡ ys ++ (passed ++ (marks x ++ rest)) =
    append_assoc (ys ++ passed) (marks x) rest ∙ append_assoc ys passed (marks x ++ rest) in
    subst EndsLast same (last_counted (i + 1) limit most marks ((ys ++ passed) ++ marks x) xs f
    (last_behind (ys ++ passed) (marks x) (f x)))

pub ended_counted : {T : Type 0} (i : ℕ) (limit : Limit) (most : ℕ) (marks : T → List Mark) (xs : List T) →
    ((x : T) → EndsLast (marks x)) → AreEnded (limited_from i limit most marks xs)
ended_counted i limit most marks [] f = ended_nil
ended_counted i limit most marks (x ∷ xs) f =
    let passed = past limit (i == most) in
    let rest = limited_from (i + 1) limit most marks xs in
    let here : AreEnded (passed ++ marks x) = ended_last (passed ++ marks x) (last_behind passed (marks x) (f x)) in
    subst AreEnded (append_assoc passed (marks x) rest)
    (ended_append (passed ++ marks x) rest here (ended_counted (i + 1) limit most marks xs f))

-- ---- the parts of a design

table_last : (t : TableTree) → EndsLast (table_marks t)
table_last t =
    last_behind (past limit.KeyWidth (nat_lt t.width 1 || nat_lt 6 t.width)) _ (
    last_behind (past limit.Columns (nat_lt 12 (length t.columns))) _ (
    last_behind (name_marks t.name) _ (
    last_behind (number_marks t.width) _ (
    last_behind (flat_map name_marks t.columns) ending last_end))))

clause_last : (c : ClauseTree) → EndsLast (clause_statement_marks c)
clause_last c = last_behind (clause_marks c) ending last_end

path_last : (p : PathTree) → EndsLast (path_marks p)
path_last p = last_behind _ _ (last_behind ending _ (last_behind _ (target_marks p.target) (last_behind _ ending last_end)))

step_last : (s : StepTree) → EndsLast (step_marks s)
step_last s = last_behind ending _ (last_behind _ _
    (last_counted 0 limit.Paths 15 path_marks (path_marks s.first) s.others path_last (path_last s.first)))

point_last : (p : PointTree) → EndsLast (point_marks p)
point_last p = last_behind _ _ (last_behind ending _
    (last_behind _ _ (last_behind _ _ (last_behind (step_marks p.next) (step_marks p.undo) (step_last p.undo)))))

type_last : (t : TypeTree) → EndsLast (type_marks t)
type_last t =
    last_behind (head_marks t) _ (
    last_behind (returns_marks t.returns) _ (
    last_behind (locals_marks (length t.params) t.locals) _ (
    last_behind (limited limit.Clauses 64 clause_statement_marks t.ensured) _ (
    last_behind (limited limit.Clauses 64 clause_statement_marks t.repaired) _ (
    last_counted 0 limit.Points 31 point_marks (point_marks t.first) t.others point_last (point_last t.first))))))

entry_last : (e : EntryTree) → EndsLast (entry_marks e)
entry_last e =
    last_behind (point_name_marks e.held) _ (
    last_behind (point_name_marks e.by) _ (
    last_behind (pairs_marks e.pairs) ending last_end))

hint_last : (h : HintTree) → EndsLast (hint_marks h)
hint_last h = last_behind _ _ (last_behind _ ending last_end)

design_ended : (d : DesignTree) → AreEnded (design_marks d)
design_ended d =
    ended_append _ _ (ended_counted 0 limit.Tables 64 table_marks d.tables table_last) (
    ended_append _ _ (ended_counted 0 limit.AlwaysClauses 128 clause_statement_marks d.always clause_last) (
    ended_append _ _ (ended_counted 0 limit.Types 64 type_marks d.types type_last) (
    ended_append _ _ (ended_counted 0 limit.EntriesAndHints 1024 entry_marks d.entries entry_last)
    (ended_counted 0 limit.EntriesAndHints 1024 hint_marks d.hints hint_last))))

-- each fault stands at one of the statements
pub faults_within : (d : DesignTree) → All (λ f. f.0 < statements_of d) (limit_faults d)
unfolding limit_faults
faults_within d = under_more (0 + endings (design_marks d)) (statements_of d) (placed 0 (design_marks d)) (omega (arith, design_endings d))
    ((design_ended d).under 0)
