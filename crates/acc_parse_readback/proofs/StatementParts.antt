-- Printed statements of a step spell their trees.
use Rattle.std.proofs.Common.{◌≡◌, ℕ, ◌^◌, ◌<◌, true, false, List, [], ◌∷◌, ◌++◌, Some, refl, subst, append_assoc, arith, ℤ, pos, negsuc}
use Rattle.std.specs.Prelude.{unsigned_abs, slice_get, codes}
use Rattle.std.specs.Fmt.{decimal, signed_decimal}
use Rattle.acc_grammar.specs.Readers.{AllIn}
use Rattle.acc_base.specs.Numbers.{IsSmall}
use Rattle.acc_base.specs.Lines.{line, point_name}
use Rattle.acc_base.specs.declared.forms.Lin.{Lin}
use Rattle.acc_base.specs.declared.forms.Clause.{Clause}
use Rattle.acc_base.specs.declared.steps.Read.{Read}
use Rattle.acc_base.specs.declared.steps.Read.TheVariants as read
use Rattle.acc_base.specs.declared.steps.Action.{Action}
use Rattle.acc_base.specs.declared.steps.Action.TheVariants as action
use Rattle.acc_base.specs.declared.steps.Target.{Target}
use Rattle.acc_base.specs.declared.steps.Target.TheVariants as target
use Rattle.acc_base.specs.declared.designs.Point.{Point}
use Rattle.acc_lex.specs.declared.words.Word.{Word}
use Rattle.acc_lex.specs.declared.words.Sign.{Sign}
use Rattle.acc_lex.specs.declared.words.Sign.TheVariants as sign
use Rattle.acc_lex.specs.Keywords.{keyword_of}
use Rattle.acc_parse_syntax.specs.Spelling.{just, name, number, variable, sum, sums, place, cell, values, clause, clause_statement}
use Rattle.acc_parse_syntax.specs.Spelling.{read_statement, action_statement, target_statement}
use Rattle.acc_print.specs.Lists.{spaced, listed}
use Rattle.acc_print.specs.Sums.{is_negative}
use Rattle.acc_print.specs.Names.{Scope, name_at}
use Rattle.acc_print.specs.Values.{lin_text, row_text, cell_text}
use Rattle.acc_print.specs.Clauses.{clause_text}
use Rattle.acc_print.specs.Steps.{read_text, read_line, action_text, action_line, target_text}
use Rattle.acc_parse_readback.specs.Trees.{variable_tree, lin_tree, sums_tree, place_tree, cell_tree, clause_tree}
use Rattle.acc_parse_readback.specs.TypeTrees.{read_statement_tree, values_tree, action_statement_tree, target_statement_tree}
use Rattle.acc_parse_readback.specs.Printable.{IsVariable, IsLinSaid, IsClauseSaid}
use Rattle.acc_parse_readback.specs.PrintableTypes.{IsCount, IsReadSaid, IsActionSaid, IsTargetSaid}
use Rattle.acc_parse_readback.proofs.Rests.{IsApart, Part, Front, parts, fronts, part_front, empty, spaced_part}
use Rattle.acc_parse_readback.proofs.Tokens.{is_run, keyword, named, numbered, equals_between}
use Rattle.acc_parse_readback.proofs.ValueParts.{variable_part, lin_part, lins_part, row_part, cell_part}
use Rattle.acc_parse_readback.proofs.ClauseParts.{word_then, clause_part}
use Rattle.acc_parse_readback.proofs.Lines.{Lines, one_line}

-- ---- clauses

-- the statement of a word and a clause
pub clause_lines : (w : List ℕ) (k : Sign) → is_run w ≡ true → keyword_of w ≡ Some k → (s : Scope) (c : Clause) → IsClauseSaid s c →
    Lines (line (w ++ 32 ∷ clause_text s c)) (clause_statement k (clause_tree s c))
clause_lines w k run is s c h = one_line _ (just k ++ clause (clause_tree s c)) _
    (word_then w k run is (clause_text s c) (clause (clause_tree s c)) (clause_part s c h)) refl refl

-- ---- reads

count_is_written : (n : ℕ) → IsCount n → n < 2 ^ 64
count_is_written n h = omega arith

-- the word of a read, what it assigns, and the equals sign
assigned_front : (w : List ℕ) (k : Sign) → is_run w ≡ true → keyword_of w ≡ Some k → (s : Scope) (x : ℕ) → IsVariable (name_at s.names x) →
    Front (w ++ 32 ∷ (name_at s.names x ++ codes " = ")) (just k ++ (variable (variable_tree s.names x) ++ just sign.Equal))
assigned_front w k run is s x h =
    part_front w (32 ∷ (name_at s.names x ++ codes " = ")) (just k) (variable (variable_tree s.names x) ++ just sign.Equal)
    (keyword w k run is) (λ bytes. refl)
    (part_front (32 ∷ name_at s.names x) (codes " = ") (variable (variable_tree s.names x)) (just sign.Equal)
    (spaced_part (name_at s.names x) (variable (variable_tree s.names x)) (variable_part (name_at s.names x) h)) (λ bytes. refl)
    equals_between)

-- a read: its word, what it assigns, and what is read
assigned_lines : (w : List ℕ) (k : Sign) → is_run w ≡ true → keyword_of w ≡ Some k → (s : Scope) (x : ℕ) (text : List ℕ) (ws : List Word) →
    IsVariable (name_at s.names x) → Part text ws →
    Lines (line ((w ++ 32 ∷ (name_at s.names x ++ codes " = ")) ++ text))
    (just k ++ (variable (variable_tree s.names x) ++ (just sign.Equal ++ (ws ++ just sign.End))))
assigned_lines w k run is s x text ws h p =
    one_line _ ((just k ++ (variable (variable_tree s.names x) ++ just sign.Equal)) ++ ws) _
    (fronts (w ++ 32 ∷ (name_at s.names x ++ codes " = ")) text (just k ++ (variable (variable_tree s.names x) ++ just sign.Equal)) ws
    (assigned_front w k run is s x h) p) refl (simp append_assoc refl)

two_part : (s : Scope) (a : ℕ) (text : List ℕ) (ws : List Word) → IsVariable (name_at s.names a) → Part text ws →
    Part (name_at s.names a ++ spaced text) (variable (variable_tree s.names a) ++ ws)
two_part s a text ws h p = parts (name_at s.names a) (32 ∷ text) (variable (variable_tree s.names a)) ws
    (variable_part (name_at s.names a) h) refl (spaced_part text ws p)

divisor_part : (n : ℤ) → is_negative n ≡ false → IsSmall n → Part (signed_decimal n) (number (unsigned_abs n))
divisor_part (pos n) h g = numbered n (omega arith)
divisor_part (negsuc n) h g = absurd cc

pub read_lines : (s : Scope) (r : Read) → IsReadSaid s r → Lines (read_line s r) (read_statement (read_statement_tree s r))
unfolding keyword_of
read_lines s (read.Let x v) h = assigned_lines (codes "let") sign.Let refl refl s x (lin_text s.names v) (sum (lin_tree s.names v)) h.0
    (lin_part s.names v h.1)
read_lines s (read.Col x table key column) h =
    assigned_lines (codes "get") sign.Get refl refl s x (cell_text s table key column) (cell (cell_tree s table key column)) h.0
    (cell_part s table key column h.1)
read_lines s (read.Has x table key) h = assigned_lines (codes "has") sign.Has refl refl s x (row_text s table key)
    (place (place_tree s table key)) h.0 (row_part s table key h.1)
read_lines s (read.Count x table key) h = assigned_lines (codes "count") sign.Count refl refl s x (row_text s table key)
    (place (place_tree s table key)) h.0 (row_part s table key h.1)
read_lines s (read.Sum x table key column) h =
    assigned_lines (codes "sum") sign.Sum refl refl s x (cell_text s table key column) (cell (cell_tree s table key column)) h.0
    (cell_part s table key column h.1)
read_lines s (read.Least x table key) h = assigned_lines (codes "least") sign.Least refl refl s x (row_text s table key)
    (place (place_tree s table key)) h.0 (row_part s table key h.1)
read_lines s (read.Greatest x table key) h = assigned_lines (codes "greatest") sign.Greatest refl refl s x (row_text s table key)
    (place (place_tree s table key)) h.0 (row_part s table key h.1)
read_lines s (read.Take x) h = one_line (read_text s (read.Take x)) (just sign.Take ++ variable (variable_tree s.names x)) _
    (word_then (codes "take") sign.Take refl refl (name_at s.names x) (variable (variable_tree s.names x))
    (variable_part (name_at s.names x) h)) refl refl
read_lines s (read.Mul x a b) h = subst (λ (ws : List Word). Lines (read_line s (read.Mul x a b))
    (just sign.Mul ++ (variable (variable_tree s.names x) ++ (just sign.Equal ++ ws))))
    (append_assoc (variable (variable_tree s.names a)) (variable (variable_tree s.names b)) (just sign.End))
    (assigned_lines (codes "mul") sign.Mul refl refl s x (name_at s.names a ++ spaced (name_at s.names b))
    (variable (variable_tree s.names a) ++ variable (variable_tree s.names b)) h.0
    (two_part s a (name_at s.names b) (variable (variable_tree s.names b)) h.1 (variable_part (name_at s.names b) h.2)))
read_lines s (read.Div x a n) h = subst (λ (ws : List Word). Lines (read_line s (read.Div x a n))
    (just sign.Div ++ (variable (variable_tree s.names x) ++ (just sign.Equal ++ ws))))
    (append_assoc (variable (variable_tree s.names a)) (number (unsigned_abs n)) (just sign.End))
    (assigned_lines (codes "div") sign.Div refl refl s x (name_at s.names a ++ spaced (signed_decimal n))
    (variable (variable_tree s.names a) ++ number (unsigned_abs n)) h.0
    (two_part s a (signed_decimal n) (number (unsigned_abs n)) h.1 (divisor_part n h.2 h.3)))

-- ---- actions and targets

values_apart : (names : List (List ℕ)) (ls : List Lin) → IsApart (listed (lin_text names) (codes " ") ls)
values_apart names [] = refl
values_apart names (l ∷ ls) = refl

values_part : (names : List (List ℕ)) (ls : List Lin) → AllIn (IsLinSaid names) ls →
    Part (listed (lin_text names) (codes " ") ls) (values (values_tree names ls))
values_part names [] h = empty
values_part names (l ∷ ls) h = spaced_part (listed (lin_text names) [] (l ∷ ls)) (sums (sums_tree names (l ∷ ls))) (lins_part names l ls h)

pub action_lines : (s : Scope) (a : Action) → IsActionSaid s a → Lines (action_line s a) (action_statement (action_statement_tree s a))
unfolding keyword_of
action_lines s (action.Put table key vs) h = one_line (action_text s (action.Put table key vs))
    (just sign.Put ++ (place (place_tree s table key) ++ values (values_tree s.names vs))) _
    (word_then (codes "put") sign.Put refl refl (row_text s table key ++ listed (lin_text s.names) (codes " ") vs)
    (place (place_tree s table key) ++ values (values_tree s.names vs))
    (parts (row_text s table key) (listed (lin_text s.names) (codes " ") vs) (place (place_tree s table key))
    (values (values_tree s.names vs)) (row_part s table key h.0) (values_apart s.names vs) (values_part s.names vs h.1))) refl
    (simp append_assoc refl)
action_lines s (action.Del table key) h = one_line (action_text s (action.Del table key)) (just sign.Del ++ place (place_tree s table key))
    _ (word_then (codes "del") sign.Del refl refl (row_text s table key) (place (place_tree s table key)) (row_part s table key h)) refl
    refl
action_lines s (action.Set table key column v) h =
    one_line (action_text s (action.Set table key column v))
    (just sign.Set ++ (cell (cell_tree s table key column) ++ sum (lin_tree s.names v))) _
    (word_then (codes "set") sign.Set refl refl (cell_text s table key column ++ spaced (lin_text s.names v))
    (cell (cell_tree s table key column) ++ sum (lin_tree s.names v))
    (parts (cell_text s table key column) (32 ∷ lin_text s.names v) (cell (cell_tree s table key column)) (sum (lin_tree s.names v))
    (cell_part s table key column h.0) refl (spaced_part (lin_text s.names v) (sum (lin_tree s.names v)) (lin_part s.names v h.1))))
    refl (simp append_assoc refl)
action_lines s (action.Add table key column v) h =
    one_line (action_text s (action.Add table key column v))
    (just sign.Add ++ (cell (cell_tree s table key column) ++ sum (lin_tree s.names v))) _
    (word_then (codes "add") sign.Add refl refl (cell_text s table key column ++ spaced (lin_text s.names v))
    (cell (cell_tree s table key column) ++ sum (lin_tree s.names v))
    (parts (cell_text s table key column) (32 ∷ lin_text s.names v) (cell (cell_tree s table key column)) (sum (lin_tree s.names v))
    (cell_part s table key column h.0) refl (spaced_part (lin_text s.names v) (sum (lin_tree s.names v)) (lin_part s.names v h.1))))
    refl (simp append_assoc refl)

pub target_lines : (points : List Point) (t : Target) → IsTargetSaid points t →
    Lines (line (target_text points t)) (target_statement (target_statement_tree points t))
unfolding keyword_of
target_lines points (target.Point n) h = one_line (target_text points (target.Point n))
    (just sign.Goto ++ name (point_name (slice_get points n))) _
    (word_then (codes "goto") sign.Goto refl refl (point_name (slice_get points n)) (name (point_name (slice_get points n)))
    (named (point_name (slice_get points n)) h.0 h.1)) refl refl
target_lines points target.Commit h = one_line (codes "commit") (just sign.Commit) _ (keyword (codes "commit") sign.Commit refl refl) refl
    refl
target_lines points target.Undone h = one_line (codes "undone") (just sign.Undone) _ (keyword (codes "undone") sign.Undone refl refl) refl
    refl
target_lines points (target.Refuse n) h = one_line (target_text points (target.Refuse n)) (just sign.Refuse ++ number n) _
    (word_then (codes "refuse") sign.Refuse refl refl (decimal n) (number n) (numbered n (count_is_written n h))) refl refl
