-- Printed values, rows and clauses pass no limit.
use Rattle.std.proofs.Common.{ℕ, ◌^◌, ◌≤◌, inl, inr, Bool, true, false, List, [], ◌∷◌, ◌++◌, length, sym, subst, arith, zero, suc, ℤ, pos}
use Rattle.std.proofs.Common.{negsuc}
use Rattle.std.specs.Prelude.{◌==◌, if◌then◌else◌, map, unsigned_abs, slice_get, codes}
use Rattle.std.specs.List.{flat_map}
use Rattle.std.specs.Str.{bytes_eq}
use Rattle.std.proofs.lemmas.List.{length-map}
use Rattle.acc_grammar.specs.Readers.{AllIn}
use Rattle.acc_grammar.proofs.Exact.{AllIn-append}
use Rattle.acc_base.specs.Numbers.{IsSmall}
use Rattle.acc_base.specs.declared.forms.Lin.{Lin}
use Rattle.acc_base.specs.declared.forms.LinRel.{LinRel}
use Rattle.acc_parse_syntax.specs.declared.trees.Variable.{Variable}
use Rattle.acc_parse_syntax.specs.declared.trees.Variable.TheVariants.{Named, Oneself}
use Rattle.acc_parse_syntax.specs.declared.trees.Term.TheVariants.{Plain, Product}
use Rattle.acc_parse_syntax.specs.declared.trees.SignedTerm.{SignedTerm}
use Rattle.acc_parse_syntax.specs.declared.trees.Sum.{Sum}
use Rattle.acc_parse_syntax.specs.declared.trees.LinRelTree.{LinRelTree}
use Rattle.acc_base.specs.declared.limits.Limit.TheVariants as limit
use Rattle.acc_parse_limits.specs.Words.{name_marks, number_marks, variable_marks, term_marks, signed_term_marks, sum_marks, sums_marks}
use Rattle.acc_parse_limits.specs.Words.{place_marks, cell_marks, lin_rel_marks, guard_marks}
use Rattle.acc_print.specs.Names.{Scope, name_at, table_name, column_name}
use Rattle.acc_parse_readback.specs.Trees.{variable_named, variable_tree, term_tree, signed_tree, constant_trees, sum_tree, lin_tree, sums_tree}
use Rattle.acc_parse_readback.specs.Trees.{place_tree, cell_tree, lin_rel_tree, guard_tree, zero_tree}
use Rattle.acc_parse_readback.specs.Printable.{IsName, IsVariable, IsTermSaid, IsLinSaid, IsKeySaid, IsRowSaid, IsCellSaid, IsLinRelSaid}
use Rattle.acc_parse_readback.proofs.OnlyEnds.{AreEnds, ends_behind}
use Rattle.acc_parse_readback.proofs.Mapped.{all_mapped}
use Rattle.acc_parse_readback.proofs.Ends.{not_above, ends_each}

-- ---- names, numbers, variables

pub name_ends : (x : List ℕ) → IsName x → AreEnds (name_marks x)
name_ends x h = not_above limit.NameLength 32 (length x) h.2

pub names_end : (xs : List (List ℕ)) → AllIn IsName xs → AreEnds (flat_map name_marks xs)
names_end [] h = tt
names_end (x ∷ xs) h = ends_behind (name_marks x) (flat_map name_marks xs) (name_ends x h.0) (names_end xs h.1)

pub number_ends : (n : ℤ) → IsSmall n → AreEnds (number_marks (unsigned_abs n))
number_ends n h = not_above limit.NumberSize (2 ^ 45) (unsigned_abs n) h

by_flag : (b : Bool) (x : List ℕ) → AreEnds (name_marks x) → AreEnds (variable_marks (if b then Oneself else Named x))
by_flag true x h = tt
by_flag false x h = h

pub variable_ends : (x : List ℕ) → IsVariable x → AreEnds (variable_marks (variable_named x))
variable_ends x (inl h) = by_flag (bytes_eq x (codes "self")) x (name_ends x h)
variable_ends x (inr e) = by_flag (bytes_eq x (codes "self")) x (subst (λ (y : List ℕ). AreEnds (name_marks y)) (sym e) tt)

-- ---- sums

by_one : (b : Bool) (n : ℕ) (x : Variable) → AreEnds (number_marks n) → AreEnds (variable_marks x) →
    AreEnds (term_marks (if b then Plain x else Product n x))
by_one true n x h g = g
by_one false n x h g = ends_behind (number_marks n) (variable_marks x) h g

term_ends : (names : List (List ℕ)) (t : ℕ × ℤ) → IsTermSaid names t →
    AreEnds (term_marks (term_tree (unsigned_abs t.1) (variable_tree names t.0)))
term_ends names t h = by_one (unsigned_abs t.1 == 1) (unsigned_abs t.1) (variable_tree names t.0) (number_ends t.1 h.1)
    (variable_ends (name_at names t.0) h.0)

constant_ends : (n : ℤ) → IsSmall n → AllIn (λ (t : SignedTerm). AreEnds (signed_term_marks t)) (constant_trees n)
constant_ends (pos zero) h = tt
constant_ends (pos (suc n)) h = (number_ends (pos (suc n)) h, tt)
constant_ends (negsuc n) h = (number_ends (negsuc n) h, tt)

sum_ends : (names : List (List ℕ)) (ts : List (ℕ × ℤ)) (n : ℤ) → AllIn (IsTermSaid names) ts → IsSmall n →
    AreEnds (sum_marks (sum_tree names ts n))
sum_ends names [] n h small = ends_behind (number_marks (unsigned_abs n)) [] (number_ends n small) tt
sum_ends names (t ∷ ts) n h small =
    ends_behind (term_marks (term_tree (unsigned_abs t.1) (variable_tree names t.0))) _ (term_ends names t h.0)
    (ends_each signed_term_marks (map (signed_tree names) ts ++ constant_trees n)
    (AllIn-append (λ (u : SignedTerm). AreEnds (signed_term_marks u)) (map (signed_tree names) ts) (constant_trees n)
    (all_mapped (IsTermSaid names) (λ (u : SignedTerm). AreEnds (signed_term_marks u)) (signed_tree names) (term_ends names) ts h.1)
    (constant_ends n small)))

pub lin_ends : (names : List (List ℕ)) (l : Lin) → IsLinSaid names l → AreEnds (sum_marks (lin_tree names l))
lin_ends names l h = sum_ends names l.coeffs l.constant h.terms h.constant

pub sums_end : (names : List (List ℕ)) (l : Lin) (ls : List Lin) → AllIn (IsLinSaid names) (l ∷ ls) →
    AreEnds (sums_marks (sums_tree names (l ∷ ls)))
sums_end names l ls h =
    ends_behind (sum_marks (lin_tree names l)) _ (lin_ends names l h.0)
    (ends_each sum_marks (map (lin_tree names) ls)
    (all_mapped (IsLinSaid names) (λ (v : Sum). AreEnds (sum_marks v)) (lin_tree names) (lin_ends names) ls h.1))

-- ---- rows

key_ends : (names : List (List ℕ)) (key : List Lin) → IsKeySaid names key → AreEnds (sums_marks (sums_tree names key))
key_ends names [] h = absurd h
key_ends names (l ∷ ls) h = sums_end names l ls h

pub row_ends : (s : Scope) (table : ℕ) (key : List Lin) → IsRowSaid s table key → AreEnds (place_marks (place_tree s table key))
row_ends s table key h = ends_behind (name_marks (table_name (slice_get s.tables table))) _
    (name_ends (table_name (slice_get s.tables table)) h.table) (key_ends s.names key h.key)

pub cell_ends : (s : Scope) (table : ℕ) (key : List Lin) (column : ℕ) → IsCellSaid s table key column →
    AreEnds (cell_marks (cell_tree s table key column))
cell_ends s table key column h =
    ends_behind (place_marks (place_tree s table key)) _ (row_ends s table key h.row)
    (name_ends (column_name (slice_get s.tables table) column) h.column)

-- ---- guards

lin_rel_ends : (names : List (List ℕ)) (r : LinRel) → IsLinRelSaid names r → AreEnds (lin_rel_marks (lin_rel_tree names r))
lin_rel_ends names r h = ends_behind (sum_marks (lin_tree names r.lin)) (sum_marks zero_tree) (lin_ends names r.lin h) tt

pub few_others : {X Y : Type 0} (f : X → Y) (most : ℕ) (xs : List X) → length xs ≤ most → length (map f xs) ≤ most
few_others f most xs h = omega (arith, length-map xs f)

pub guard_ends : (names : List (List ℕ)) (rs : List LinRel) → length rs ≤ 16 → AllIn (IsLinRelSaid names) rs →
    AreEnds (guard_marks (guard_tree names rs))
guard_ends names [] few h = tt
guard_ends names (r ∷ rs) few h =
    ends_behind _ _ (not_above limit.GuardRelations 15 (length (map (lin_rel_tree names) rs))
    (few_others (lin_rel_tree names) 15 rs (omega arith)))
    (ends_behind (lin_rel_marks (lin_rel_tree names r)) _ (lin_rel_ends names r h.0)
    (ends_each lin_rel_marks (map (lin_rel_tree names) rs)
    (all_mapped (IsLinRelSaid names) (λ (t : LinRelTree). AreEnds (lin_rel_marks t)) (lin_rel_tree names) (lin_rel_ends names) rs h.1)))
