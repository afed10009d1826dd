-- Printed values, rows and relations spell their trees.
use Rattle.std.proofs.Common.{◌≡◌, ℕ, Bool, true, false, List, [], ◌∷◌, ◌++◌, Some, None, refl, sym, ap, subst, ◌∙◌, append_assoc, inl, inr}
use Rattle.std.proofs.Common.{arith, zero, suc, ℤ, pos, negsuc}
use Rattle.std.specs.Prelude.{◌==◌, if◌then◌else◌, map, unsigned_abs, slice_get, codes}
use Rattle.std.specs.Str.{bytes_eq}
use Rattle.std.proofs.lemmas.Slice.Eq.{bytes_eq-Decides}
use Rattle.std.proofs.lemmas.Fmt.{decimal_digit}
use Rattle.acc_grammar.specs.Readers.{AllIn, joined}
use Rattle.acc_grammar.proofs.RunReaders.{flag}
use Rattle.acc_base.specs.Numbers.{IsSmall}
use Rattle.acc_base.specs.declared.forms.Lin.{Lin}
use Rattle.acc_base.specs.declared.forms.LinRel.{LinRel}
use Rattle.acc_lex.specs.declared.words.Word.{Word}
use Rattle.acc_lex.specs.declared.words.Sign.TheVariants as sign
use Rattle.acc_lex.specs.Keywords.{keyword_of}
use Rattle.acc_parse_syntax.specs.declared.trees.Variable.{Variable}
use Rattle.acc_parse_syntax.specs.declared.trees.Variable.TheVariants.{Named, Oneself}
use Rattle.acc_parse_syntax.specs.declared.trees.Term.TheVariants.{Plain, Product}
use Rattle.acc_parse_syntax.specs.Spelling.{just, name, number, further as further_words, variable, term as term_words, signed_term, sum, sums}
use Rattle.acc_parse_syntax.specs.Spelling.{place, cell, lin_rel, guard, relation_sign}
use Rattle.acc_print.specs.Lists.{listed}
use Rattle.acc_print.specs.Names.{Scope, name_at, table_name, column_name}
use Rattle.acc_print.specs.Values.{lin_text, row_text, cell_text, comparison, lin_rel_text}
use Rattle.acc_parse_readback.specs.Trees.{variable_named, variable_tree, signed_tree, constant_trees, sum_tree, lin_tree, sums_tree, place_tree}
use Rattle.acc_parse_readback.specs.Trees.{cell_tree, relation_tree, lin_rel_tree, guard_tree}
use Rattle.acc_parse_readback.specs.Printable.{IsVariable, IsTermSaid, IsLinSaid, IsKeySaid, IsRowSaid, IsCellSaid, IsLinRelSaid}
use Rattle.acc_parse_readback.proofs.Rests.{IsApart, Part, Front, Rest, parts, fronts, empty, front_is_part, space, spaced_part}
use Rattle.acc_parse_readback.proofs.Tokens.{keyword, named, equals, opening, closing, comma, dot, at_most, numbered}
use Rattle.acc_parse_readback.proofs.SumParts.{IsWritten, IsTermPart, direction, leading, multiple, further, constant_words, sum_words, sum_part}

-- ---- variables

self_is : keyword_of (codes "self") ≡ Some sign.Oneself
unfolding keyword_of
self_is = refl

pub not_self : (x : List ℕ) → keyword_of x ≡ None → bytes_eq x (codes "self") ≡ false
not_self x h = elim (flag (bytes_eq x (codes "self"))) [
  | inl e ↦ absurd (let wrong = sym h ∙ ap keyword_of ((bytes_eq-Decides x (codes "self")).0 e) ∙ self_is in cc)
  | inr e ↦ e
]

pub variable_part : (x : List ℕ) → IsVariable x → Part x (variable (variable_named x))
variable_part x (inl h) = subst (λ (b : Bool). Part x (variable (if b then Oneself else Named x))) (sym (not_self x h.1)) (named x h.0 h.1)
variable_part x (inr e) = subst (λ (y : List ℕ). Part y (variable (variable_named y))) (sym e)
    (keyword (codes "self") sign.Oneself refl self_is)

-- ---- sums

pub small_is_written : (n : ℤ) → IsSmall n → IsWritten n
small_is_written n h = omega arith

abbrev pub variable_words : List (List ℕ) → ℕ → List Word
variable_words names k = variable (variable_tree names k)

by_one : (b : Bool) (n : ℕ) (x : Variable) → term_words (if b then Plain x else Product n x) ≡
    (if b then variable x else number n ++ (just sign.Times ++ variable x))
by_one true n x = refl
by_one false n x = refl

constant_is : (n : ℤ) → joined signed_term (constant_trees n) ≡ constant_words n
constant_is (pos zero) = refl
constant_is (pos (suc n)) = refl
constant_is (negsuc n) = refl

rest_is : (names : List (List ℕ)) (ts : List (ℕ × ℤ)) (n : ℤ) →
    joined signed_term (map (signed_tree names) ts ++ constant_trees n) ≡ joined (further (variable_words names)) ts ++ constant_words n
rest_is names [] n = constant_is n
rest_is names (t ∷ ts) n =
    ap (λ (ws : List Word). (direction t.1 ++ ws) ++ joined signed_term (map (signed_tree names) ts ++ constant_trees n))
    (by_one (unsigned_abs t.1 == 1) (unsigned_abs t.1) (variable_tree names t.0))
    ∙ ap (λ (ws : List Word). further (variable_words names) t ++ ws) (rest_is names ts n)
    ∙ sym (append_assoc (further (variable_words names) t) (joined (further (variable_words names)) ts) (constant_words n))

sum_is : (names : List (List ℕ)) (ts : List (ℕ × ℤ)) (n : ℤ) → sum (sum_tree names ts n) ≡ sum_words (variable_words names) ts n
sum_is names [] n = refl
sum_is names (t ∷ ts) n =
    ap (λ (ws : List Word). leading t.1 ++ (ws ++ joined signed_term (map (signed_tree names) ts ++ constant_trees n)))
    (by_one (unsigned_abs t.1 == 1) (unsigned_abs t.1) (variable_tree names t.0))
    ∙ ap (λ (ws : List Word). leading t.1 ++ (multiple (unsigned_abs t.1) (variable_words names t.0) ++ ws)) (rest_is names ts n)
    ∙ sym (append_assoc (leading t.1) (multiple (unsigned_abs t.1) (variable_words names t.0))
    (joined (further (variable_words names)) ts ++ constant_words n))

terms_are : (names : List (List ℕ)) (ts : List (ℕ × ℤ)) → AllIn (IsTermSaid names) ts →
    AllIn (IsTermPart (name_at names) (variable_words names)) ts
terms_are names [] h = tt
terms_are names (t ∷ ts) h = ((small_is_written t.1 h.0.1, variable_part (name_at names t.0) h.0.0), terms_are names ts h.1)

pub lin_part : (names : List (List ℕ)) (l : Lin) → IsLinSaid names l → Part (lin_text names l) (sum (lin_tree names l))
lin_part names l h = subst (λ (ws : List Word). Part (lin_text names l) ws) (sym (sum_is names l.coeffs l.constant))
    (sum_part (name_at names) (variable_words names) l.coeffs l.constant (terms_are names l.coeffs h.terms)
    (small_is_written l.constant h.constant))

-- ---- lists

pub joined_map : {S X Y : Type 0} (f : Y → List S) (g : X → Y) (xs : List X) → joined f (map g xs) ≡ joined (λ x. f (g x)) xs
joined_map f g [] = refl
joined_map {S} f g (x ∷ xs) = ap (λ (ws : List S). f (g x) ++ ws) (joined_map f g xs)

-- a front, and a space behind it
pub followed : (text : List ℕ) (ws : List Word) → Front text ws → Front (text ++ codes " ") ws
followed text ws f bytes words r = subst (λ (bs : List ℕ). Rest bs (ws ++ words)) (sym (append_assoc text (codes " ") bytes))
    (f (32 ∷ bytes) words (space bytes words r))

-- how further items are spelled
abbrev pub further_by : {X : Type 0} → (X → List Word) → X → List Word
further_by W x = just sign.Comma ++ W x

abbrev pub ArePart : {X : Type 0} → (X → List ℕ) → (X → List Word) → List X → Type 0
ArePart text W xs = AllIn (λ x. Part (text x) (W x)) xs

pub listed_apart : {X : Type 0} (text : X → List ℕ) (xs : List X) → IsApart (listed text (codes ", ") xs)
listed_apart text [] = refl
listed_apart text (x ∷ xs) = refl

pub others_listed : {X : Type 0} (text : X → List ℕ) (W : X → List Word) (xs : List X) → ArePart text W xs →
    Part (listed text (codes ", ") xs) (joined (further_by W) xs)
others_listed text W [] h = empty
others_listed text W (x ∷ xs) h =
    fronts (codes ", ") (text x ++ listed text (codes ", ") xs) (just sign.Comma) (W x ++ joined (further_by W) xs)
    (followed (codes ",") (just sign.Comma) comma)
    (parts (text x) (listed text (codes ", ") xs) (W x) (joined (further_by W) xs) h.0 (listed_apart text xs) (others_listed text W xs h.1))

-- a first item, and further ones
pub first_listed : {X : Type 0} (text : X → List ℕ) (W : X → List Word) (x : X) (xs : List X) → ArePart text W (x ∷ xs) →
    Part (text x ++ listed text (codes ", ") xs) (W x ++ joined (further_by W) xs)
first_listed text W x xs h = parts (text x) (listed text (codes ", ") xs) (W x) (joined (further_by W) xs) h.0 (listed_apart text xs)
    (others_listed text W xs h.1)

-- ---- rows

lins_are : (names : List (List ℕ)) (ls : List Lin) → AllIn (IsLinSaid names) ls → ArePart (lin_text names) (λ l. sum (lin_tree names l)) ls
lins_are names [] h = tt
lins_are names (l ∷ ls) h = (lin_part names l h.0, lins_are names ls h.1)

pub lins_part : (names : List (List ℕ)) (l : Lin) (ls : List Lin) → AllIn (IsLinSaid names) (l ∷ ls) →
    Part (listed (lin_text names) [] (l ∷ ls)) (sums (sums_tree names (l ∷ ls)))
lins_part names l ls h =
    subst (λ (ws : List Word). Part (listed (lin_text names) [] (l ∷ ls)) (sum (lin_tree names l) ++ ws))
    (sym (joined_map (further_words sum) (lin_tree names) ls))
    (first_listed (lin_text names) (λ m. sum (lin_tree names m)) l ls (lins_are names (l ∷ ls) h))

key_part : (names : List (List ℕ)) (key : List Lin) → IsKeySaid names key →
    Part (listed (lin_text names) [] key) (sums (sums_tree names key))
key_part names [] h = absurd h
key_part names (l ∷ ls) h = lins_part names l ls h

pub row_part : (s : Scope) (table : ℕ) (key : List Lin) → IsRowSaid s table key →
    Part (row_text s table key) (place (place_tree s table key))
row_part s table key h =
    parts (table_name (slice_get s.tables table)) (codes "[" ++ (listed (lin_text s.names) [] key ++ codes "]"))
    (name (table_name (slice_get s.tables table))) (just sign.Open ++ (sums (sums_tree s.names key) ++ just sign.Close))
    (named (table_name (slice_get s.tables table)) h.table.0 h.table.1) refl
    (fronts (codes "[") (listed (lin_text s.names) [] key ++ codes "]") (just sign.Open) (sums (sums_tree s.names key) ++ just sign.Close)
    opening
    (parts (listed (lin_text s.names) [] key) (codes "]") (sums (sums_tree s.names key)) (just sign.Close) (key_part s.names key h.key) refl
    (front_is_part (codes "]") (just sign.Close) closing)))

pub cell_part : (s : Scope) (table : ℕ) (key : List Lin) (column : ℕ) → IsCellSaid s table key column →
    Part (cell_text s table key column) (cell (cell_tree s table key column))
cell_part s table key column h =
    parts (row_text s table key) (codes "." ++ column_name (slice_get s.tables table) column) (place (place_tree s table key))
    (just sign.Dot ++ name (column_name (slice_get s.tables table) column)) (row_part s table key h.row) refl
    (fronts (codes ".") (column_name (slice_get s.tables table) column) (just sign.Dot)
    (name (column_name (slice_get s.tables table) column)) dot
    (named (column_name (slice_get s.tables table) column) h.column.0 h.column.1))

-- ---- relations

pub zero_part : Part (codes "0") (number 0)
zero_part = subst (λ (text : List ℕ). Part text (number 0)) (decimal_digit 0 (omega arith)) (numbered 0 (omega arith))

-- what stands between the sides, and the 0
pub comparison_part : (equal : Bool) → Part (comparison equal) (just (relation_sign (relation_tree equal)) ++ number 0)
comparison_part true = spaced_part (codes "= 0") (just sign.Equal ++ number 0)
    (parts (codes "=") (codes " 0") (just sign.Equal) (number 0) equals refl (spaced_part (codes "0") (number 0) zero_part))
comparison_part false = spaced_part (codes "<= 0") (just sign.AtMost ++ number 0)
    (fronts (codes "<=") (codes " 0") (just sign.AtMost) (number 0) at_most (spaced_part (codes "0") (number 0) zero_part))

pub comparison_apart : (equal : Bool) → IsApart (comparison equal)
comparison_apart true = refl
comparison_apart false = refl

pub lin_rel_part : (names : List (List ℕ)) (r : LinRel) → IsLinRelSaid names r →
    Part (lin_rel_text names r) (lin_rel (lin_rel_tree names r))
lin_rel_part names r h = parts (lin_text names r.lin) (comparison r.equal) (sum (lin_tree names r.lin))
    (just (relation_sign (relation_tree r.equal)) ++ number 0) (lin_part names r.lin h) (comparison_apart r.equal) (comparison_part r.equal)

rels_are : (names : List (List ℕ)) (rs : List LinRel) → AllIn (IsLinRelSaid names) rs →
    ArePart (lin_rel_text names) (λ r. lin_rel (lin_rel_tree names r)) rs
rels_are names [] h = tt
rels_are names (r ∷ rs) h = (lin_rel_part names r h.0, rels_are names rs h.1)

-- a guard behind a space
pub guard_part : (names : List (List ℕ)) (rs : List LinRel) → AllIn (IsLinRelSaid names) rs →
    Part (listed (lin_rel_text names) (codes " ") rs) (guard (guard_tree names rs))
guard_part names [] h = empty
guard_part names (r ∷ rs) h =
    spaced_part (lin_rel_text names r ++ listed (lin_rel_text names) (codes ", ") rs) (guard (guard_tree names (r ∷ rs)))
    (subst (λ (ws : List Word). Part (lin_rel_text names r ++ listed (lin_rel_text names) (codes ", ") rs)
    (lin_rel (lin_rel_tree names r) ++ ws)) (sym (joined_map (further_words lin_rel) (lin_rel_tree names) rs))
    (first_listed (lin_rel_text names) (λ q. lin_rel (lin_rel_tree names q)) r rs (rels_are names (r ∷ rs) h)))
