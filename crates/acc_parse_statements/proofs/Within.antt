-- How many ends words have: none within a statement.
use Rattle.std.proofs.Common.{◌≡◌, ℕ, ◌+◌, ◌≤◌, Bool, true, false, cond, List, [], ◌∷◌, ◌++◌, length, Option, Some, None, refl, sym, ◌∙◌}
use Rattle.std.proofs.Common.{arith}
use Rattle.std.specs.Prelude.{sum_by, if◌then◌else◌}
use Rattle.std.proofs.lemmas.List.Sums.{sum_by-append, sum_by-cons, count_by-le-length}
use Rattle.acc_grammar.specs.Readers.{joined}
use Rattle.acc_lex.specs.declared.words.Sign.TheVariants as sign
use Rattle.acc_lex.specs.declared.words.Word.{Word}
use Rattle.acc_lex.specs.declared.words.Word.TheVariants as word
use Rattle.acc_parse_syntax.specs.declared.trees.Variable.{Variable}
use Rattle.acc_parse_syntax.specs.declared.trees.Variable.TheVariants.{Named, Oneself}
use Rattle.acc_parse_syntax.specs.declared.trees.Term.{Term}
use Rattle.acc_parse_syntax.specs.declared.trees.Term.TheVariants.{Constant, Plain, Product}
use Rattle.acc_parse_syntax.specs.declared.trees.SignedTerm.{SignedTerm}
use Rattle.acc_parse_syntax.specs.declared.trees.Sum.{Sum}
use Rattle.acc_parse_syntax.specs.declared.trees.Sums.{Sums}
use Rattle.acc_parse_syntax.specs.declared.trees.Place.{Place}
use Rattle.acc_parse_syntax.specs.declared.trees.Cell.{Cell}
use Rattle.acc_parse_syntax.specs.declared.trees.Names.{Names}
use Rattle.acc_parse_syntax.specs.declared.trees.Relation.{Relation}
use Rattle.acc_parse_syntax.specs.declared.trees.Relation.TheVariants as relation
use Rattle.acc_parse_syntax.specs.declared.trees.LinRelTree.{LinRelTree}
use Rattle.acc_parse_syntax.specs.declared.trees.LinRels.{LinRels}
use Rattle.acc_parse_syntax.specs.declared.trees.PointName.{PointName}
use Rattle.acc_parse_syntax.specs.declared.trees.PairTree.{PairTree}
use Rattle.acc_parse_syntax.specs.declared.trees.Pairs.{Pairs}
use Rattle.acc_parse_syntax.specs.declared.trees.SideTree.{SideTree}
use Rattle.acc_parse_syntax.specs.declared.trees.SideTree.TheVariants as side_tree
use Rattle.acc_parse_syntax.specs.Spelling.{just, name, number, names, further, variable, term, signed_term, sum, sums, place, cell}
use Rattle.acc_parse_syntax.specs.Spelling.{relation_sign, lin_rel, guard, side_sign, point_name, pair, pairs}
use Rattle.acc_parse_statements.specs.Ends.{is_end, ends}

-- ---- words, one behind another

pub no_ends : ends [] ≡ 0
unfolding ends
no_ends = refl

pub ends_both : (a b : List Word) → ends (a ++ b) ≡ ends a + ends b
unfolding ends
ends_both a b = sum_by-append (λ w. cond (is_end w) 1 0) a b

-- no more ends than words
pub ends_within : (words : List Word) → ends words ≤ length words
unfolding ends
ends_within words = count_by-le-length is_end words

pub behind : (m n : ℕ) (a b : List Word) → ends a ≡ m → ends b ≡ n → ends (a ++ b) ≡ m + n
behind m n a b h k = omega (arith, ends_both a b, h, k)

one_word : (w : Word) → is_end w ≡ false → ends (w ∷ []) ≡ 0
unfolding ends
one_word w e = rw e refl

one_end : ends (word.Sign sign.End ∷ []) ≡ 1
unfolding ends
one_end = refl

-- a word that ends nothing
pub past_word : (n : ℕ) (w : Word) (b : List Word) → is_end w ≡ false → ends b ≡ n → ends (w ∷ b) ≡ n
past_word n w b e h = omega (arith, behind 0 n (w ∷ []) b (one_word w e) h)

-- words that end nothing
pub past_part : (n : ℕ) (a b : List Word) → ends a ≡ 0 → ends b ≡ n → ends (a ++ b) ≡ n
past_part n a b h k = omega (arith, behind 0 n a b h k)

-- the end of a statement, and further words
pub end_then : (n : ℕ) (b : List Word) → ends b ≡ n → ends (word.Sign sign.End ∷ b) ≡ 1 + n
end_then n b h = behind 1 n (word.Sign sign.End ∷ []) b one_end h

-- the end of a statement, last
pub end_last : ends (word.Sign sign.End ∷ []) ≡ 1
end_last = one_end

pub either : (n : ℕ) (b : Bool) (x y : List Word) → ends x ≡ n → ends y ≡ n → ends (if b then x else y) ≡ n
either n true x y h k = h
either n false x y h k = k

-- ---- parts, one behind another

pub joined_none : {T : Type 0} (spell : T → List Word) (xs : List T) → ((x : T) → ends (spell x) ≡ 0) → ends (joined spell xs) ≡ 0
joined_none spell [] h = no_ends
joined_none spell (x ∷ xs) h = past_part 0 (spell x) (joined spell xs) (h x) (joined_none spell xs h)

pub joined_ones : {T : Type 0} (spell : T → List Word) (xs : List T) → ((x : T) → ends (spell x) ≡ 1) → ends (joined spell xs) ≡ length xs
joined_ones spell [] h = no_ends
joined_ones spell (x ∷ xs) h = omega (arith, behind 1 (length xs) (spell x) (joined spell xs) (h x) (joined_ones spell xs h))

pub joined_sum : {T : Type 0} (spell : T → List Word) (count : T → ℕ) (xs : List T) → ((x : T) → ends (spell x) ≡ count x) →
    ends (joined spell xs) ≡ sum_by count xs
joined_sum spell count [] h = no_ends
joined_sum spell count (x ∷ xs) h = behind (count x) (sum_by count xs) (spell x) (joined spell xs) (h x) (joined_sum spell count xs h) ∙ sym
    (sum_by-cons count x xs)

pub further_none : {T : Type 0} (spell : T → List Word) → ((x : T) → ends (spell x) ≡ 0) → (x : T) → ends (further spell x) ≡ 0
further_none spell h x = past_word 0 _ (spell x) refl (h x)

-- ---- what stands within a statement has no end

pub name_none : (x : List ℕ) → ends (name x) ≡ 0
name_none x = past_word 0 _ [] refl no_ends

pub number_none : (n : ℕ) → ends (number n) ≡ 0
number_none n = past_word 0 _ [] refl no_ends

pub names_none : (ns : Names) → ends (names ns) ≡ 0
names_none ns = past_word 0 _ _ refl (joined_none name ns.others name_none)

pub variable_none : (x : Variable) → ends (variable x) ≡ 0
variable_none (Named x) = name_none x
variable_none Oneself = past_word 0 _ [] refl no_ends

term_none : (t : Term) → ends (term t) ≡ 0
term_none (Constant n) = number_none n
term_none (Plain x) = variable_none x
term_none (Product n x) = past_word 0 _ _ refl (past_word 0 _ _ refl (variable_none x))

pub sign_none : (b : Bool) → ends (if b then just sign.Minus else just sign.Plus) ≡ 0
sign_none b = either 0 b _ _ (past_word 0 _ [] refl no_ends) (past_word 0 _ [] refl no_ends)

pub minus_none : (b : Bool) → ends (if b then just sign.Minus else []) ≡ 0
minus_none b = either 0 b _ _ (past_word 0 _ [] refl no_ends) no_ends

signed_term_none : (s : SignedTerm) → ends (signed_term s) ≡ 0
signed_term_none s = past_part 0 _ (term s.term) (sign_none s.minus) (term_none s.term)

pub sum_none : (s : Sum) → ends (sum s) ≡ 0
sum_none s = past_part 0 _ _ (minus_none s.minus)
    (past_part 0 (term s.first) _ (term_none s.first) (joined_none signed_term s.others signed_term_none))

pub sums_none : (s : Sums) → ends (sums s) ≡ 0
sums_none s = past_part 0 (sum s.first) _ (sum_none s.first) (joined_none (further sum) s.others (further_none sum sum_none))

pub place_none : (p : Place) → ends (place p) ≡ 0
place_none p = past_word 0 _ _ refl (past_word 0 _ _ refl (past_part 0 (sums p.key) _ (sums_none p.key) (past_word 0 _ [] refl no_ends)))

pub cell_none : (c : Cell) → ends (cell c) ≡ 0
cell_none c = past_part 0 (place c.place) _ (place_none c.place) (past_word 0 _ _ refl (name_none c.column))

relation_none : (r : Relation) → ends (just (relation_sign r)) ≡ 0
relation_none relation.AtMost = past_word 0 _ [] refl no_ends
relation_none relation.AtLeast = past_word 0 _ [] refl no_ends
relation_none relation.Equal = past_word 0 _ [] refl no_ends

-- two parts, and how they compare
pub compared_none : (a b : List Word) (r : Relation) → ends a ≡ 0 → ends b ≡ 0 → ends (a ++ (just (relation_sign r) ++ b)) ≡ 0
compared_none a b r h k = past_part 0 a _ h (past_part 0 (just (relation_sign r)) b (relation_none r) k)

lin_rel_none : (r : LinRelTree) → ends (lin_rel r) ≡ 0
lin_rel_none r = compared_none (sum r.left) (sum r.right) r.relation (sum_none r.left) (sum_none r.right)

pub guard_none : (g : Option LinRels) → ends (guard g) ≡ 0
guard_none None = no_ends
guard_none (Some rs) = past_part 0 (lin_rel rs.first) _ (lin_rel_none rs.first)
    (joined_none (further lin_rel) rs.others (further_none lin_rel lin_rel_none))

pub side_none : (s : SideTree) → ends (just (side_sign s)) ≡ 0
side_none side_tree.Next = past_word 0 _ [] refl no_ends
side_none side_tree.Undo = past_word 0 _ [] refl no_ends

pub point_name_none : (p : PointName) → ends (point_name p) ≡ 0
point_name_none p = past_word 0 _ _ refl (past_word 0 _ _ refl (name_none p.point))

pair_none : (p : PairTree) → ends (pair p) ≡ 0
pair_none p = past_part 0 (variable p.held) _ (variable_none p.held) (past_word 0 _ _ refl (variable_none p.step))

pub pairs_none : (ps : Option Pairs) → ends (pairs ps) ≡ 0
pairs_none None = no_ends
pairs_none (Some ps) = past_word 0 _ _ refl (past_part 0 (pair ps.first) _ (pair_none ps.first)
    (joined_none (further pair) ps.others (further_none pair pair_none)))
