-- The readers of forms and of relations between them are exact.
use Rattle.std.proofs.Common.{◌≡◌, ℕ, ◌<◌, Bool, true, false, List, [], ◌∷◌, ◌++◌, length, Option, Some, None, Ok, refl, sym, ap, subst}
use Rattle.std.proofs.Common.{◌∙◌, append_assoc, arith, inl, inr}
use Rattle.acc_lex.specs.declared.words.Sign.{Sign}
use Rattle.acc_lex.specs.declared.words.Sign.TheVariants as sign
use Rattle.acc_lex.specs.declared.words.Word.{Word}
use Rattle.acc_lex.specs.declared.words.Word.TheVariants as word
use Rattle.acc_grammar.specs.Readers.{joined, many}
use Rattle.acc_grammar.proofs.Exact.{bind_assoc, Exact, All, Each, seq_exact, Made, made_exact, trees_exact, same_exact, either, Or}
use Rattle.acc_grammar.proofs.Exact.{either_exact, maybe_exact}
use Rattle.acc_grammar.proofs.Many.{Shrinks, item_shrinks, Runs, many_exact}
use Rattle.acc_parse_syntax.specs.declared.trees.Variable.TheVariants.{Named, Oneself}
use Rattle.acc_parse_syntax.specs.declared.trees.Sums.{Sums}
use Rattle.acc_parse_syntax.specs.declared.trees.Place.{Place}
use Rattle.acc_parse_syntax.specs.declared.trees.Cell.{Cell}
use Rattle.acc_parse_syntax.specs.declared.trees.Relation.{Relation}
use Rattle.acc_parse_syntax.specs.declared.trees.Relation.TheVariants as relation
use Rattle.acc_parse_syntax.specs.declared.trees.Operand.{Operand}
use Rattle.acc_parse_syntax.specs.declared.trees.Operand.TheVariants as operands
use Rattle.acc_parse_syntax.specs.declared.trees.FormTerm.{FormTerm}
use Rattle.acc_parse_syntax.specs.declared.trees.FormTerm.TheVariants.{Constant, Plain, Product}
use Rattle.acc_parse_syntax.specs.declared.trees.SignedFormTerm.{SignedFormTerm}
use Rattle.acc_parse_syntax.specs.declared.trees.FormTree.{FormTree}
use Rattle.acc_parse_syntax.specs.declared.trees.FormRelTree.{FormRelTree}
use Rattle.acc_parse_syntax.specs.Spelling.{just, name, number, further, sums, operand, form_term, signed_form_term, form, form_rel}
use Rattle.acc_parse_syntax.specs.WordReaders.{same_sign, comes, is_number, sign_at, further_at}
use Rattle.acc_parse_syntax.specs.ValueReaders.{starts_signed_term}
use Rattle.acc_parse_syntax.specs.FormReaders.{key_and_column_at, named_operand, named_operand_at, has_operand_at, count_operand_at}
use Rattle.acc_parse_syntax.specs.FormReaders.{sum_operand_at, self_operand_at, operand_at, operand_factor_at, form_product_of}
use Rattle.acc_parse_syntax.specs.FormReaders.{form_number_term_at, form_term_at, signed_form_term_at, form_at, form_rel_at}
use Rattle.acc_parse_syntax.proofs.Following.{CanFollow}
use Rattle.acc_parse_syntax.proofs.Combinators.{all_in, Sure, sure_exact}
use Rattle.acc_parse_syntax.proofs.WordLaws.{same_is, comes_head, number_head, name_exact, number_exact, after_exact, further_shrinks}
use Rattle.acc_parse_syntax.proofs.WordLaws.{furthers_exact, furthers_end}
use Rattle.acc_parse_syntax.proofs.KindLaws.{none_is, not_that, BeginsOne, Kinds, or_told}
use Rattle.acc_parse_syntax.proofs.SumLaws.{direction, direction_exact, signed_head, minus, MinusGoes, minus_exact, Stop}
use Rattle.acc_parse_syntax.proofs.RowLaws.{sums_exact, sums_ends, place_exact, cell_exact}
use Rattle.acc_parse_syntax.proofs.GuardLaws.{relation_word, relation_exact, relation_stops}

-- ---- operands

-- no bracket follows a variable that has a name
abbrev OperandGoes : Operand → List Word → Type 0
OperandGoes (operands.Variable (Named x)) rest = comes sign.Open rest ≡ false
OperandGoes (operands.Variable Oneself) rest = Unit {0}
OperandGoes (operands.Column c) rest = Unit {0}
OperandGoes (operands.Has p) rest = Unit {0}
OperandGoes (operands.Count p) rest = Unit {0}
OperandGoes (operands.Sum c) rest = Unit {0}

operand_heads : (o : Operand) (w : Word) (more after : List Word) → OperandGoes o (w ∷ more) → OperandGoes o (w ∷ after)
operand_heads (operands.Variable (Named x)) w more after g = sym (comes_head sign.Open w more after) ∙ g
operand_heads (operands.Variable Oneself) w more after g = tt
operand_heads (operands.Column c) w more after g = tt
operand_heads (operands.Has p) w more after g = tt
operand_heads (operands.Count p) w more after g = tt
operand_heads (operands.Sum c) w more after g = tt

operand_ends : (o : Operand) (rest : List Word) → comes sign.Open rest ≡ false → OperandGoes o rest
operand_ends (operands.Variable (Named x)) rest h = h
operand_ends (operands.Variable Oneself) rest h = tt
operand_ends (operands.Column c) rest h = tt
operand_ends (operands.Has p) rest h = tt
operand_ends (operands.Count p) rest h = tt
operand_ends (operands.Sum c) rest h = tt

-- ---- names: a variable, or a column

-- [ key ] . column, or nothing
abbrev key_and_column : Option (Sums × List ℕ) → List Word
key_and_column None = []
key_and_column (Some p) = just sign.Open ++ (sums p.0 ++ (just sign.Close ++ (just sign.Dot ++ name p.1)))

abbrev KeyGoes : Option (Sums × List ℕ) → List Word → Type 0
KeyGoes None rest = comes sign.Open rest ≡ false
KeyGoes (Some p) rest = Unit {0}

key_heads : (k : Option (Sums × List ℕ)) (w : Word) (more after : List Word) → KeyGoes k (w ∷ more) → KeyGoes k (w ∷ after)
key_heads None w more after g = sym (comes_head sign.Open w more after) ∙ g
key_heads (Some p) w more after g = tt

key_and_column_exact : Exact CanFollow key_and_column All KeyGoes key_and_column_at
unfolding key_and_column_at
key_and_column_exact =
    let column = after_exact sign.Close refl (after_exact sign.Dot refl name_exact) in
    let there = made_exact (after_exact sign.Open refl (seq_exact sums_exact column)) (λ p. Some p) key_and_column KeyGoes (λ a p. refl)
    (λ a rest g. tt) (λ a rest p g. (sums_ends a.0 _ refl (record { times = refl; signed = refl }), tt)) key_heads in
    let whole = maybe_exact there (comes sign.Open) (comes_head sign.Open) None refl
    (λ t rest p g. subst (λ (z : Option (Sums × List ℕ)). comes sign.Open (key_and_column z ++ rest) ≡ true) p.2 refl) (λ rest h. h)
    (λ rest h. h) in
    trees_exact (same_exact (λ ws. simp bind_assoc) whole) (λ t p. tt) (λ t q. trees t)
  where
    trees : (k : Option (Sums × List ℕ)) → Or (Made (λ (p : Sums × List ℕ). Some p) (Each All All))
        (λ (u : Option (Sums × List ℕ)). None ≡ u) k
    trees None = inr refl
    trees (Some p) = inl (p, (tt, tt), refl)

abbrev IsNamed : Operand → Type 0
IsNamed t = (x : List ℕ) × (k : Option (Sums × List ℕ)) × (named_operand x k ≡ t)

named_is : (x : List ℕ) (k : Option (Sums × List ℕ)) → operand (named_operand x k) ≡ name x ++ key_and_column k
named_is x None = refl
named_is x (Some p) = ap (λ (z : List Word). word.Name x ∷ (word.Sign sign.Open ∷ z))
    (append_assoc (sums p.0) (just sign.Close) (just sign.Dot ++ name p.1))

named_from : (x : List ℕ) (k : Option (Sums × List ℕ)) (rest : List Word) → KeyGoes k rest → OperandGoes (named_operand x k) rest
named_from x None rest g = g
named_from x (Some p) rest g = tt

named_to : (x : List ℕ) (k : Option (Sums × List ℕ)) (rest : List Word) → OperandGoes (named_operand x k) rest → KeyGoes k rest
named_to x None rest g = g
named_to x (Some p) rest g = tt

named_exact : Exact CanFollow operand IsNamed OperandGoes named_operand_at
unfolding named_operand_at
named_exact =
    let whole = made_exact (seq_exact name_exact key_and_column_exact) (λ p. named_operand p.0 p.1) operand OperandGoes
    (λ a p. named_is a.0 a.1) (λ a rest g. named_from a.0 a.1 rest g.1) (λ a rest p g. (tt, named_to a.0 a.1 rest g)) operand_heads in
    trees_exact (same_exact (λ ws. simp bind_assoc) whole) (λ t p. (p.0.0, p.0.1, p.2)) (λ t q. ((q.0, q.1), (tt, tt), q.2))

-- ---- the other kinds

abbrev IsOneself : Operand → Type 0
IsOneself t = operands.Variable Oneself ≡ t

self_sure : (ws : List Word) → comes sign.Oneself ws ≡ true → Sure operand IsOneself OperandGoes self_operand_at ws
unfolding sign_at
self_sure [] h = absurd cc
self_sure (word.Name x ∷ ws) h = absurd cc
self_sure (word.Number n ∷ ws) h = absurd cc
self_sure (word.Sign s ∷ ws) h = (
  (operands.Variable Oneself, ws),
  rw h refl,
  ap (λ (z : Sign). word.Sign z ∷ ws) (same_is s sign.Oneself h),
  refl,
  tt,
)

self_again : (t : Operand) (rest : List Word) → IsOneself t → self_operand_at (operand t ++ rest) ≡ Ok (t, rest)
unfolding sign_at
self_again t rest p = subst (λ (z : Operand). self_operand_at (operand z ++ rest) ≡ Ok (z, rest)) p refl

-- `self`, or what begins with a name
self_or_named_exact : Exact CanFollow operand (Or IsOneself IsNamed) OperandGoes
    (either (comes sign.Oneself) self_operand_at named_operand_at)
self_or_named_exact = sure_exact (comes sign.Oneself) (comes_head sign.Oneself) self_sure (λ t rest p g. self_again t rest p) named_exact
    (λ t rest p g. subst (λ (z : Operand). comes sign.Oneself (operand z ++ rest) ≡ true) p refl)
    (λ t rest q g. subst (λ (z : Operand). comes sign.Oneself (operand z ++ rest) ≡ false) q.2 (not_self q.0 q.1 rest))
  where
    not_self : (x : List ℕ) (k : Option (Sums × List ℕ)) (rest : List Word) →
        comes sign.Oneself (operand (named_operand x k) ++ rest) ≡ false
    not_self x None rest = refl
    not_self x (Some p) rest = refl

abbrev IsHas : Operand → Type 0
IsHas t = (p : Place) × (operands.Has p ≡ t)

has_exact : Exact CanFollow operand IsHas OperandGoes has_operand_at
has_exact =
    let whole = made_exact (after_exact sign.Has refl place_exact) (λ p. operands.Has p) operand OperandGoes (λ a p. refl) (λ a rest g. tt)
    (λ a rest p g. tt) operand_heads in
    trees_exact (same_exact (λ ws. simp bind_assoc) whole) (λ t p. (p.0, p.2)) (λ t q. (q.0, tt, q.1))

abbrev IsCount : Operand → Type 0
IsCount t = (p : Place) × (operands.Count p ≡ t)

count_exact : Exact CanFollow operand IsCount OperandGoes count_operand_at
count_exact =
    let whole = made_exact (after_exact sign.Count refl place_exact) (λ p. operands.Count p) operand OperandGoes (λ a p. refl)
    (λ a rest g. tt) (λ a rest p g. tt) operand_heads in
    trees_exact (same_exact (λ ws. simp bind_assoc) whole) (λ t p. (p.0, p.2)) (λ t q. (q.0, tt, q.1))

abbrev IsSum : Operand → Type 0
IsSum t = (c : Cell) × (operands.Sum c ≡ t)

sum_exact : Exact CanFollow operand IsSum OperandGoes sum_operand_at
sum_exact =
    let whole = made_exact (after_exact sign.Sum refl cell_exact) (λ c. operands.Sum c) operand OperandGoes (λ a p. refl) (λ a rest g. tt)
    (λ a rest p g. tt) operand_heads in
    trees_exact (same_exact (λ ws. simp bind_assoc) whole) (λ t p. (p.0, p.2)) (λ t q. (q.0, tt, q.1))

-- ---- an operand of any kind

-- the word that an operand begins with; the end of a statement, with which none does, stands for a name
abbrev first : Operand → Sign
first (operands.Variable (Named x)) = sign.End
first (operands.Variable Oneself) = sign.Oneself
first (operands.Column c) = sign.End
first (operands.Has p) = sign.Has
first (operands.Count p) = sign.Count
first (operands.Sum c) = sign.Sum

tells : (k : Sign) → same_sign sign.End k ≡ false → (t : Operand) (rest : List Word) → comes k (operand t ++ rest) ≡ same_sign (first t) k
tells k h (operands.Variable (Named x)) rest = sym h
tells k h (operands.Variable Oneself) rest = refl
tells k h (operands.Column c) rest = sym h
tells k h (operands.Has p) rest = refl
tells k h (operands.Count p) rest = refl
tells k h (operands.Sum c) rest = refl

abbrev begins : List Sign
begins = sign.Has ∷ (sign.Count ∷ (sign.Sum ∷ (sign.Oneself ∷ (sign.End ∷ []))))

abbrev IsOperand : Operand → Type 0
IsOperand = Or IsHas (Or IsCount (Or IsSum (Or IsOneself IsNamed)))

operand_trees : (t : Operand) → IsOperand t
operand_trees (operands.Variable (Named x)) = inr (inr (inr (inr (x, None, refl))))
operand_trees (operands.Variable Oneself) = inr (inr (inr (inl refl)))
operand_trees (operands.Column c) = inr (inr (inr (inr (c.place.table, Some (c.place.key, c.column), refl))))
operand_trees (operands.Has p) = inl (p, refl)
operand_trees (operands.Count p) = inr (inl (p, refl))
operand_trees (operands.Sum c) = inr (inr (inl (c, refl)))

named_first : (x : List ℕ) (k : Option (Sums × List ℕ)) → sign.End ≡ first (named_operand x k)
named_first x None = refl
named_first x (Some p) = refl

self_or_named_first : (t : Operand) → Or IsOneself IsNamed t → BeginsOne first (sign.Oneself ∷ (sign.End ∷ [])) t
self_or_named_first t (inl p) = inl (ap first p)
self_or_named_first t (inr q) = inr (inl (named_first q.0 q.1 ∙ ap first q.2))

operand_kinds : Kinds operand first OperandGoes IsOperand begins operand_at
unfolding operand_at
operand_kinds =
    or_told sign.Has (tells sign.Has refl) has_exact (λ t p. ap first p.1) refl (
    or_told sign.Count (tells sign.Count refl) count_exact (λ t p. ap first p.1) refl (
    or_told sign.Sum (tells sign.Sum refl) sum_exact (λ t p. ap first p.1) refl (
    record { exact = self_or_named_exact; firsts = self_or_named_first })))

operand_exact : Exact CanFollow operand All OperandGoes operand_at
operand_exact = trees_exact operand_kinds.exact (λ t p. tt) (λ t q. operand_trees t)

-- no operand begins with a word that none of the kinds begins with
not_operand : (k : Sign) → same_sign sign.End k ≡ false → none_is begins k ≡ true → (t : Operand) (rest : List Word) →
    comes k (operand t ++ rest) ≡ false
not_operand k h n t rest = tells k h t rest ∙ not_that first begins k t n (operand_kinds.firsts t (operand_trees t))

operand_is_no_number : (t : Operand) (rest : List Word) → is_number (operand t ++ rest) ≡ false
operand_is_no_number (operands.Variable (Named x)) rest = refl
operand_is_no_number (operands.Variable Oneself) rest = refl
operand_is_no_number (operands.Column c) rest = refl
operand_is_no_number (operands.Has p) rest = refl
operand_is_no_number (operands.Count p) rest = refl
operand_is_no_number (operands.Sum c) rest = refl

-- ---- terms

abbrev factor : Option Operand → List Word
factor None = []
factor (Some x) = just sign.Times ++ operand x

-- no factor follows where there is none
abbrev FactorGoes : Option Operand → List Word → Type 0
FactorGoes None rest = comes sign.Times rest ≡ false
FactorGoes (Some x) rest = OperandGoes x rest

factor_heads : (f : Option Operand) (w : Word) (more after : List Word) → FactorGoes f (w ∷ more) → FactorGoes f (w ∷ after)
factor_heads None w more after g = sym (comes_head sign.Times w more after) ∙ g
factor_heads (Some x) w more after g = operand_heads x w more after g

factor_exact : Exact CanFollow factor All FactorGoes operand_factor_at
unfolding operand_factor_at
factor_exact =
    let inner = made_exact (after_exact sign.Times refl operand_exact) (λ x. Some x) factor FactorGoes (λ a p. refl) (λ a rest g. g)
    (λ a rest p g. g) factor_heads in
    let whole = maybe_exact inner (comes sign.Times) (comes_head sign.Times) None refl
    (λ t rest p g. subst (λ (z : Option Operand). comes sign.Times (factor z ++ rest) ≡ true) p.2 refl) (λ rest h. h) (λ rest h. h) in
    trees_exact (same_exact (λ ws. simp bind_assoc) whole) (λ t p. tt) (λ t q. trees t)
  where
    trees : (t : Option Operand) → Or (Made (λ (x : Operand). Some x) All) (λ (u : Option Operand). None ≡ u) t
    trees None = inr refl
    trees (Some x) = inl (x, tt, refl)

-- a number alone is followed by no factor, and an operand by what may follow it
abbrev TermGoes : FormTerm → List Word → Type 0
TermGoes (Constant n) rest = comes sign.Times rest ≡ false
TermGoes (Plain x) rest = OperandGoes x rest
TermGoes (Product n x) rest = OperandGoes x rest

term_heads : (t : FormTerm) (w : Word) (more after : List Word) → TermGoes t (w ∷ more) → TermGoes t (w ∷ after)
term_heads (Constant n) w more after g = sym (comes_head sign.Times w more after) ∙ g
term_heads (Plain x) w more after g = operand_heads x w more after g
term_heads (Product n x) w more after g = operand_heads x w more after g

product_is : (n : ℕ) (f : Option Operand) → form_term (form_product_of n f) ≡ number n ++ factor f
product_is n None = refl
product_is n (Some x) = refl

product_from : (n : ℕ) (f : Option Operand) (rest : List Word) → FactorGoes f rest → TermGoes (form_product_of n f) rest
product_from n None rest g = g
product_from n (Some x) rest g = g

product_to : (n : ℕ) (f : Option Operand) (rest : List Word) → TermGoes (form_product_of n f) rest → FactorGoes f rest
product_to n None rest g = g
product_to n (Some x) rest g = g

product_starts : (n : ℕ) (f : Option Operand) (rest : List Word) → is_number (form_term (form_product_of n f) ++ rest) ≡ true
product_starts n None rest = refl
product_starts n (Some x) rest = refl

form_term_exact : Exact CanFollow form_term All TermGoes form_term_at
unfolding form_term_at form_number_term_at
form_term_exact =
    let product = made_exact (seq_exact number_exact factor_exact) (λ p. form_product_of p.0 p.1) form_term TermGoes
    (λ a p. product_is a.0 a.1) (λ a rest g. product_from a.0 a.1 rest g.1) (λ a rest p g. (tt, product_to a.0 a.1 rest g))
    term_heads in
    let plain = made_exact operand_exact Plain form_term TermGoes (λ a p. refl) (λ a rest g. g) (λ a rest p g. g) term_heads in
    let whole = either_exact product plain is_number number_head
    (λ t rest p g. subst (λ (z : FormTerm). is_number (form_term z ++ rest) ≡ true) p.2 (product_starts p.0.0 p.0.1 rest))
    (λ t rest p g. subst (λ (z : FormTerm). is_number (form_term z ++ rest) ≡ false) p.2 (operand_is_no_number p.0 rest)) in
    trees_exact (same_exact (λ ws. simp bind_assoc) whole) (λ t p. tt) (λ t q. trees t)
  where
    trees : (t : FormTerm) → Or (Made (λ (p : ℕ × Option Operand). form_product_of p.0 p.1) (Each All All)) (Made Plain All) t
    trees (Constant n) = inl ((n, None), (tt, tt), refl)
    trees (Plain x) = inr (x, tt, refl)
    trees (Product n x) = inl ((n, Some x), (tt, tt), refl)

-- no term begins with a word that no operand begins with
not_term : (k : Sign) → same_sign sign.End k ≡ false → none_is begins k ≡ true → (t : FormTerm) (rest : List Word) →
    comes k (form_term t ++ rest) ≡ false
not_term k h n (Constant m) rest = refl
not_term k h n (Plain x) rest = not_operand k h n x rest
not_term k h n (Product m x) rest = refl

-- ---- signed terms

abbrev SignedGoes : SignedFormTerm → List Word → Type 0
SignedGoes s rest = TermGoes s.term rest

signed_is : (m : Bool) (t : FormTerm) → signed_form_term (record { minus = m; term = t }) ≡ direction m ++ form_term t
signed_is true t = refl
signed_is false t = refl

signed_exact : Exact CanFollow signed_form_term All SignedGoes signed_form_term_at
unfolding signed_form_term_at
signed_exact =
    let whole = made_exact (seq_exact direction_exact form_term_exact) (λ p. record { minus = p.0; term = p.1 }) signed_form_term SignedGoes
    (λ a p. signed_is a.0 a.1) (λ a rest g. g.1) (λ a rest p g. (tt, g))
    (λ b w more after g. form_term_exact.heads b.term w more after g) in
    trees_exact (same_exact (λ ws. simp bind_assoc) whole) (λ t p. tt) (λ t q. ((t.minus, t.term), (tt, tt), refl))

signed_starts : (m : Bool) (t : FormTerm) (rest : List Word) →
    starts_signed_term (signed_form_term (record { minus = m; term = t }) ++ rest) ≡ true
signed_starts true t rest = refl
signed_starts false t rest = refl

signed_long : (m : Bool) (t : FormTerm) → 0 < length (signed_form_term (record { minus = m; term = t }))
signed_long true t = omega arith
signed_long false t = omega arith

pub signed_form_term_shrinks : Shrinks signed_form_term_at
signed_form_term_shrinks = item_shrinks signed_exact starts_signed_term signed_head refl (λ t rest p g. signed_starts t.minus t.term rest)
    (λ t p. signed_long t.minus t.term)

abbrev SignedRuns : List SignedFormTerm → List Word → Type 0
SignedRuns = Runs signed_form_term starts_signed_term SignedGoes

signed_terms_exact : Exact CanFollow (joined signed_form_term) All SignedRuns (many starts_signed_term signed_form_term_at)
signed_terms_exact = trees_exact (many_exact signed_exact starts_signed_term signed_head refl
    (λ t rest p g. signed_starts t.minus t.term rest) (λ t p. signed_long t.minus t.term)) (λ t p. tt) (λ t q. all_in t)

-- ---- forms

abbrev FormGoes : FormTree → List Word → Type 0
FormGoes f rest = TermGoes f.first (joined signed_form_term f.others ++ rest) × SignedRuns f.others rest

form_heads : (f : FormTree) (w : Word) (more after : List Word) → FormGoes f (w ∷ more) → FormGoes f (w ∷ after)
form_heads f w more after g = (seq_exact form_term_exact signed_terms_exact).heads (f.first, f.others) w more after g

form_is : (m : Bool) (t : FormTerm) (ss : List SignedFormTerm) →
    form (record { minus = m; first = t; others = ss }) ≡ minus m ++ (form_term t ++ joined signed_form_term ss)
form_is true t ss = refl
form_is false t ss = refl

no_minus : (m : Bool) (t : FormTerm) (ss : List SignedFormTerm) (rest : List Word) →
    MinusGoes m ((form_term t ++ joined signed_form_term ss) ++ rest)
no_minus true t ss rest = tt
no_minus false t ss rest = ap (comes sign.Minus) (append_assoc (form_term t) (joined signed_form_term ss) rest) ∙ not_term sign.Minus refl
    refl t _

form_exact : Exact CanFollow form All FormGoes form_at
unfolding form_at
form_exact =
    let whole = made_exact (seq_exact minus_exact (seq_exact form_term_exact signed_terms_exact))
    (λ p. record { minus = p.0; first = p.1.0; others = p.1.1 }) form FormGoes (λ a p. form_is a.0 a.1.0 a.1.1) (λ a rest g. g.1)
    (λ a rest p g. (no_minus a.0 a.1.0 a.1.1 rest, g)) form_heads in
    trees_exact (same_exact (λ ws. simp bind_assoc) whole) (λ t p. tt) (λ t q. ((t.minus, (t.first, t.others)), (tt, (tt, tt)), refl))

-- where a form may end
pub record FormStop (rest : List Word) : Type 0 where
  pub stop : Stop rest
  pub key : comes sign.Open rest ≡ false

term_ends : (t : FormTerm) (rest : List Word) → comes sign.Times rest ≡ false → comes sign.Open rest ≡ false → TermGoes t rest
term_ends (Constant n) rest h o = h
term_ends (Plain x) rest h o = operand_ends x rest o
term_ends (Product n x) rest h o = operand_ends x rest o

-- further terms begin with no other word than plus or minus
not_signed : (k : Sign) → same_sign sign.Plus k ≡ false → same_sign sign.Minus k ≡ false → (m : Bool) (t : FormTerm) (rest : List Word) →
    comes k (signed_form_term (record { minus = m; term = t }) ++ rest) ≡ false
not_signed k p q true t rest = q
not_signed k p q false t rest = p

none_in : (k : Sign) → same_sign sign.Plus k ≡ false → same_sign sign.Minus k ≡ false → (ss : List SignedFormTerm) (rest : List Word) →
    comes k rest ≡ false → comes k (joined signed_form_term ss ++ rest) ≡ false
none_in k p q [] rest h = h
none_in k p q (s ∷ ss) rest h = ap (comes k) (append_assoc (signed_form_term s) (joined signed_form_term ss) rest) ∙ not_signed k p q
    s.minus s.term (joined signed_form_term ss ++ rest)

first_ends : (t : FormTerm) (ss : List SignedFormTerm) (rest : List Word) → FormStop rest → TermGoes t (joined signed_form_term ss ++ rest)
first_ends t ss rest h = term_ends t _ (none_in sign.Times refl refl ss rest h.stop.times) (none_in sign.Open refl refl ss rest h.key)

signed_end : (ss : List SignedFormTerm) (rest : List Word) → FormStop rest → SignedRuns ss rest
signed_end [] rest h = h.stop.signed
signed_end (s ∷ ss) rest h = (first_ends s.term ss rest h, signed_end ss rest h)

form_ends : (f : FormTree) (rest : List Word) → FormStop rest → FormGoes f rest
form_ends f rest h = (first_ends f.first f.others rest h, signed_end f.others rest h)

not_form_at : (k : Sign) → same_sign sign.End k ≡ false → none_is begins k ≡ true → same_sign sign.Minus k ≡ false →
    (m : Bool) (t : FormTerm) (ss : List SignedFormTerm) (rest : List Word) →
    comes k (form (record { minus = m; first = t; others = ss }) ++ rest) ≡ false
not_form_at k h n q true t ss rest = q
not_form_at k h n q false t ss rest = ap (comes k) (append_assoc (form_term t) (joined signed_form_term ss) rest) ∙ not_term k h n t _

-- no form begins with `forall`
not_forall : (f : FormTree) (rest : List Word) → comes sign.Forall (form f ++ rest) ≡ false
not_forall f rest = not_form_at sign.Forall refl refl refl f.minus f.first f.others rest

-- ---- relations between forms

abbrev pub FormRelGoes : FormRelTree → List Word → Type 0
FormRelGoes r rest = FormGoes r.right rest

form_rel_heads : (r : FormRelTree) (w : Word) (more after : List Word) → FormRelGoes r (w ∷ more) → FormRelGoes r (w ∷ after)
form_rel_heads r w more after g = form_heads r.right w more after g

no_key : (r : Relation) (rest : List Word) → comes sign.Open (relation_word r ++ rest) ≡ false
no_key relation.AtMost rest = refl
no_key relation.AtLeast rest = refl
no_key relation.Equal rest = refl

left_ends : (f : FormTree) (r : Relation) (behind rest : List Word) → FormGoes f ((relation_word r ++ behind) ++ rest)
left_ends f r behind rest = form_ends f _ (record { stop = relation_stops r (behind ++ rest); key = no_key r (behind ++ rest) })

pub form_rel_exact : Exact CanFollow form_rel All FormRelGoes form_rel_at
unfolding form_rel_at
form_rel_exact =
    let whole = made_exact (seq_exact form_exact (seq_exact relation_exact form_exact))
    (λ p. record { left = p.0; relation = p.1.0; right = p.1.1 }) form_rel FormRelGoes (λ a p. refl) (λ a rest g. g.1.1)
    (λ a rest p g. (left_ends a.0 a.1.0 (form a.1.1) rest, (tt, g))) form_rel_heads in
    trees_exact (same_exact (λ ws. simp bind_assoc) whole) (λ t p. tt) (λ t q. ((t.left, (t.relation, t.right)), (tt, (tt, tt)), refl))

pub form_rel_ends : (r : FormRelTree) (rest : List Word) → FormStop rest → FormRelGoes r rest
form_rel_ends r rest h = form_ends r.right rest h

-- no relation begins with `forall`
pub rel_is_no_forall : (r : FormRelTree) (rest : List Word) → comes sign.Forall (form_rel r ++ rest) ≡ false
rel_is_no_forall r rest = ap (comes sign.Forall) (append_assoc (form r.left) (relation_word r.relation ++ form r.right) rest) ∙ not_forall
    r.left _

-- ---- lists of relations

pub further_form_rel_shrinks : Shrinks (further_at form_rel_at)
further_form_rel_shrinks = further_shrinks form_rel_exact

abbrev pub FormRelsRun : List FormRelTree → List Word → Type 0
FormRelsRun = Runs (further form_rel) (comes sign.Comma) FormRelGoes

pub further_form_rels_exact : Exact CanFollow (joined (further form_rel)) All FormRelsRun (many (comes sign.Comma) (further_at form_rel_at))
further_form_rels_exact = trees_exact (furthers_exact form_rel_exact) (λ t p. tt) (λ t q. all_in t)

comma_stops : (ws : List Word) → FormStop (word.Sign sign.Comma ∷ ws)
comma_stops ws = record { stop = record { times = refl; signed = refl }; key = refl }

pub further_form_rels_end : (rs : List FormRelTree) (rest : List Word) → comes sign.Comma rest ≡ false → FormStop rest → FormRelsRun rs rest
further_form_rels_end rs rest c h = furthers_end FormStop form_rel FormRelGoes comma_stops form_rel_ends rs rest c h
