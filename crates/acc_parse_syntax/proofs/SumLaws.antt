-- The readers of linear values are exact.
use Rattle.std.proofs.Common.{◌≡◌, ℕ, ◌<◌, Bool, true, false, List, [], ◌∷◌, ◌++◌, length, Option, Some, None, Ok, refl, sym, ap, subst}
use Rattle.std.proofs.Common.{◌∙◌, append_assoc, arith, inl, inr}
use Rattle.acc_lex.specs.declared.words.Sign.{Sign}
use Rattle.acc_lex.specs.declared.words.Sign.TheVariants as sign
use Rattle.acc_lex.specs.declared.words.Word.{Word}
use Rattle.acc_lex.specs.declared.words.Word.TheVariants as word
use Rattle.acc_lex.specs.Keywords.{keyword_of}
use Rattle.acc_grammar.specs.Readers.{joined, many}
use Rattle.acc_grammar.proofs.Exact.{bind_assoc, Exact, All, Free, Each, seq_exact, Made, made_exact, trees_exact, same_exact, Or, ByHead}
use Rattle.acc_grammar.proofs.Exact.{either_exact, maybe_exact}
use Rattle.acc_grammar.proofs.Many.{Shrinks, item_shrinks, Runs, many_exact}
use Rattle.acc_parse_syntax.specs.declared.trees.Variable.{Variable}
use Rattle.acc_parse_syntax.specs.declared.trees.Variable.TheVariants.{Named, Oneself}
use Rattle.acc_parse_syntax.specs.declared.trees.Term.{Term}
use Rattle.acc_parse_syntax.specs.declared.trees.Term.TheVariants.{Constant, Plain, Product}
use Rattle.acc_parse_syntax.specs.declared.trees.SignedTerm.{SignedTerm}
use Rattle.acc_parse_syntax.specs.declared.trees.Sum.{Sum}
use Rattle.acc_parse_syntax.specs.Spelling.{just, number, variable, term, signed_term, sum}
use Rattle.acc_parse_syntax.specs.WordReaders.{same_sign, comes, is_number, sign_at, name_at}
use Rattle.acc_parse_syntax.specs.ValueReaders.{variable_at, factor_at, product_of, number_term_at, term_at, minus_at, direction_at}
use Rattle.acc_parse_syntax.specs.ValueReaders.{signed_term_at, starts_signed_term, sum_at, starts_sum}
use Rattle.acc_grammar.proofs.RunReaders.{flag}
use Rattle.acc_parse_syntax.proofs.Following.{CanFollow}
use Rattle.acc_parse_syntax.proofs.Combinators.{made_free, all_in}
use Rattle.acc_parse_syntax.proofs.WordLaws.{same_is, comes_head, number_head, AtWord, one_word, sign_exact, number_exact, after_exact}
use Rattle.acc_parse_syntax.proofs.KindLaws.{Begun, or_kind, last_kind}

-- ---- variables

variable_each : (w : Word) → AtWord variable variable_at w
unfolding variable_at name_at sign_at
variable_each (word.Name x) = inl (Named x, refl, λ rest. refl)
variable_each (word.Number n) = inr (λ rest. refl)
variable_each (word.Sign t) =
    elim (flag (same_sign t sign.Oneself)) [
      | inl h ↦ inl (Oneself, ap (λ (z : Sign). word.Sign z ∷ []) (sym (same_is t sign.Oneself h)), λ rest. rw h refl)
      | inr h ↦ inr (λ rest. rw h refl)
    ]

variable_again : (x : Variable) (rest : List Word) → variable_at (variable x ++ rest) ≡ Ok (x, rest)
unfolding variable_at name_at sign_at
variable_again (Named x) rest = refl
variable_again Oneself rest = refl

-- the letter a is a name
pub variable_exact : Exact CanFollow variable All Free variable_at
unfolding variable_at name_at keyword_of
variable_exact = one_word variable variable_at (Named (97 ∷ [])) (((refl, tt), refl), tt) variable_again refl variable_each

-- ---- terms

abbrev factor : Option Variable → List Word
factor None = []
factor (Some x) = just sign.Times ++ variable x

-- no factor follows where there is none
abbrev FactorGoes : Option Variable → List Word → Type 0
FactorGoes None rest = comes sign.Times rest ≡ false
FactorGoes (Some x) rest = Unit {0}

factor_heads : (f : Option Variable) (w : Word) (more after : List Word) → FactorGoes f (w ∷ more) → FactorGoes f (w ∷ after)
factor_heads None w more after g = sym (comes_head sign.Times w more after) ∙ g
factor_heads (Some x) w more after g = tt

factor_exact : Exact CanFollow factor All FactorGoes factor_at
unfolding factor_at
factor_exact =
    let inner = made_exact (after_exact sign.Times refl variable_exact) (λ x. Some x) factor FactorGoes (λ a p. refl) (λ a rest g. tt)
    (λ a rest p g. tt) factor_heads in
    let whole = maybe_exact inner (comes sign.Times) (comes_head sign.Times) None refl
    (λ t rest p g. subst (λ (z : Option Variable). comes sign.Times (factor z ++ rest) ≡ true) p.2 refl) (λ rest h. h) (λ rest h. h) in
    trees_exact (same_exact (λ ws. simp bind_assoc) whole) (λ t p. tt) (λ t q. trees t)
  where
    trees : (t : Option Variable) → Or (Made (λ (x : Variable). Some x) All) (λ (u : Option Variable). None ≡ u) t
    trees None = inr refl
    trees (Some x) = inl (x, tt, refl)

-- a number alone is followed by no factor
abbrev pub TermGoes : Term → List Word → Type 0
TermGoes (Constant n) rest = comes sign.Times rest ≡ false
TermGoes (Plain x) rest = Unit {0}
TermGoes (Product n x) rest = Unit {0}

term_heads : (t : Term) (w : Word) (more after : List Word) → TermGoes t (w ∷ more) → TermGoes t (w ∷ after)
term_heads (Constant n) w more after g = sym (comes_head sign.Times w more after) ∙ g
term_heads (Plain x) w more after g = tt
term_heads (Product n x) w more after g = tt

product_is : (n : ℕ) (f : Option Variable) → term (product_of n f) ≡ number n ++ factor f
product_is n None = refl
product_is n (Some x) = refl

product_from : (n : ℕ) (f : Option Variable) (rest : List Word) → FactorGoes f rest → TermGoes (product_of n f) rest
product_from n None rest g = g
product_from n (Some x) rest g = tt

product_to : (n : ℕ) (f : Option Variable) (rest : List Word) → TermGoes (product_of n f) rest → FactorGoes f rest
product_to n None rest g = g
product_to n (Some x) rest g = tt

product_starts : (n : ℕ) (f : Option Variable) (rest : List Word) → is_number (term (product_of n f) ++ rest) ≡ true
product_starts n None rest = refl
product_starts n (Some x) rest = refl

variable_starts : (x : Variable) (rest : List Word) → is_number (variable x ++ rest) ≡ false
variable_starts Oneself rest = refl
variable_starts (Named x) rest = refl

pub term_exact : Exact CanFollow term All TermGoes term_at
unfolding term_at number_term_at
term_exact =
    let product = made_exact (seq_exact number_exact factor_exact) (λ p. product_of p.0 p.1) term TermGoes (λ a p. product_is a.0 a.1)
    (λ a rest g. product_from a.0 a.1 rest g.1) (λ a rest p g. (tt, product_to a.0 a.1 rest g)) term_heads in
    let plain = made_exact variable_exact Plain term TermGoes (λ a p. refl) (λ a rest g. tt) (λ a rest p g. tt) term_heads in
    let whole = either_exact product plain is_number number_head
    (λ t rest p g. subst (λ (z : Term). is_number (term z ++ rest) ≡ true) p.2 (product_starts p.0.0 p.0.1 rest))
    (λ t rest p g. subst (λ (z : Term). is_number (term z ++ rest) ≡ false) p.2 (variable_starts p.0 rest)) in
    trees_exact (same_exact (λ ws. simp bind_assoc) whole) (λ t p. tt) (λ t q. trees t)
  where
    trees : (t : Term) → Or (Made (λ (p : ℕ × Option Variable). product_of p.0 p.1) (Each All All)) (Made Plain All) t
    trees (Constant n) = inl ((n, None), (tt, tt), refl)
    trees (Plain x) = inr (x, tt, refl)
    trees (Product n x) = inl ((n, Some x), (tt, tt), refl)

-- ---- signed terms

-- a minus or a plus
abbrev pub direction : Bool → List Word
direction true = just sign.Minus
direction false = just sign.Plus

abbrev direction_sign : Bool → Sign
direction_sign true = sign.Minus
direction_sign false = sign.Plus

direction_begun : Begun direction direction_sign
direction_begun true = ([], refl)
direction_begun false = ([], refl)

pub direction_exact : Exact CanFollow direction All Free direction_at
unfolding direction_at
direction_exact =
    let minus = made_free (sign_exact sign.Minus refl) (λ o. true) direction (λ a p. refl) (λ a rest. tt) in
    let plus = made_free (sign_exact sign.Plus refl) (λ o. false) direction (λ a p. refl) (λ a rest. tt) in
    let kinds = or_kind direction_begun sign.Minus minus (λ t p. ap direction_sign p.2) refl
    (last_kind direction_begun sign.Plus plus (λ t p. ap direction_sign p.2)) in
    trees_exact kinds.exact (λ t p. tt) (λ t q. trees t)
  where
    trees : (b : Bool) → Or (Made (λ (o : Unit {0}). true) All) (Made (λ (o : Unit {0}). false) All) b
    trees true = inl (tt, tt, refl)
    trees false = inr (tt, tt, refl)

abbrev pub SignedGoes : SignedTerm → List Word → Type 0
SignedGoes s rest = TermGoes s.term rest

signed_is : (m : Bool) (t : Term) → signed_term (record { minus = m; term = t }) ≡ direction m ++ term t
signed_is true t = refl
signed_is false t = refl

pub signed_term_exact : Exact CanFollow signed_term All SignedGoes signed_term_at
unfolding signed_term_at
signed_term_exact =
    let whole = made_exact (seq_exact direction_exact term_exact) (λ p. record { minus = p.0; term = p.1 }) signed_term SignedGoes
    (λ a p. signed_is a.0 a.1) (λ a rest g. g.1) (λ a rest p g. (tt, g)) (λ b w more after g. term_exact.heads b.term w more after g) in
    trees_exact (same_exact (λ ws. simp bind_assoc) whole) (λ t p. tt) (λ t q. ((t.minus, t.term), (tt, tt), refl))

pub signed_head : ByHead starts_signed_term
signed_head (word.Sign t) more after = refl
signed_head (word.Name x) more after = refl
signed_head (word.Number n) more after = refl

signed_starts : (m : Bool) (t : Term) (rest : List Word) → starts_signed_term (signed_term (record { minus = m; term = t }) ++ rest) ≡ true
signed_starts true t rest = refl
signed_starts false t rest = refl

signed_long : (m : Bool) (t : Term) → 0 < length (signed_term (record { minus = m; term = t }))
signed_long true t = omega arith
signed_long false t = omega arith

pub signed_term_shrinks : Shrinks signed_term_at
signed_term_shrinks = item_shrinks signed_term_exact starts_signed_term signed_head refl (λ t rest p g. signed_starts t.minus t.term rest)
    (λ t p. signed_long t.minus t.term)

abbrev pub SignedRuns : List SignedTerm → List Word → Type 0
SignedRuns = Runs signed_term starts_signed_term SignedGoes

signed_terms_exact : Exact CanFollow (joined signed_term) All SignedRuns (many starts_signed_term signed_term_at)
signed_terms_exact = trees_exact (many_exact signed_term_exact starts_signed_term signed_head refl
    (λ t rest p g. signed_starts t.minus t.term rest) (λ t p. signed_long t.minus t.term)) (λ t p. tt) (λ t q. all_in t)

-- ---- sums

abbrev pub minus : Bool → List Word
minus true = just sign.Minus
minus false = []

abbrev pub MinusGoes : Bool → List Word → Type 0
MinusGoes true rest = Unit {0}
MinusGoes false rest = comes sign.Minus rest ≡ false

minus_heads : (b : Bool) (w : Word) (more after : List Word) → MinusGoes b (w ∷ more) → MinusGoes b (w ∷ after)
minus_heads true w more after g = tt
minus_heads false w more after g = sym (comes_head sign.Minus w more after) ∙ g

pub minus_exact : Exact CanFollow minus All MinusGoes minus_at
unfolding minus_at
minus_exact =
    let there = made_exact (sign_exact sign.Minus refl) (λ o. true) minus MinusGoes (λ a p. refl) (λ a rest g. tt) (λ a rest p g. tt)
    minus_heads in
    trees_exact (maybe_exact there (comes sign.Minus) (comes_head sign.Minus) false refl
    (λ t rest p g. subst (λ (z : Bool). comes sign.Minus (minus z ++ rest) ≡ true) p.2 refl) (λ rest h. h) (λ rest h. h)) (λ t p. tt)
    (λ t q. trees t)
  where
    trees : (b : Bool) → Or (Made (λ (o : Unit {0}). true) All) (λ (u : Bool). false ≡ u) b
    trees true = inl (tt, tt, refl)
    trees false = inr refl

abbrev pub SumGoes : Sum → List Word → Type 0
SumGoes s rest = TermGoes s.first (joined signed_term s.others ++ rest) × SignedRuns s.others rest

pub sum_heads : (s : Sum) (w : Word) (more after : List Word) → SumGoes s (w ∷ more) → SumGoes s (w ∷ after)
sum_heads s w more after g = (seq_exact term_exact signed_terms_exact).heads (s.first, s.others) w more after g

sum_is : (m : Bool) (t : Term) (ss : List SignedTerm) →
    sum (record { minus = m; first = t; others = ss }) ≡ minus m ++ (term t ++ joined signed_term ss)
sum_is true t ss = refl
sum_is false t ss = refl

no_minus : (m : Bool) (t : Term) (ss : List SignedTerm) (rest : List Word) → MinusGoes m ((term t ++ joined signed_term ss) ++ rest)
no_minus true t ss rest = tt
no_minus false (Constant n) ss rest = refl
no_minus false (Plain (Named x)) ss rest = refl
no_minus false (Plain Oneself) ss rest = refl
no_minus false (Product n x) ss rest = refl

pub sum_exact : Exact CanFollow sum All SumGoes sum_at
unfolding sum_at
sum_exact =
    let whole = made_exact (seq_exact minus_exact (seq_exact term_exact signed_terms_exact))
    (λ p. record { minus = p.0; first = p.1.0; others = p.1.1 }) sum SumGoes (λ a p. sum_is a.0 a.1.0 a.1.1) (λ a rest g. g.1)
    (λ a rest p g. (no_minus a.0 a.1.0 a.1.1 rest, g)) sum_heads in
    trees_exact (same_exact (λ ws. simp bind_assoc) whole) (λ t p. tt) (λ t q. ((t.minus, (t.first, t.others)), (tt, (tt, tt)), refl))

-- where a sum may end
pub record Stop (rest : List Word) : Type 0 where
  pub times : comes sign.Times rest ≡ false
  pub signed : starts_signed_term rest ≡ false

term_ends : (t : Term) (rest : List Word) → comes sign.Times rest ≡ false → TermGoes t rest
term_ends (Constant n) rest h = h
term_ends (Plain x) rest h = tt
term_ends (Product n x) rest h = tt

no_times : (m : Bool) (t : Term) (rest : List Word) → comes sign.Times (signed_term (record { minus = m; term = t }) ++ rest) ≡ false
no_times true t rest = refl
no_times false t rest = refl

no_times_in : (ss : List SignedTerm) (rest : List Word) → comes sign.Times rest ≡ false →
    comes sign.Times (joined signed_term ss ++ rest) ≡ false
no_times_in [] rest h = h
no_times_in (s ∷ ss) rest h = ap (comes sign.Times) (append_assoc (signed_term s) (joined signed_term ss) rest) ∙ no_times s.minus s.term
    (joined signed_term ss ++ rest)

signed_end : (ss : List SignedTerm) (rest : List Word) → Stop rest → SignedRuns ss rest
signed_end [] rest h = h.signed
signed_end (s ∷ ss) rest h = (term_ends s.term (joined signed_term ss ++ rest) (no_times_in ss rest h.times), signed_end ss rest h)

pub sum_ends : (s : Sum) (rest : List Word) → Stop rest → SumGoes s rest
sum_ends s rest h = (
  term_ends s.first (joined signed_term s.others ++ rest) (no_times_in s.others rest h.times),
  signed_end s.others rest h,
)

-- ---- a sum begins

pub sum_head : ByHead starts_sum
sum_head (word.Sign t) more after = refl
sum_head (word.Name x) more after = refl
sum_head (word.Number n) more after = refl

sum_starts_at : (m : Bool) (t : Term) (ss : List SignedTerm) (rest : List Word) →
    starts_sum (sum (record { minus = m; first = t; others = ss }) ++ rest) ≡ true
sum_starts_at true t ss rest = refl
sum_starts_at false (Constant n) ss rest = refl
sum_starts_at false (Plain (Named x)) ss rest = refl
sum_starts_at false (Plain Oneself) ss rest = refl
sum_starts_at false (Product n x) ss rest = refl

pub sum_starts : (s : Sum) (rest : List Word) → starts_sum (sum s ++ rest) ≡ true
sum_starts s rest = sum_starts_at s.minus s.first s.others rest
