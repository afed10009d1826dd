-- A printed sum spells its tree.
use Rattle.std.proofs.Common.{ℕ, ◌^◌, ◌<◌, Bool, true, false, List, [], ◌∷◌, ◌++◌, refl, sym, subst, append_assoc, zero, suc, ℤ, pos}
use Rattle.std.proofs.Common.{negsuc}
use Rattle.std.specs.Prelude.{◌==◌, if◌then◌else◌, unsigned_abs, codes}
use Rattle.std.specs.Fmt.{decimal}
use Rattle.acc_grammar.specs.Readers.{AllIn, joined}
use Rattle.acc_lex.specs.declared.words.Word.{Word}
use Rattle.acc_lex.specs.declared.words.Sign.TheVariants as sign
use Rattle.acc_parse_syntax.specs.Spelling.{just, number}
use Rattle.acc_print.specs.Sums.{is_negative, sign as sign_text, term, terms, constant_alone, constant_behind, sum_text}
use Rattle.acc_parse_readback.proofs.Rests.{IsApart, Part, parts, fronts, empty}
use Rattle.acc_parse_readback.proofs.Tokens.{numbered, plus, minus, times, between}

-- a number that a text can have
abbrev pub IsWritten : ℤ → Type 0
IsWritten n = unsigned_abs n < 2 ^ 64

-- ---- words

-- the words of a sign behind terms
abbrev pub direction : ℤ → List Word
direction n = if is_negative n then just sign.Minus else just sign.Plus

-- the words of a sign in front
abbrev pub leading : ℤ → List Word
leading n = if is_negative n then just sign.Minus else []

-- the words of a number times a thing with these words
abbrev pub multiple : ℕ → List Word → List Word
multiple n ws = if n == 1 then ws else number n ++ (just sign.Times ++ ws)

-- the words of a term behind others
abbrev pub further : {K : Type 0} → (K → List Word) → K × ℤ → List Word
further W t = direction t.1 ++ multiple (unsigned_abs t.1) (W t.0)

-- the words of the constant behind terms
abbrev pub constant_words : ℤ → List Word
constant_words (pos zero) = []
constant_words n = direction n ++ number (unsigned_abs n)

-- the words of a sum
abbrev pub sum_words : {K : Type 0} → (K → List Word) → List (K × ℤ) → ℤ → List Word
sum_words W [] n = leading n ++ number (unsigned_abs n)
sum_words W (t ∷ ts) n = (leading t.1 ++ multiple (unsigned_abs t.1) (W t.0)) ++ (joined (further W) ts ++ constant_words n)

-- ---- parts

multiple_part : (b : Bool) (n : ℕ) (x : List ℕ) (ws : List Word) → n < 2 ^ 64 → Part x ws →
    Part ((if b then [] else decimal n ++ codes "*") ++ x) (if b then ws else number n ++ (just sign.Times ++ ws))
multiple_part true n x ws h p = p
multiple_part false n x ws h p =
    subst (λ (text : List ℕ). Part text (number n ++ (just sign.Times ++ ws))) (sym (append_assoc (decimal n) (codes "*") x))
    (parts (decimal n) (codes "*" ++ x) (number n) (just sign.Times ++ ws) (numbered n h) refl
    (fronts (codes "*") x (just sign.Times) ws times p))

behind_sign : (n : ℤ) (x : List ℕ) (ws : List Word) → Part x ws → Part (sign_text false n ++ x) (direction n ++ ws)
behind_sign (pos n) x ws p = fronts (codes " + ") x (just sign.Plus) ws (between (codes "+") (just sign.Plus) plus) p
behind_sign (negsuc n) x ws p = fronts (codes " - ") x (just sign.Minus) ws (between (codes "-") (just sign.Minus) minus) p

behind_minus : (n : ℤ) (x : List ℕ) (ws : List Word) → Part x ws → Part (sign_text true n ++ x) (leading n ++ ws)
behind_minus (pos n) x ws p = p
behind_minus (negsuc n) x ws p = fronts (codes "-") x (just sign.Minus) ws minus p

-- a term whose thing is spelled
abbrev pub IsTermPart : {K : Type 0} → (K → List ℕ) → (K → List Word) → K × ℤ → Type 0
IsTermPart name W t = IsWritten t.1 × Part (name t.0) (W t.0)

further_part : {K : Type 0} (name : K → List ℕ) (W : K → List Word) (t : K × ℤ) → IsTermPart name W t →
    Part (term false t.1 (name t.0)) (further W t)
further_part name W t h = behind_sign t.1 _ _ (multiple_part (unsigned_abs t.1 == 1) (unsigned_abs t.1) (name t.0) (W t.0) h.0 h.1)

first_part : {K : Type 0} (name : K → List ℕ) (W : K → List Word) (t : K × ℤ) → IsTermPart name W t →
    Part (term true t.1 (name t.0)) (leading t.1 ++ multiple (unsigned_abs t.1) (W t.0))
first_part name W t h = behind_minus t.1 _ _ (multiple_part (unsigned_abs t.1 == 1) (unsigned_abs t.1) (name t.0) (W t.0) h.0 h.1)

constant_part : (n : ℤ) → IsWritten n → Part (constant_behind n) (constant_words n)
constant_part (pos zero) h = empty
constant_part (pos (suc n)) h = behind_sign (pos (suc n)) (decimal (suc n)) (number (suc n)) (numbered (suc n) h)
constant_part (negsuc n) h = behind_sign (negsuc n) (decimal (suc n)) (number (suc n)) (numbered (suc n) h)

alone_part : (n : ℤ) → IsWritten n → Part (constant_alone n) (leading n ++ number (unsigned_abs n))
alone_part (pos n) h = numbered n h
alone_part (negsuc n) h = behind_minus (negsuc n) (decimal (suc n)) (number (suc n)) (numbered (suc n) h)

constant_apart : (n : ℤ) → IsApart (constant_behind n)
constant_apart (pos zero) = refl
constant_apart (pos (suc n)) = refl
constant_apart (negsuc n) = refl

rest_apart : {K : Type 0} (name : K → List ℕ) (ts : List (K × ℤ)) (n : ℤ) → IsApart (terms name false ts ++ constant_behind n)
rest_apart name [] n = constant_apart n
rest_apart name (t ∷ ts) n = by t.1
  where
    by : (m : ℤ) → IsApart ((term false m (name t.0) ++ terms name false ts) ++ constant_behind n)
    by (pos m) = refl
    by (negsuc m) = refl

rest_part : {K : Type 0} (name : K → List ℕ) (W : K → List Word) (ts : List (K × ℤ)) (n : ℤ) → AllIn (IsTermPart name W) ts → IsWritten n →
    Part (terms name false ts ++ constant_behind n) (joined (further W) ts ++ constant_words n)
rest_part name W [] n h g = constant_part n g
rest_part name W (t ∷ ts) n h g =
    subst (λ (text : List ℕ). Part text ((further W t ++ joined (further W) ts) ++ constant_words n))
    (sym (append_assoc (term false t.1 (name t.0)) (terms name false ts) (constant_behind n)))
    (subst (λ (ws : List Word). Part (term false t.1 (name t.0) ++ (terms name false ts ++ constant_behind n)) ws)
    (sym (append_assoc (further W t) (joined (further W) ts) (constant_words n)))
    (parts _ _ _ _ (further_part name W t h.0) (rest_apart name ts n) (rest_part name W ts n h.1 g)))

-- a sum
pub sum_part : {K : Type 0} (name : K → List ℕ) (W : K → List Word) (ts : List (K × ℤ)) (n : ℤ) → AllIn (IsTermPart name W) ts →
    IsWritten n → Part (sum_text name ts n) (sum_words W ts n)
sum_part name W [] n h g = alone_part n g
sum_part name W (t ∷ ts) n h g =
    subst (λ (text : List ℕ). Part text (sum_words W (t ∷ ts) n))
    (sym (append_assoc (term true t.1 (name t.0)) (terms name false ts) (constant_behind n)))
    (parts _ _ _ _ (first_part name W t h.0) (rest_apart name ts n) (rest_part name W ts n h.1 g))
