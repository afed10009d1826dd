-- Which bytes pass which tests.
use Rattle.std.proofs.Common.{◌≡◌, ℕ, Bool, true, false, cond, List, [], ◌∷◌, refl, sym, ap, subst, ◌∙◌, arith, inl, inr, Some}
use Rattle.std.specs.Prelude.{◌==◌, ◌&&◌, ◌||◌, is_some, unwrap_or}
use Rattle.std.specs.Char.{is_ascii_alphabetic, is_ascii_digit}
use Rattle.std.proofs.lemmas.Bool.{eqb-true}
use Rattle.std.proofs.lemmas.Bool.Decides.{nat_tests}
use Rattle.acc_grammar.specs.Readers.{AllIn}
use Rattle.acc_grammar.specs.Runs.{next_is}
use Rattle.acc_grammar.proofs.RunReaders.{flag}
use Rattle.acc_lex.specs.declared.words.Sign.{Sign}
use Rattle.acc_lex.specs.declared.words.Sign.TheVariants as sign
use Rattle.acc_lex.specs.ByteKinds.{is_byte, is_letter, is_digit, is_leading, is_inner}
use Rattle.acc_lex.specs.Readings.{marks, mark_among, mark_of, is_mark}

-- two tests that pass
pub and_both : (x y : Bool) → (x && y) ≡ true → (x ≡ true) × (y ≡ true)
and_both true y h = (refl, h)
and_both false y h = absurd cc

-- any byte
abbrev pub Byte : ℕ → Type 0
Byte b = Unit {0}

pub is_the : (c b : ℕ) → is_byte c b ≡ true → b ≡ c
is_the c b h = eqb-true b c h

-- a byte that passes is no byte that doesn't
pub byte_apart : (test : ℕ → Bool) (c : ℕ) → test c ≡ false → (b : ℕ) → test b ≡ true → is_byte c b ≡ false
byte_apart test c miss b h = elim (flag (b == c)) [
  | inl k ↦ absurd (let wrong = sym h ∙ ap test (eqb-true b c k) ∙ miss in cc)
  | inr k ↦ k
]

pub digit_not_letter : (b : ℕ) → is_digit b ≡ true → is_letter b ≡ false
digit_not_letter b h = grind (arith, nat_tests)

pub letter_not_digit : (b : ℕ) → is_letter b ≡ true → is_digit b ≡ false
letter_not_digit b h = elim (flag (is_digit b)) [
  | inl k ↦ absurd (let wrong = sym h ∙ digit_not_letter b k in cc)
  | inr k ↦ k
]

pub leading_digit : (b : ℕ) → is_leading b ≡ true → is_digit b ≡ true
leading_digit b h = grind (arith, nat_tests)

pub leading_not_zero : (b : ℕ) → is_leading b ≡ true → is_byte 48 b ≡ false
leading_not_zero b h = byte_apart is_leading 48 refl b h

pub letter_inner : (b : ℕ) → is_letter b ≡ true → is_inner b ≡ true
letter_inner b h = ap (λ (x : Bool). x || (is_ascii_digit b || b == 95)) h

digit_inner : (b : ℕ) → is_inner b ≡ false → is_digit b ≡ false
digit_inner b h = or_false (is_ascii_alphabetic b) (is_digit b) (b == 95) h
  where
    or_false : (x y z : Bool) → (x || (y || z)) ≡ false → y ≡ false
    or_false true y z e = absurd cc
    or_false false true z e = absurd cc
    or_false false false z e = refl

pub apart_digit : (rest : List ℕ) → next_is is_inner rest ≡ false → next_is is_digit rest ≡ false
apart_digit [] h = refl
apart_digit (b ∷ bs) h = digit_inner b h

-- ---- the marks

-- what holds of each mark, holds of the one that a byte is
mark_case : (P : ℕ × Sign → Type 0) (ms : List (ℕ × Sign)) → AllIn P ms → (b : ℕ) → is_some (mark_among ms b) ≡ true →
    P (b, unwrap_or (mark_among ms b) sign.End)
mark_case P [] all b h = absurd cc
mark_case P (m ∷ ms) all b h = elim (flag (b == m.0)) [
  | inl k ↦ rw k (subst (λ (c : ℕ). P (c, m.1)) (sym (eqb-true b m.0 k)) all.0)
  | inr k ↦ rw k (mark_case P ms all.1 b (sym (ap (λ (x : Bool). is_some (cond x (Some m.1) (mark_among ms b))) k) ∙ h))
]

pub mark_has : (P : ℕ × Sign → Type 0) → AllIn P marks → (b : ℕ) → is_mark b ≡ true → P (b, unwrap_or (mark_of b) sign.End)
mark_has P all b h = mark_case P marks all b h

-- what holds of each mark and of End, holds of the sign that any byte is taken for
mark_any : (P : Sign → Type 0) (ms : List (ℕ × Sign)) → P sign.End → AllIn (λ m. P m.1) ms → (b : ℕ) →
    P (unwrap_or (mark_among ms b) sign.End)
mark_any P [] end all b = end
mark_any P (m ∷ ms) end all b = elim (flag (b == m.0)) [ inl k ↦ rw k all.0 | inr k ↦ rw k (mark_any P ms end all.1 b) ]

pub mark_all : (P : Sign → Type 0) → P sign.End → AllIn (λ m. P m.1) marks → (b : ℕ) → P (unwrap_or (mark_of b) sign.End)
mark_all P end all b = mark_any P marks end all b

-- a byte that passes a test which no mark passes is no mark
none_among : (test : ℕ → Bool) (ms : List (ℕ × Sign)) → AllIn (λ m. test m.0 ≡ false) ms → (b : ℕ) → test b ≡ true →
    is_some (mark_among ms b) ≡ false
none_among test [] all b h = refl
none_among test (m ∷ ms) all b h = let k = byte_apart test m.0 all.0 b h in rw k (none_among test ms all.1 b h)

pub no_mark : (test : ℕ → Bool) → AllIn (λ m. test m.0 ≡ false) marks → (b : ℕ) → test b ≡ true → is_mark b ≡ false
no_mark test all b h = none_among test marks all b h
