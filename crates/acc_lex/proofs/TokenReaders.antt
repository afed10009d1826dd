-- The reader of tokens is exact.
use Rattle.std.proofs.Common.{◌≡◌, ◌≢◌, ℕ, Bool, true, false, List, [], ◌∷◌, ◌++◌, refl, sym, ap, subst, ◌∙◌, inl, inr}
use Rattle.std.specs.Prelude.{unwrap_or}
use Rattle.std.proofs.lemmas.List.{append-nil}
use Rattle.acc_grammar.specs.Readers.{AllIn}
use Rattle.acc_grammar.specs.Runs.{IsRun, next_is}
use Rattle.acc_grammar.proofs.Exact.{bind_assoc, Exact, All, Each, seq_exact, Made, made_exact, trees_exact, same_exact, Or, maybe_exact}
use Rattle.acc_grammar.proofs.RunReaders.{flag, next_head, just, Passes, one_exact, run_exact, absent_exact}
use Rattle.acc_grammar.proofs.Leads.{Leads, made_leads, one_of, or_leads, first_exact}
use Rattle.acc_lex.specs.declared.words.Sign.{Sign}
use Rattle.acc_lex.specs.declared.words.Sign.TheVariants as sign
use Rattle.acc_lex.specs.ByteKinds.{is_byte, is_letter, is_digit, is_leading, is_inner}
use Rattle.acc_lex.specs.Spellings.{Token, Letters, Digits, Mark, mark_bytes, token_bytes, IsToken, MarkParted, Parted}
use Rattle.acc_lex.specs.Readings.{letters_at, zero_at, whole_at, pair_at, arrow_at, equal_or, equal_at, marks, mark_of, is_mark, mark_at}
use Rattle.acc_lex.specs.Readings.{token_at}
use Rattle.acc_lex.proofs.ByteFacts.{Byte, is_the, byte_apart, letter_inner, leading_digit, digit_not_letter, apart_digit, mark_has}
use Rattle.acc_lex.proofs.ByteFacts.{mark_all, no_mark}

-- ---- what may follow a token

mark_heads : (s : Sign) (w : ℕ) (more after : List ℕ) → MarkParted s (w ∷ more) → MarkParted s (w ∷ after)
mark_heads sign.Equal w more after g = g
mark_heads _ w more after g = tt

pub parted_heads : (t : Token) (w : ℕ) (more after : List ℕ) → Parted t (w ∷ more) → Parted t (w ∷ after)
parted_heads (Letters x) w more after g = g
parted_heads (Digits x) w more after g = g
parted_heads (Mark s) w more after g = mark_heads s w more after g

mark_parted : (s : Sign) (behind : List ℕ) → next_is (is_byte 62) behind ≡ false → MarkParted s behind
mark_parted sign.Equal behind g = g
mark_parted _ behind g = tt

-- what is no letter, digit, _ or > may follow any token
pub parted : (t : Token) (behind : List ℕ) → next_is is_inner behind ≡ false → next_is (is_byte 62) behind ≡ false → Parted t behind
parted (Letters x) behind a b = a
parted (Digits x) behind a b = a
parted (Mark s) behind a b = mark_parted s behind b

-- ---- words and numbers

abbrev IsLetters : Token → Type 0
IsLetters = Made Letters (IsRun is_letter is_inner)

letters : Exact Byte token_bytes IsLetters Parted letters_at
unfolding letters_at
letters = made_exact (run_exact Byte is_letter is_inner 97 refl tt letter_inner) Letters token_bytes Parted (λ a p. refl) (λ a rest g. g)
    (λ a rest p g. g) parted_heads

abbrev IsZero : Token → Type 0
IsZero = Made (λ (p : ℕ × Unit {0}). Digits (p.0 ∷ [])) (Each (Passes (is_byte 48)) All)

zero_digits : Exact Byte token_bytes IsZero Parted zero_at
unfolding zero_at
zero_digits = same_exact (λ bs. simp bind_assoc)
    (made_exact (seq_exact (one_exact Byte (is_byte 48) 48 refl tt) (absent_exact Byte is_inner)) (λ p. Digits (p.0 ∷ [])) token_bytes
    Parted (λ a p. refl) (λ a rest g. g.1) (λ a rest p g. (tt, g)) parted_heads)

abbrev IsWhole : Token → Type 0
IsWhole = Made (λ (p : List ℕ × Unit {0}). Digits p.0) (Each (IsRun is_leading is_digit) All)

whole : Exact Byte token_bytes IsWhole Parted whole_at
unfolding whole_at
whole = same_exact (λ bs. simp bind_assoc) (made_exact
    (seq_exact (run_exact Byte is_leading is_digit 49 refl tt leading_digit) (absent_exact Byte is_inner)) (λ p. Digits p.0) token_bytes
    Parted (λ a p. sym (append-nil a.0)) (λ a rest g. g.1) (λ a rest p g. (apart_digit rest g, g)) parted_heads)

-- ---- marks

two_are : (a b : ℕ) (x y : ℕ) → is_byte a x ≡ true → is_byte b y ≡ true → a ∷ b ∷ [] ≡ just x ++ just y
two_are a b x y h k = λ i. sym (is_the a x h) i ∷ sym (is_the b y k) i ∷ []

abbrev IsPair : ℕ → ℕ → Sign → Token → Type 0
IsPair a b s = Made (λ (p : ℕ × ℕ). Mark s) (Each (Passes (is_byte a)) (Passes (is_byte b)))

pair : (a b : ℕ) (s : Sign) → is_byte a a ≡ true → is_byte b b ≡ true → mark_bytes s ≡ a ∷ b ∷ [] → ((rest : List ℕ) → MarkParted s rest) →
    Exact Byte token_bytes (IsPair a b s) Parted (pair_at a b s)
unfolding pair_at
pair a b s ha hb is free = same_exact (λ bs. simp bind_assoc)
    (made_exact (seq_exact (one_exact Byte (is_byte a) a ha tt) (one_exact Byte (is_byte b) b hb tt)) (λ p. Mark s) token_bytes Parted
    (λ p q. is ∙ two_are a b p.0 p.1 q.0 q.1) (λ p rest g. free rest) (λ p rest q g. (tt, tt)) parted_heads)

abbrev arrow : Bool → List ℕ
arrow true = 62 ∷ []
arrow false = []

abbrev ArrowGoes : Bool → List ℕ → Type 0
ArrowGoes true rest = Unit {0}
ArrowGoes false rest = next_is (is_byte 62) rest ≡ false

arrow_heads : (b : Bool) (w : ℕ) (more after : List ℕ) → ArrowGoes b (w ∷ more) → ArrowGoes b (w ∷ after)
arrow_heads true w more after g = tt
arrow_heads false w more after g = g

arrow_exact : Exact Byte arrow All ArrowGoes arrow_at
unfolding arrow_at
arrow_exact =
    let there = made_exact (one_exact Byte (is_byte 62) 62 refl tt) (λ b. true) arrow ArrowGoes (λ a p. λ i. sym (is_the 62 a p) i ∷ [])
    (λ a rest g. tt) (λ a rest p g. tt) arrow_heads in
    trees_exact (maybe_exact there (next_is (is_byte 62)) (next_head (is_byte 62)) false refl
    (λ t rest p g. subst (λ (z : Bool). next_is (is_byte 62) (arrow z ++ rest) ≡ true) p.2 refl) (λ rest h. h) (λ rest h. h))
    (λ t p. tt) trees
  where
    trees : (b : Bool) → All b → Or (Made (λ (b : ℕ). true) (Passes (is_byte 62))) (λ (u : Bool). false ≡ u) b
    trees true q = inl (62, refl, refl)
    trees false q = inr refl

equal_is : (x : ℕ) (b : Bool) → is_byte 61 x ≡ true → mark_bytes (equal_or b) ≡ just x ++ arrow b
equal_is x true h = λ i. sym (is_the 61 x h) i ∷ 62 ∷ []
equal_is x false h = λ i. sym (is_the 61 x h) i ∷ []

equal_from : (b : Bool) (rest : List ℕ) → ArrowGoes b rest → MarkParted (equal_or b) rest
equal_from true rest g = tt
equal_from false rest g = g

equal_to : (b : Bool) (rest : List ℕ) → MarkParted (equal_or b) rest → ArrowGoes b rest
equal_to true rest g = tt
equal_to false rest g = g

abbrev IsEqual : Token → Type 0
IsEqual = Made (λ (p : ℕ × Bool). Mark (equal_or p.1)) (Each (Passes (is_byte 61)) All)

equal : Exact Byte token_bytes IsEqual Parted equal_at
unfolding equal_at
equal = same_exact (λ bs. simp bind_assoc) (made_exact (seq_exact (one_exact Byte (is_byte 61) 61 refl tt) arrow_exact)
    (λ p. Mark (equal_or p.1)) token_bytes Parted (λ a p. equal_is a.0 a.1 p.0) (λ a rest g. equal_from a.1 rest g.1)
    (λ a rest p g. (tt, equal_to a.1 rest g)) parted_heads)

-- the sign that a byte is taken for
abbrev sign_of : ℕ → Sign
sign_of b = unwrap_or (mark_of b) sign.End

abbrev IsMark : Token → Type 0
IsMark = Made (λ (b : ℕ). Mark (sign_of b)) (Passes is_mark)

-- what a mark of one byte is spelled by
spelled_so : (b : ℕ) → is_mark b ≡ true → mark_bytes (sign_of b) ≡ b ∷ []
spelled_so b h = mark_has (λ m. mark_bytes m.1 ≡ m.0 ∷ []) (refl, (refl, (refl, (refl, (refl, (refl, (refl, (refl, tt)))))))) b h

free_behind : (b : ℕ) (rest : List ℕ) → MarkParted (sign_of b) rest
free_behind b rest = mark_all (λ s. MarkParted s rest) tt (tt, (tt, (tt, (tt, (tt, (tt, (tt, (tt, tt)))))))) b

mark : Exact Byte token_bytes IsMark Parted mark_at
unfolding mark_at
mark = made_exact (one_exact Byte is_mark 43 refl tt) (λ b. Mark (sign_of b)) token_bytes Parted spelled_so (λ b rest g. free_behind b rest)
    (λ b rest p g. tt) parted_heads

-- ---- any token, by its first byte

run_leads : (first test : ℕ → Bool) (w : List ℕ) → IsRun first test w → (b : ℕ) × (bs : List ℕ) × (w ≡ b ∷ bs) × (first b ≡ true)
run_leads first test [] h = absurd h
run_leads first test (b ∷ bs) h = (b, bs, refl, h.0)

letters_lead : (t : Token) → IsLetters t → Leads is_letter token_bytes t
letters_lead = made_leads is_letter token_bytes Letters (IsRun is_letter is_inner) (run_leads is_letter is_inner)

zero_leads : (t : Token) → IsZero t → Leads (is_byte 48) token_bytes t
zero_leads = made_leads (is_byte 48) token_bytes (λ (p : ℕ × Unit {0}). Digits (p.0 ∷ [])) (Each (Passes (is_byte 48)) All)
    (λ p q. (p.0, [], refl, q.0))

whole_leads : (t : Token) → IsWhole t → Leads is_leading token_bytes t
whole_leads = made_leads is_leading token_bytes (λ (p : List ℕ × Unit {0}). Digits p.0) (Each (IsRun is_leading is_digit) All)
    (λ p q. run_leads is_leading is_digit p.0 q.0)

pair_leads : (a b : ℕ) (s : Sign) → is_byte a a ≡ true → mark_bytes s ≡ a ∷ b ∷ [] → (t : Token) → IsPair a b s t →
    Leads (is_byte a) token_bytes t
pair_leads a b s good is = made_leads (is_byte a) token_bytes (λ (p : ℕ × ℕ). Mark s) (Each (Passes (is_byte a)) (Passes (is_byte b)))
    (λ p q. (a, b ∷ [], is, good))

equal_leads : (t : Token) → IsEqual t → Leads (is_byte 61) token_bytes t
equal_leads = made_leads (is_byte 61) token_bytes (λ (p : ℕ × Bool). Mark (equal_or p.1)) (Each (Passes (is_byte 61)) All)
    (λ p q. (p.0, arrow p.1, equal_is p.0 p.1 q.0, q.0))

mark_leads : (t : Token) → IsMark t → Leads is_mark token_bytes t
mark_leads = made_leads is_mark token_bytes (λ (b : ℕ). Mark (sign_of b)) (Passes is_mark) (λ b q. (b, [], spelled_so b q, q))

abbrev IsMost : Token → Type 0
IsMost = IsPair 60 61 sign.AtMost

abbrev IsLeast : Token → Type 0
IsLeast = IsPair 62 61 sign.AtLeast

-- with what the later kinds of token begin
abbrev from_equal : ℕ → Bool
from_equal = one_of (is_byte 61) is_mark

abbrev from_least : ℕ → Bool
from_least = one_of (is_byte 62) from_equal

abbrev from_most : ℕ → Bool
from_most = one_of (is_byte 60) from_least

abbrev from_whole : ℕ → Bool
from_whole = one_of is_leading from_most

-- with what a word or a number doesn't begin
abbrev pub from_zero : ℕ → Bool
from_zero = one_of (is_byte 48) from_whole

-- with what a token begins
abbrev pub starts_token : ℕ → Bool
starts_token = one_of is_letter from_zero

-- the other way round
swapped : (a b : ℕ → Bool) → ((c : ℕ) → a c ≡ true → b c ≡ false) → (c : ℕ) → b c ≡ true → a c ≡ false
swapped a b apart c h = elim (flag (a c)) [
  | inl k ↦ absurd (let wrong = sym h ∙ apart c k in cc)
  | inr k ↦ k
]

-- a byte that no mark begins with
no_mark_leads : (test : ℕ → Bool) → AllIn (λ c. test c ≡ false) (60 ∷ 62 ∷ 61 ∷ []) → AllIn (λ m. test m.0 ≡ false) marks → (b : ℕ) →
    test b ≡ true → from_most b ≡ false
no_mark_leads test all none b h = rw (
  byte_apart test 60 all.0 b h,
  byte_apart test 62 all.1.0 b h,
  byte_apart test 61 all.1.1.0 b h,
  no_mark test none b h,
) refl

leading_apart : (b : ℕ) → from_most b ≡ true → is_leading b ≡ false
leading_apart = swapped is_leading from_most (no_mark_leads is_leading (refl, (refl, (refl, tt))) (
  refl,
  (refl, (refl, (refl, (refl, (refl, (refl, (refl, tt))))))),
))

letter_not_leading : (b : ℕ) → is_letter b ≡ true → is_leading b ≡ false
letter_not_leading = swapped is_leading is_letter (λ b h. digit_not_letter b (leading_digit b h))

letter_apart : (b : ℕ) → from_zero b ≡ true → is_letter b ≡ false
letter_apart = swapped is_letter from_zero (λ b h. rw (
  byte_apart is_letter 48 refl b h,
  letter_not_leading b h,
  no_mark_leads is_letter (refl, (refl, (refl, tt))) (refl, (refl, (refl, (refl, (refl, (refl, (refl, (refl, tt)))))))) b h,
) refl)

abbrev OrEqual : Token → Type 0
OrEqual = Or IsEqual IsMark

abbrev OrLeast : Token → Type 0
OrLeast = Or IsLeast OrEqual

abbrev OrMost : Token → Type 0
OrMost = Or IsMost OrLeast

abbrev OrWhole : Token → Type 0
OrWhole = Or IsWhole OrMost

abbrev OrZero : Token → Type 0
OrZero = Or IsZero OrWhole

abbrev OrLetters : Token → Type 0
OrLetters = Or IsLetters OrZero

equal_lead : (t : Token) → OrEqual t → Leads from_equal token_bytes t
equal_lead = or_leads (is_byte 61) is_mark token_bytes IsEqual IsMark equal_leads mark_leads

least_lead : (t : Token) → OrLeast t → Leads from_least token_bytes t
least_lead = or_leads (is_byte 62) from_equal token_bytes IsLeast OrEqual (pair_leads 62 61 sign.AtLeast refl refl) equal_lead

most_lead : (t : Token) → OrMost t → Leads from_most token_bytes t
most_lead = or_leads (is_byte 60) from_least token_bytes IsMost OrLeast (pair_leads 60 61 sign.AtMost refl refl) least_lead

whole_lead : (t : Token) → OrWhole t → Leads from_whole token_bytes t
whole_lead = or_leads is_leading from_most token_bytes IsWhole OrMost whole_leads most_lead

zero_lead : (t : Token) → OrZero t → Leads from_zero token_bytes t
zero_lead = or_leads (is_byte 48) from_whole token_bytes IsZero OrWhole zero_leads whole_lead

letters_or_lead : (t : Token) → OrLetters t → Leads starts_token token_bytes t
letters_or_lead = or_leads is_letter from_zero token_bytes IsLetters OrZero letters_lead zero_lead

chosen_exact : Exact Byte token_bytes OrLetters Parted token_at
unfolding token_at
chosen_exact =
    let e5 = first_exact equal mark (is_byte 61) is_mark equal_leads mark_leads (byte_apart is_mark 61 refl) in
    let e4 = first_exact (pair 62 61 sign.AtLeast refl refl refl (λ rest. tt)) e5 (is_byte 62) from_equal
    (pair_leads 62 61 sign.AtLeast refl refl) equal_lead (byte_apart from_equal 62 refl) in
    let e3 = first_exact (pair 60 61 sign.AtMost refl refl refl (λ rest. tt)) e4 (is_byte 60) from_least
    (pair_leads 60 61 sign.AtMost refl refl) least_lead (byte_apart from_least 60 refl) in
    let e2 = first_exact whole e3 is_leading from_most whole_leads most_lead leading_apart in
    let e1 = first_exact zero_digits e2 (is_byte 48) from_whole zero_leads whole_lead (byte_apart from_whole 48 refl) in
    first_exact letters e1 is_letter from_zero letters_lead zero_lead letter_apart

-- ---- as the definition has it

-- there is a byte
nonempty : (w : List ℕ) (b : ℕ) (bs : List ℕ) → w ≡ b ∷ bs → w ≢ []
nonempty w b bs is none = let wrong = sym is ∙ none in cc

from_kinds : (t : Token) → OrLetters t → IsToken t
from_kinds t (inl m) = subst IsToken m.2 m.1
from_kinds t (inr (inl m)) = subst IsToken m.2 (inl (ap (λ (z : ℕ). z ∷ []) (is_the 48 m.0.0 m.1.0)))
from_kinds t (inr (inr (inl m))) = subst IsToken m.2 (inr m.1.0)
from_kinds t (inr (inr (inr (inl m)))) = subst IsToken m.2 (λ none. cc)
from_kinds t (inr (inr (inr (inr (inl m))))) = subst IsToken m.2 (λ none. cc)
from_kinds t (inr (inr (inr (inr (inr (inl m)))))) =
    subst IsToken m.2 (nonempty (mark_bytes (equal_or m.0.1)) m.0.0 (arrow m.0.1) (equal_is m.0.0 m.0.1 m.1.0))
from_kinds t (inr (inr (inr (inr (inr (inr m)))))) = subst IsToken m.2 (nonempty (mark_bytes (sign_of m.0)) m.0 [] (spelled_so m.0 m.1))

single : (b : ℕ) (s : Sign) → is_mark b ≡ true → sign_of b ≡ s → OrLetters (Mark s)
single b s good is = inr (inr (inr (inr (inr (inr (b, good, ap (λ (z : Sign). Mark z) is))))))

to_mark : (s : Sign) → mark_bytes s ≢ [] → OrLetters (Mark s)
to_mark sign.AtMost h = inr (inr (inr (inl ((60, 61), (refl, refl), refl))))
to_mark sign.AtLeast h = inr (inr (inr (inr (inl ((62, 61), (refl, refl), refl)))))
to_mark sign.Implies h = inr (inr (inr (inr (inr (inl ((61, true), (refl, tt), refl))))))
to_mark sign.Equal h = inr (inr (inr (inr (inr (inl ((61, false), (refl, tt), refl))))))
to_mark sign.Open h = single 91 sign.Open refl refl
to_mark sign.Close h = single 93 sign.Close refl refl
to_mark sign.Comma h = single 44 sign.Comma refl refl
to_mark sign.Dot h = single 46 sign.Dot refl refl
to_mark sign.Colon h = single 58 sign.Colon refl refl
to_mark sign.Plus h = single 43 sign.Plus refl refl
to_mark sign.Minus h = single 45 sign.Minus refl refl
to_mark sign.Times h = single 42 sign.Times refl refl
to_mark _ h = absurd (h refl)

to_kinds : (t : Token) → IsToken t → OrLetters t
to_kinds (Letters w) h = inl (w, h, refl)
to_kinds (Digits w) (inl is) = inr (inl ((48, tt), (refl, tt), ap (λ (z : List ℕ). Digits z) (sym is)))
to_kinds (Digits w) (inr h) = inr (inr (inl ((w, tt), (h, tt), refl)))
to_kinds (Mark s) h = to_mark s h

pub token_exact : Exact Byte token_bytes IsToken Parted token_at
token_exact = trees_exact chosen_exact from_kinds to_kinds

pub token_leads : (t : Token) → IsToken t → Leads starts_token token_bytes t
token_leads t h = letters_or_lead t (to_kinds t h)
