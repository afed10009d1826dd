-- A front of whole lines, each with its line feed: what the text's words are by those of the front and of the rest.
use Rattle.std.proofs.Common.{◌≡◌, ℕ, List, [], ◌∷◌, ◌++◌, refl, sym, ap, subst, ◌∙◌, ◌⊎◌, inl, inr, append_assoc}
use Rattle.std.proofs.lemmas.List.{append-nil}
use Rattle.acc_lex.specs.declared.words.Word.{Word}
use Rattle.acc_lex.specs.Spellings.{Line, Statements}
use Rattle.acc_lex.specs.Texts.{IsLexed}
use Rattle.acc_lex.proofs.LineFeeds.{IsCut, one_line, lexed_both, lexed_cut}
use Rattle.acc_lex.proofs.WholeTexts.{one_reading}

-- nothing, or bytes of which the last is a line feed
abbrev pub IsFed : List ℕ → Type 0
IsFed [] = Unit {0}
IsFed (b ∷ []) = b ≡ 10
IsFed (b ∷ (c ∷ bs)) = IsFed (c ∷ bs)

-- a front of whole lines, and a line behind it
pub fed_line : (f l : List ℕ) → IsFed f → IsFed (f ++ (l ++ (10 ∷ [])))
fed_line [] [] h = refl
fed_line [] (b ∷ []) h = refl
fed_line [] (b ∷ (c ∷ l)) h = fed_line [] (c ∷ l) h
fed_line (b ∷ []) [] h = refl
fed_line (b ∷ []) (c ∷ l) h = fed_line [] (c ∷ l) tt
fed_line (b ∷ (c ∷ f)) l h = fed_line (c ∷ f) l h

-- nothing, or what stands before the last line feed
fed_cases : (f : List ℕ) → IsFed f → (f ≡ []) ⊎ ((a : List ℕ) × (f ≡ a ++ (10 ∷ [])))
fed_cases [] h = inl refl
fed_cases (b ∷ []) h = inr ([], ap (λ (z : ℕ). z ∷ []) h)
fed_cases (b ∷ (c ∷ f)) h = elim (fed_cases (c ∷ f) h) [
  | inl e ↦ absurd cc
  | inr k ↦ inr (b ∷ k.0, (λ i. b ∷ k.1 i))
]

-- ---- no bytes

-- they are no words
pub nothing_lexed : IsLexed [] []
nothing_lexed = one_line (Statements (record { spaces = 0; items = [] }) []) (tt, tt)

no_words : (f : List ℕ) (v : List Word) → f ≡ [] → IsLexed f v → v ≡ []
no_words f v e k = one_reading [] v [] (subst (λ (z : List ℕ). IsLexed z v) e k) nothing_lexed

-- ---- a line and its line feed

-- a line feed adds no words
pub with_feed : (a : List ℕ) (v : List Word) → IsLexed a v → IsLexed (a ++ (10 ∷ [])) v
with_feed a v k = subst (IsLexed (a ++ (10 ∷ []))) (append-nil v) (lexed_both a [] v [] k nothing_lexed)

pub without_feed : (a : List ℕ) (v : List Word) → IsLexed (a ++ (10 ∷ [])) v → IsLexed a v
without_feed a v k =
    let c = lexed_cut a [] v k in
    let is : v ≡ c.front = c.whole ∙ ap (λ (z : List Word). c.front ++ z) (no_words [] c.back refl c.second) ∙ append-nil c.front in
    subst (IsLexed a) (sym is) c.first

-- ---- a front of whole lines, and any bytes

-- whole lines, and a text
pub fed_both : (f b : List ℕ) (v w : List Word) → IsFed f → IsLexed f v → IsLexed b w → IsLexed (f ++ b) (v ++ w)
fed_both f b v w h k l = elim (fed_cases f h) [
  | inl e ↦ subst (λ (z : List ℕ). IsLexed (z ++ b) (v ++ w)) (sym e)
      (subst (λ (z : List Word). IsLexed b (z ++ w)) (sym (no_words f v e k)) l)
  | inr s ↦ (
      let first = without_feed s.0 v (subst (λ (z : List ℕ). IsLexed z v) s.1 k) in
      let is : s.0 ++ (10 ∷ b) ≡ f ++ b = sym (append_assoc s.0 (10 ∷ []) b) ∙ ap (λ (z : List ℕ). z ++ b) (sym s.1) in
      subst (λ (z : List ℕ). IsLexed z (v ++ w)) is (lexed_both s.0 b v w first l))
]

-- what stands behind whole lines, and the words of both
pub record IsParted (f b : List ℕ) (words : List Word) : Type 0 where
  pub front : List Word
  pub back : List Word
  pub first : IsLexed f front
  pub second : IsLexed b back
  pub whole : words ≡ front ++ back

pub fed_parted : (f b : List ℕ) (words : List Word) → IsFed f → IsLexed (f ++ b) words → IsParted f b words
fed_parted f b words h k = elim (fed_cases f h) [
  | inl e ↦ record {
    front = [];
    back = words;
    first = subst (λ (z : List ℕ). IsLexed z []) (sym e) nothing_lexed;
    second = subst (λ (z : List ℕ). IsLexed (z ++ b) words) e k;
    whole = refl;
  }
  | inr s ↦ (
      let is : f ++ b ≡ s.0 ++ (10 ∷ b) = ap (λ (z : List ℕ). z ++ b) s.1 ∙ append_assoc s.0 (10 ∷ []) b in
      let c = lexed_cut s.0 b words (subst (λ (z : List ℕ). IsLexed z words) is k) in
      record {
        front = c.front;
        back = c.back;
        first = subst (λ (z : List ℕ). IsLexed z c.front) (sym s.1) (with_feed s.0 c.front c.first);
        second = c.second;
        whole = c.whole;
      })
]
