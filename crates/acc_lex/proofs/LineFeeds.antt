-- A text is cut at a line feed, and put together there: lexing keeps no state over it.
use Rattle.std.proofs.Common.{◌≡◌, ℕ, zero, suc, Bool, true, false, List, [], ◌∷◌, ◌++◌, refl, sym, ap, subst, ◌∙◌, append_assoc, inl, inr}
use Rattle.std.specs.Prelude.{◌==◌, not}
use Rattle.std.proofs.lemmas.List.{append-nil}
use Rattle.acc_grammar.specs.Readers.{AllIn, joined}
use Rattle.acc_grammar.specs.Runs.{EachPasses, IsRun, IsRow}
use Rattle.acc_grammar.proofs.Exact.{AllIn-append}
use Rattle.acc_lex.specs.declared.words.Sign.{Sign}
use Rattle.acc_lex.specs.declared.words.Sign.TheVariants as sign
use Rattle.acc_lex.specs.declared.words.Word.{Word}
use Rattle.acc_lex.specs.ByteKinds.{is_plain, is_letter, is_digit, is_leading, is_inner}
use Rattle.acc_lex.specs.Spellings.{Token, Letters, Digits, Mark, Item, Statement, Line, Comment, Statements, mark_bytes, token_bytes}
use Rattle.acc_lex.specs.Spellings.{blanks, item_bytes, statement_bytes, next_statement, line_bytes, next_line, lines_bytes, IsToken}
use Rattle.acc_lex.specs.Spellings.{IsItem, ItemParted, IsStatement, IsLine, AreLines}
use Rattle.acc_lex.specs.LineWords.{line_words, lines_words}
use Rattle.acc_lex.specs.Texts.{IsLexed}
use Rattle.acc_lex.proofs.ByteFacts.{byte_apart}

-- ---- no line feed stands in a line

-- any byte but a line feed
abbrev pub no_feed : ℕ → Bool
no_feed b = not (b == 10)

abbrev pub Unfed : List ℕ → Type 0
Unfed bs = EachPasses no_feed bs

unfed_append : (a b : List ℕ) → Unfed a → Unfed b → Unfed (a ++ b)
unfed_append [] b p q = q
unfed_append (x ∷ a) b p q = (p.0, unfed_append a b p.1 q)

no_feed_by : (test : ℕ → Bool) → test 10 ≡ false → (b : ℕ) → test b ≡ true → no_feed b ≡ true
no_feed_by test miss b h = ap not (byte_apart test 10 miss b h)

pub unfed_by : (test : ℕ → Bool) → test 10 ≡ false → (bs : List ℕ) → EachPasses test bs → Unfed bs
unfed_by test miss [] p = tt
unfed_by test miss (b ∷ bs) p = (no_feed_by test miss b p.0, unfed_by test miss bs p.1)

unfed_run : (first test : ℕ → Bool) → first 10 ≡ false → test 10 ≡ false → (bs : List ℕ) → IsRun first test bs → Unfed bs
unfed_run first test f t [] p = absurd p
unfed_run first test f t (b ∷ bs) p = (no_feed_by first f b p.0, unfed_by test t bs p.1)

pub unfed_blanks : (n : ℕ) → Unfed (blanks n)
unfed_blanks zero = tt
unfed_blanks (suc n) = (refl, unfed_blanks n)

unfed_mark : (s : Sign) → Unfed (mark_bytes s)
unfed_mark sign.Open = (refl, tt)
unfed_mark sign.Close = (refl, tt)
unfed_mark sign.Comma = (refl, tt)
unfed_mark sign.Dot = (refl, tt)
unfed_mark sign.Colon = (refl, tt)
unfed_mark sign.Equal = (refl, tt)
unfed_mark sign.AtMost = (refl, (refl, tt))
unfed_mark sign.AtLeast = (refl, (refl, tt))
unfed_mark sign.Implies = (refl, (refl, tt))
unfed_mark sign.Plus = (refl, tt)
unfed_mark sign.Minus = (refl, tt)
unfed_mark sign.Times = (refl, tt)
unfed_mark _ = tt

pub unfed_token : (t : Token) → IsToken t → Unfed (token_bytes t)
unfed_token (Letters w) h = unfed_run is_letter is_inner refl refl w h
unfed_token (Digits w) (inl is) = subst Unfed (sym is) (refl, tt)
unfed_token (Digits w) (inr h) = unfed_run is_leading is_digit refl refl w h
unfed_token (Mark s) h = unfed_mark s

unfed_items : (is : List Item) → IsRow item_bytes IsItem ItemParted is → Unfed (joined item_bytes is)
unfed_items [] h = tt
unfed_items (i ∷ is) h = unfed_append (item_bytes i) (joined item_bytes is)
    (unfed_append (token_bytes i.token) (blanks i.spaces) (unfed_token i.token h.0) (unfed_blanks i.spaces)) (unfed_items is h.2)

unfed_statement : (s : Statement) → IsStatement s → Unfed (statement_bytes s)
unfed_statement s h = unfed_append (blanks s.spaces) (joined item_bytes s.items) (unfed_blanks s.spaces) (unfed_items s.items h)

unfed_next : (others : List Statement) → AllIn IsStatement others → Unfed (joined next_statement others)
unfed_next [] h = tt
unfed_next (s ∷ others) h = (
  refl,
  unfed_append (statement_bytes s) (joined next_statement others) (unfed_statement s h.0)
      (unfed_next others h.1),
)

unfed_line : (l : Line) → IsLine l → Unfed (line_bytes l)
unfed_line (Comment n bytes) h = unfed_append (blanks n) (35 ∷ bytes) (unfed_blanks n) (refl, unfed_by is_plain refl bytes h)
unfed_line (Statements s others) h = unfed_append (statement_bytes s) (joined next_statement others) (unfed_statement s h.0)
    (unfed_next others h.1)

-- ---- texts put together

pub joined_append : {T : Type 0} {X : Type 0} (f : T → List X) (ts us : List T) → joined f (ts ++ us) ≡ joined f ts ++ joined f us
joined_append f [] us = refl
joined_append f (t ∷ ts) us = ap (λ (z : List _). f t ++ z) (joined_append f ts us) ∙ sym (append_assoc (f t) (joined f ts) (joined f us))

-- a text, a line feed and a text
pub lexed_both : (a b : List ℕ) (v w : List Word) → IsLexed a v → IsLexed b w → IsLexed (a ++ (10 ∷ b)) (v ++ w)
lexed_both a b v w k l = record {
  lines = (k.lines.0, k.lines.1 ++ (l.lines.0 ∷ l.lines.1));
  fit = (k.fit.0, AllIn-append IsLine k.lines.1 (l.lines.0 ∷ l.lines.1) k.fit.1 l.fit);
  spelled = (λ i. k.spelled i ++ (10 ∷ l.spelled i)) ∙ append_assoc (line_bytes k.lines.0) (joined next_line k.lines.1)
      (10 ∷ lines_bytes l.lines) ∙ ap (λ (z : List ℕ). line_bytes k.lines.0 ++ z)
      (sym (joined_append next_line k.lines.1 (l.lines.0 ∷ l.lines.1)));
  mean = (λ i. k.mean i ++ l.mean i) ∙ sym (joined_append line_words (k.lines.0 ∷ k.lines.1) (l.lines.0 ∷ l.lines.1));
}

-- ---- a text cut at a line feed

-- the first line feed stands behind what has none
behind_line : (w r a b : List ℕ) → Unfed w → w ++ r ≡ a ++ (10 ∷ b) → (rest : List ℕ) × (a ≡ w ++ rest) × (r ≡ rest ++ (10 ∷ b))
behind_line [] r a b p e = (a, refl, e)
behind_line (c ∷ w) r [] b p e = absurd (let is : c ≡ 10 = cc in let wrong = sym p.0 ∙ ap no_feed is in cc)
behind_line (c ∷ w) r (d ∷ a) b p e =
    let head : c ≡ d = cc in
    let tail : w ++ r ≡ a ++ (10 ∷ b) = cc in
    let k = behind_line w r a b p.1 tail in
    (k.0, (λ i. sym head i ∷ k.1 i), k.2)

-- the two parts of a text that is cut at a line feed, and their words
pub record IsCut (a b : List ℕ) (words : List Word) : Type 0 where
  pub front : List Word
  pub back : List Word
  pub first : IsLexed a front
  pub second : IsLexed b back
  pub whole : words ≡ front ++ back

pub one_line : (l : Line) → IsLine l → IsLexed (line_bytes l) (line_words l)
one_line l h = record { lines = (l, []); fit = (h, tt); spelled = sym (append-nil (line_bytes l)); mean = sym (append-nil (line_words l)) }

-- a line, and behind it what the further lines are cut into
cut_behind : (l m : Line) (others : List Line) (a rest b : List ℕ) → IsLine l → AreLines (m, others) → a ≡ line_bytes l ++ rest →
    10 ∷ lines_bytes (m, others) ≡ rest ++ (10 ∷ b) →
    ((c : List ℕ) → lines_bytes (m, others) ≡ c ++ (10 ∷ b) → IsCut c b (lines_words (m, others))) →
    IsCut a b (line_words l ++ lines_words (m, others))
cut_behind l m others a [] b h fit here e again = record {
  front = line_words l;
  back = lines_words (m, others);
  first = subst (λ (z : List ℕ). IsLexed z (line_words l)) (sym (here ∙ append-nil (line_bytes l))) (one_line l h);
  second = record { lines = (m, others); fit = fit; spelled = (let is : lines_bytes (m, others) ≡ b = cc in sym is); mean = refl };
  whole = refl;
}
cut_behind l m others a (c ∷ rest) b h fit here e again =
    let feed : 10 ≡ c = cc in
    let k = again rest cc in record {
      front = line_words l ++ k.front;
      back = k.back;
      first = subst (λ (z : List ℕ). IsLexed z (line_words l ++ k.front)) (sym (here ∙ (λ i. line_bytes l ++ (sym feed i ∷ rest))))
          (lexed_both (line_bytes l) rest (line_words l) k.front (one_line l h) k.first);
      second = k.second;
      whole = (λ i. line_words l ++ k.whole i) ∙ sym (append_assoc (line_words l) k.front k.back);
    }

cut_lines : (others : List Line) (l : Line) (a b : List ℕ) → AreLines (l, others) → lines_bytes (l, others) ≡ a ++ (10 ∷ b) →
    IsCut a b (lines_words (l, others))
cut_lines [] l a b fit e = let k = behind_line (line_bytes l) [] a b (unfed_line l fit.0) e in absurd (none k.0 k.2)
  where
    none : (rest : List ℕ) → [] ≡ rest ++ (10 ∷ b) → ⊥
    none [] is = cc
    none (c ∷ rest) is = cc
cut_lines (m ∷ others) l a b fit e =
    let k = behind_line (line_bytes l) (joined next_line (m ∷ others)) a b (unfed_line l fit.0) e in
    cut_behind l m others a k.0 b fit.0 fit.1 k.1 k.2 (λ c is. cut_lines others m c b fit.1 is)

-- A text is cut at any of its line feeds into two texts, and its words are theirs.
pub lexed_cut : (a b : List ℕ) (words : List Word) → IsLexed (a ++ (10 ∷ b)) words → IsCut a b words
lexed_cut a b words k = subst (IsCut a b) (sym k.mean) (cut_lines k.lines.1 k.lines.0 a b k.fit (sym k.spelled))
