-- Words in statements can be written on one line.
use Rattle.std.proofs.Common.{◌≡◌, ◌≢◌, ℕ, Bool, true, false, cond, List, [], ◌∷◌, ◌++◌, Some, None, refl, sym, ap, subst, ◌∙◌}
use Rattle.std.proofs.Common.{append_assoc, inl, inr}
use Rattle.std.specs.Prelude.{◌&&◌, map, MatchBool}
use Rattle.std.specs.List.{list_all}
use Rattle.std.proofs.lemmas.List.{append-nil}
use Rattle.acc_grammar.specs.Readers.{AllIn, joined}
use Rattle.acc_grammar.specs.Runs.{EachPasses, IsRun, IsRow}
use Rattle.acc_grammar.proofs.RunReaders.{flag}
use Rattle.acc_lex.specs.contracts.words.SignPartialEq.TheImpl as derived
use Rattle.acc_lex.specs.declared.words.Sign.{Sign}
use Rattle.acc_lex.specs.declared.words.Sign.TheVariants as sign
use Rattle.acc_lex.specs.declared.words.Word.{Word}
use Rattle.acc_lex.specs.declared.words.Word.TheVariants as word
use Rattle.acc_lex.specs.ByteKinds.{is_letter, is_inner}
use Rattle.acc_lex.specs.Keywords.{keywords, keyword_of}
use Rattle.acc_lex.specs.Spellings.{Token, Letters, Digits, Mark, Item, Statement, Line, Statements, mark_bytes, item_bytes, line_bytes}
use Rattle.acc_lex.specs.Spellings.{IsNumeral, IsToken, IsItem, ItemParted, IsStatement}
use Rattle.acc_lex.specs.LineWords.{name_or_sign, number_of, token_word, item_word, statement_words}
use Rattle.acc_lex.specs.Texts.{IsLexed}
use Rattle.acc_lex.specs.Words.{CanSpell}
use Rattle.acc_lex.proofs.ByteFacts.{and_both}
use Rattle.acc_lex.proofs.TokenReaders.{parted}
use Rattle.acc_lex.proofs.StatementWords.{is_end_sign, is_end, InStatements}

-- ---- a token for each word

-- a token that means the word
abbrev HasToken : Word → Type 0
HasToken w = (t : Token) × IsToken t × (token_word t ≡ w)

abbrev is_nil : List ℕ → Bool
is_nil [] = true
is_nil (b ∷ bs) = false

not_nil : (bs : List ℕ) → is_nil bs ≡ false → bs ≢ []
not_nil bs h e = let wrong = sym h ∙ ap is_nil e in cc

-- the word of a table that is this sign
abbrev word_in : List (List ℕ × Sign) → Sign → List ℕ
word_in [] s = []
word_in (k ∷ ks) s = cond (derived.ghosts.eq k.1 s) k.0 (word_in ks s)

abbrev is_run : List ℕ → Bool
is_run [] = false
is_run (b ∷ bs) = is_letter b && list_all is_inner bs

each_inner : (bs : List ℕ) → list_all is_inner bs ≡ true → EachPasses is_inner bs
each_inner [] h = tt
each_inner (b ∷ bs) h = let k = and_both (is_inner b) (list_all is_inner bs) h in (k.0, each_inner bs k.1)

run_of : (w : List ℕ) → is_run w ≡ true → IsRun is_letter is_inner w
run_of [] h = absurd cc
run_of (b ∷ bs) h = let k = and_both (is_letter b) (list_all is_inner bs) h in (k.0, each_inner bs k.1)

-- a sign that is neither End nor a mark is a keyword
keyword_token : (s : Sign) → is_end_sign s ≡ false → is_nil (mark_bytes s) ≡ true → (is_run (word_in keywords s) ≡ true) ×
    (keyword_of (word_in keywords s) ≡ Some s)
unfolding keyword_of
keyword_token sign.End h m = absurd cc
keyword_token sign.Open h m = absurd cc
keyword_token sign.Close h m = absurd cc
keyword_token sign.Comma h m = absurd cc
keyword_token sign.Dot h m = absurd cc
keyword_token sign.Colon h m = absurd cc
keyword_token sign.Equal h m = absurd cc
keyword_token sign.AtMost h m = absurd cc
keyword_token sign.AtLeast h m = absurd cc
keyword_token sign.Implies h m = absurd cc
keyword_token sign.Plus h m = absurd cc
keyword_token sign.Minus h m = absurd cc
keyword_token sign.Times h m = absurd cc
keyword_token _ h m = (refl, refl)

has_token : (w : Word) → CanSpell w → is_end w ≡ false → HasToken w
has_token (word.Sign s) h e = elim (flag (is_nil (mark_bytes s))) [
  | inl m ↦ (let k = keyword_token s e m in (
    Letters (word_in keywords s),
    run_of (word_in keywords s) k.0,
    ap (name_or_sign (word_in keywords s)) k.1,
  ))
  | inr m ↦ (Mark s, not_nil (mark_bytes s) m, refl)
]
has_token (word.Name x) h e = (Letters x, h.0, ap (name_or_sign x) h.1)
has_token (word.Number n) h e = (Digits h.0, h.1, ap (λ (z : ℕ). word.Number z) h.2)

-- ---- statements of the words

the_end : (w : Word) → is_end w ≡ true → w ≡ word.Sign sign.End
the_end (word.Sign s) h = ap (λ (z : Sign). word.Sign z) (only s h)
  where
    only : (s : Sign) → is_end_sign s ≡ true → s ≡ sign.End
    only sign.End h = refl
    only _ h = absurd cc
the_end (word.Name x) h = absurd cc
the_end (word.Number n) h = absurd cc

abbrev AreItems : List Item → Type 0
AreItems is = IsRow item_bytes IsItem ItemParted is

-- what the words are put into: statements, or the rest of one and then statements
abbrev Put : Bool → List Word → Type 0
Put true ws = (ss : List Statement) × AllIn IsStatement ss × (ws ≡ joined statement_words ss)
Put false ws = (is : List Item) × AreItems is × (ss : List Statement) × AllIn IsStatement ss ×
    (ws ≡ map item_word is ++ (word.Sign sign.End ∷ joined statement_words ss))

-- a token with one space behind it
spaced : Token → Item
spaced t = record { token = t; spaces = 1 }

put_end : (fresh : Bool) (w : Word) (ws : List Word) → is_end w ≡ true → fresh ≡ false → Put true ws → Put fresh (w ∷ ws)
put_end true w ws e b p = absurd cc
put_end false w ws e b p = ([], tt, p.0, p.1, (λ i. the_end w e i ∷ p.2 i))

put_token : (fresh : Bool) (w : Word) (ws : List Word) → HasToken w → Put false ws → Put fresh (w ∷ ws)
unfolding spaced
put_token true w ws t p =
    let item = spaced t.0 in
    let one : Statement = record { spaces = 0; items = item ∷ p.0 } in (
      one ∷ p.2,
      ((t.1, parted t.0 _ refl refl, p.1), p.3),
      (λ i. sym t.2 i ∷ p.4 i) ∙ (λ i. token_word t.0 ∷ sym
          (append_assoc (map item_word p.0) (word.Sign sign.End ∷ []) (joined statement_words p.2)) i),
    )
put_token false w ws t p =
    (spaced t.0 ∷ p.0, (t.1, parted t.0 _ refl refl, p.1), p.2, p.3, (λ i. sym t.2 i ∷ p.4 i))

put : (fresh : Bool) (ws : List Word) → AllIn CanSpell ws → InStatements fresh ws → Put fresh ws
put true [] can h = ([], tt, refl)
put false [] can h = absurd cc
put fresh (w ∷ ws) can h = elim (flag (is_end w)) [
  | inl e ↦ (let k : (fresh ≡ false) × InStatements true ws =
      subst (λ (b : Bool). MatchBool b ((fresh ≡ false) × InStatements true ws) (InStatements false ws)) e h in
      put_end fresh w ws e k.0 (put true ws can.1 k.1))
  | inr e ↦ (let k : InStatements false ws = subst
      (λ (b : Bool). MatchBool b ((fresh ≡ false) × InStatements true ws) (InStatements false ws)) e h in
      put_token fresh w ws (has_token w can.0 e) (put false ws can.1 k))
]

-- Words in whole statements are those of a text.
pub written : (words : List Word) → AllIn CanSpell words → InStatements true words → (text : List ℕ) × IsLexed text words
written words can h =
    let p = put true words can h in
    let line : Line = Statements (record { spaces = 0; items = [] }) p.0 in (
      line_bytes line,
      record {
        lines = (line, []);
        fit = ((tt, p.1), tt);
        spelled = sym (append-nil (line_bytes line));
        mean =
            p.2 ∙ sym (append-nil (joined statement_words p.0));
      },
    )
