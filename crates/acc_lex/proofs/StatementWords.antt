-- The words of a text are whole statements: no End stands first or behind another, and one stands last.
use Rattle.std.proofs.Common.{◌≡◌, ◌≢◌, ℕ, Bool, true, false, List, [], ◌∷◌, ◌++◌, refl, sym, subst, inl, inr}
use Rattle.std.specs.Prelude.{not, map, MatchBool}
use Rattle.std.specs.List.{list_all}
use Rattle.std.specs.Str.{bytes_eq}
use Rattle.acc_grammar.specs.Readers.{AllIn, joined}
use Rattle.acc_grammar.specs.Runs.{IsRow}
use Rattle.acc_grammar.proofs.RunReaders.{flag}
use Rattle.acc_lex.specs.declared.words.Sign.{Sign}
use Rattle.acc_lex.specs.declared.words.Sign.TheVariants as sign
use Rattle.acc_lex.specs.declared.words.Word.{Word}
use Rattle.acc_lex.specs.declared.words.Word.TheVariants as word
use Rattle.acc_lex.specs.Keywords.{keywords, sign_in, keyword_of}
use Rattle.acc_lex.specs.Spellings.{Token, Letters, Digits, Mark, Item, Line, Comment, Statements, mark_bytes, item_bytes, IsToken, IsItem}
use Rattle.acc_lex.specs.Spellings.{ItemParted, IsStatement, IsLine}
use Rattle.acc_lex.specs.LineWords.{name_or_sign, token_word, item_word, ended, statement_words, line_words}
use Rattle.acc_lex.specs.Texts.{IsLexed}
use Rattle.acc_lex.proofs.ByteFacts.{and_both}

-- the sign that ends a statement
abbrev pub is_end_sign : Sign → Bool
is_end_sign sign.End = true
is_end_sign _ = false

-- the end of a statement
abbrev pub is_end : Word → Bool
is_end (word.Sign s) = is_end_sign s
is_end _ = false

-- Whole statements, none of them empty; at false one has begun before.
abbrev pub InStatements : Bool → List Word → Type 0
InStatements fresh [] = fresh ≡ true
InStatements fresh (w ∷ ws) = MatchBool (is_end w) ((fresh ≡ false) × InStatements true ws) (InStatements false ws)

-- what is asked of words, by whether the first is an End
abbrev StepOf : Bool → List Word → Bool → Type 0
StepOf fresh ws b = MatchBool b ((fresh ≡ false) × InStatements true ws) (InStatements false ws)

pub at_end : (fresh : Bool) (w : Word) (ws : List Word) → is_end w ≡ true → InStatements fresh (w ∷ ws) → (fresh ≡ false) ×
    InStatements true ws
at_end fresh w ws e h = subst (StepOf fresh ws) e h

pub at_other : (fresh : Bool) (w : Word) (ws : List Word) → is_end w ≡ false → InStatements fresh (w ∷ ws) → InStatements false ws
at_other fresh w ws e h = subst (StepOf fresh ws) e h

-- ---- statements behind statements

-- statements, and behind them statements
pub in_both : (fresh : Bool) (a b : List Word) → InStatements fresh a → InStatements true b → InStatements fresh (a ++ b)
in_both fresh [] b h k = subst (λ (z : Bool). InStatements z b) (sym h) k
in_both fresh (w ∷ a) b h k = elim (flag (is_end w)) [
  | inl e ↦ (let n = at_end fresh w a e h in subst (StepOf fresh (a ++ b)) (sym e) (n.0, in_both true a b n.1 k))
  | inr e ↦ subst (StepOf fresh (a ++ b)) (sym e) (in_both false a b (at_other fresh w a e h) k)
]

-- what stands behind statements, in statements
pub in_behind : (fresh : Bool) (a b : List Word) → InStatements fresh a → InStatements fresh (a ++ b) → InStatements true b
in_behind fresh [] b h k = subst (λ (z : Bool). InStatements z b) h k
in_behind fresh (w ∷ a) b h k = elim (flag (is_end w)) [
  | inl e ↦ in_behind true a b (at_end fresh w a e h).1 (at_end fresh w (a ++ b) e k).1
  | inr e ↦ in_behind false a b (at_other fresh w a e h) (at_other fresh w (a ++ b) e k)
]

-- ---- the words of a text

abbrev no_end : List ℕ × Sign → Bool
no_end k = not (is_end_sign k.1)

-- no keyword is the end of a statement
found_no_end : (ks : List (List ℕ × Sign)) (w : List ℕ) → list_all no_end ks ≡ true → is_end (name_or_sign w (sign_in ks w)) ≡ false
found_no_end [] w h = refl
found_no_end (k ∷ ks) w h =
    let all = and_both (no_end k) (list_all no_end ks) h in
    elim (flag (bytes_eq w k.0)) [ inl e ↦ rw e (is_false (is_end_sign k.1) all.0) | inr e ↦ rw e (found_no_end ks w all.1) ]
  where
    is_false : (b : Bool) → not b ≡ true → b ≡ false
    is_false true e = absurd cc
    is_false false e = refl

mark_no_end : (s : Sign) → mark_bytes s ≢ [] → is_end_sign s ≡ false
mark_no_end sign.End h = absurd (h refl)
mark_no_end _ h = refl

token_no_end : (t : Token) → IsToken t → is_end (token_word t) ≡ false
unfolding keyword_of
token_no_end (Letters w) h = found_no_end keywords w refl
token_no_end (Digits w) h = refl
token_no_end (Mark s) h = mark_no_end s h

items_in : (is : List Item) → IsRow item_bytes IsItem ItemParted is → InStatements false (map item_word is ++ word.Sign sign.End ∷ [])
items_in [] h = (refl, refl)
items_in (i ∷ is) h = subst (StepOf false (map item_word is ++ word.Sign sign.End ∷ [])) (sym (token_no_end i.token h.0)) (items_in is h.2)

statement_in : (is : List Item) → IsRow item_bytes IsItem ItemParted is → InStatements true (ended (map item_word is))
statement_in [] h = refl
statement_in (i ∷ is) h = subst (StepOf true (map item_word is ++ word.Sign sign.End ∷ [])) (sym (token_no_end i.token h.0))
    (items_in is h.2)

joined_in : {T : Type 0} (words : T → List Word) (P : T → Type 0) → ((t : T) → P t → InStatements true (words t)) → (ts : List T) →
    AllIn P ts → InStatements true (joined words ts)
joined_in words P each [] h = refl
joined_in words P each (t ∷ ts) h = in_both true (words t) (joined words ts) (each t h.0) (joined_in words P each ts h.1)

line_in : (l : Line) → IsLine l → InStatements true (line_words l)
line_in (Comment n bytes) h = refl
line_in (Statements s others) h = joined_in statement_words IsStatement (λ t p. statement_in t.items p) (s ∷ others) h

-- the words of a text are whole statements
pub lexed_in : (text : List ℕ) (words : List Word) → IsLexed text words → InStatements true words
lexed_in text words l = subst (InStatements true) (sym l.mean) (joined_in line_words IsLine line_in (l.lines.0 ∷ l.lines.1) l.fit)
