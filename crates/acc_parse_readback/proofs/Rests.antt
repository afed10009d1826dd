-- What stands behind a part of a line: bytes, and the words that they spell.
use Rattle.std.proofs.Common.{◌≡◌, ℕ, Bool, true, false, List, [], ◌∷◌, ◌++◌, refl, sym, ap, subst, ◌∙◌, append_assoc}
use Rattle.std.specs.Prelude.{◌||◌, ◌==◌, map, suc}
use Rattle.acc_grammar.specs.Readers.{joined}
use Rattle.acc_grammar.specs.Runs.{next_is}
use Rattle.acc_lex.specs.declared.words.Word.{Word}
use Rattle.acc_lex.specs.declared.words.Sign.TheVariants as sign
use Rattle.acc_lex.specs.ByteKinds.{is_inner, is_byte}
use Rattle.acc_lex.specs.Spellings.{Token, Letters, Digits, Mark, Item, Statement, token_bytes, blanks, item_bytes, statement_bytes}
use Rattle.acc_lex.specs.Spellings.{IsToken, Parted, IsStatement}
use Rattle.acc_lex.specs.LineWords.{token_word, item_word}

-- a statement with these bytes and words
pub record Rest (bytes : List ℕ) (words : List Word) : Type 0 where
  pub statement : Statement
  pub fit : IsStatement statement
  pub spelled : bytes ≡ statement_bytes statement
  pub mean : words ≡ map item_word statement.items

pub nothing : Rest [] []
nothing = record { statement = record { spaces = 0; items = [] }; fit = tt; spelled = refl; mean = refl }

pub space : (bytes : List ℕ) (words : List Word) → Rest bytes words → Rest (32 ∷ bytes) words
space bytes words r = record {
  statement = record { spaces = suc r.statement.spaces; items = r.statement.items };
  fit = r.fit;
  spelled = ap (λ (bs : List ℕ). 32 ∷ bs) r.spelled;
  mean = r.mean;
}

pub token : (k : Token) (bytes : List ℕ) (words : List Word) → IsToken k → Parted k bytes → Rest bytes words →
    Rest (token_bytes k ++ bytes) (token_word k ∷ words)
token k bytes words is parted r =
    let item : Item = record { token = k; spaces = r.statement.spaces } in
    record {
      statement = record { spaces = 0; items = item ∷ r.statement.items };
      fit = (is, subst (Parted k) r.spelled parted, r.fit);
      spelled = ap (λ (bs : List ℕ). token_bytes k ++ bs) r.spelled ∙ sym
          (append_assoc (token_bytes k) (blanks r.statement.spaces) (joined item_bytes r.statement.items));
      mean = ap (λ (ws : List Word). token_word k ∷ ws) r.mean;
    }

-- a byte that could go on with a word, a number or an equals sign
abbrev pub goes_on : ℕ → Bool
goes_on b = is_inner b || b == 62

-- such a byte doesn't come first
abbrev pub IsApart : List ℕ → Type 0
IsApart bytes = next_is goes_on bytes ≡ false

left_off : (a b : Bool) → (a || b) ≡ false → (a ≡ false) × (b ≡ false)
left_off true b h = absurd cc
left_off false b h = (refl, h)

not_inner : (bytes : List ℕ) → IsApart bytes → next_is is_inner bytes ≡ false
not_inner [] h = refl
not_inner (b ∷ bytes) h = (left_off (is_inner b) (b == 62) h).0

not_arrow : (bytes : List ℕ) → IsApart bytes → next_is (is_byte 62) bytes ≡ false
not_arrow [] h = refl
not_arrow (b ∷ bytes) h = (left_off (is_inner b) (b == 62) h).1

-- every token is parted from bytes that stand apart
pub apart_parts : (k : Token) (bytes : List ℕ) → IsApart bytes → Parted k bytes
apart_parts (Letters w) bytes h = not_inner bytes h
apart_parts (Digits w) bytes h = not_inner bytes h
apart_parts (Mark sign.Equal) bytes h = not_arrow bytes h
apart_parts (Mark _) bytes h = tt

-- ---- parts of a line

-- these bytes spell these words, before any that stand apart
abbrev pub Part : List ℕ → List Word → Type 0
Part text ws = (bytes : List ℕ) (words : List Word) → IsApart bytes → Rest bytes words → Rest (text ++ bytes) (ws ++ words)

-- these bytes spell these words, whatever stands behind
abbrev pub Front : List ℕ → List Word → Type 0
Front text ws = (bytes : List ℕ) (words : List Word) → Rest bytes words → Rest (text ++ bytes) (ws ++ words)

pub front_is_part : (text : List ℕ) (ws : List Word) → Front text ws → Part text ws
front_is_part text ws f bytes words apart r = f bytes words r

along : (text text' bytes : List ℕ) (ws ws' words : List Word) → Rest (text ++ (text' ++ bytes)) (ws ++ (ws' ++ words)) →
    Rest ((text ++ text') ++ bytes) ((ws ++ ws') ++ words)
along text text' bytes ws ws' words r =
    subst (λ (bs : List ℕ). Rest bs ((ws ++ ws') ++ words)) (sym (append_assoc text text' bytes))
    (subst (λ (vs : List Word). Rest (text ++ (text' ++ bytes)) vs) (sym (append_assoc ws ws' words)) r)

apart_along : (text bytes : List ℕ) → IsApart text → IsApart bytes → IsApart (text ++ bytes)
apart_along [] bytes h g = g
apart_along (b ∷ text) bytes h g = h

-- a part, and one that stands apart from it
pub parts : (text text' : List ℕ) (ws ws' : List Word) → Part text ws → IsApart text' → Part text' ws' → Part (text ++ text') (ws ++ ws')
parts text text' ws ws' p apart q bytes words h r =
    along text text' bytes ws ws' words (p (text' ++ bytes) (ws' ++ words) (apart_along text' bytes apart h) (q bytes words h r))

-- a front, and any part
pub fronts : (text text' : List ℕ) (ws ws' : List Word) → Front text ws → Part text' ws' → Part (text ++ text') (ws ++ ws')
fronts text text' ws ws' f q bytes words h r = along text text' bytes ws ws' words (f (text' ++ bytes) (ws' ++ words) (q bytes words h r))

-- two fronts
pub front_front : (text text' : List ℕ) (ws ws' : List Word) → Front text ws → Front text' ws' → Front (text ++ text') (ws ++ ws')
front_front text text' ws ws' f g bytes words r = along text text' bytes ws ws' words (f (text' ++ bytes) (ws' ++ words) (g bytes words r))

-- a part, and a front that stands apart from it
pub part_front : (text text' : List ℕ) (ws ws' : List Word) → Part text ws → ((bytes : List ℕ) → IsApart (text' ++ bytes)) →
    Front text' ws' → Front (text ++ text') (ws ++ ws')
part_front text text' ws ws' p apart f bytes words r =
    along text text' bytes ws ws' words (p (text' ++ bytes) (ws' ++ words) (apart bytes) (f bytes words r))

-- no front
pub no_front : Front [] []
no_front bytes words r = r

-- nothing
pub empty : Part [] []
empty bytes words h r = r

-- a space, and a part
pub spaced_part : (text : List ℕ) (ws : List Word) → Part text ws → Part (32 ∷ text) ws
spaced_part text ws p bytes words h r = space (text ++ bytes) (ws ++ words) (p bytes words h r)

-- one token
pub one_token : (k : Token) → IsToken k → Part (token_bytes k) (token_word k ∷ [])
one_token k is bytes words h r = token k bytes words is (apart_parts k bytes h) r
