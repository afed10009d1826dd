-- Lines, each a statement that ends with a line feed, and the words that they spell.
use Rattle.std.proofs.Common.{◌≡◌, ℕ, Bool, true, false, List, [], ◌∷◌, ◌++◌, refl, sym, ap, subst, ◌∙◌, append_assoc}
use Rattle.std.specs.Prelude.{map}
use Rattle.std.specs.List.{flat_map}
use Rattle.std.proofs.lemmas.List.{append-nil}
use Rattle.acc_grammar.specs.Readers.{AllIn, joined}
use Rattle.acc_base.specs.Lines.{line}
use Rattle.acc_lex.specs.declared.words.Word.{Word}
use Rattle.acc_lex.specs.declared.words.Sign.TheVariants as sign
use Rattle.acc_lex.specs.Spellings.{Line, Statement, Statements, statement_bytes, line_bytes, next_line, lines_bytes, IsStatement, IsLine}
use Rattle.acc_lex.specs.Spellings.{AreLines}
use Rattle.acc_lex.specs.LineWords.{item_word, ended, statement_words, line_words, lines_words}
use Rattle.acc_lex.specs.Texts.{IsLexed}
use Rattle.acc_parse_syntax.specs.Spelling.{just}
use Rattle.acc_parse_readback.proofs.Rests.{Rest, Part, nothing}

-- a statement and a line feed
abbrev pub ended_bytes : Statement → List ℕ
ended_bytes s = line (statement_bytes s)

-- there is a word
abbrev is_said : List Word → Bool
is_said [] = false
is_said (w ∷ ws) = true

-- a statement that has a word
abbrev pub HasWords : Statement → Type 0
HasWords s = is_said (map item_word s.items) ≡ true

pub record Lines (text : List ℕ) (words : List Word) : Type 0 where
  pub statements : List Statement
  pub fit : AllIn IsStatement statements
  pub some : AllIn HasWords statements
  pub spelled : text ≡ joined ended_bytes statements
  pub mean : words ≡ joined statement_words statements

pub no_lines : Lines [] []
no_lines = record { statements = []; fit = tt; some = tt; spelled = refl; mean = refl }

all_both : {T : Type 0} (P : T → Type 0) (xs ys : List T) → AllIn P xs → AllIn P ys → AllIn P (xs ++ ys)
all_both P [] ys h g = g
all_both P (x ∷ xs) ys h g = (h.0, all_both P xs ys h.1 g)

joined_both : {S T : Type 0} (f : T → List S) (xs ys : List T) → joined f (xs ++ ys) ≡ joined f xs ++ joined f ys
joined_both f [] ys = refl
joined_both {S} f (x ∷ xs) ys = ap (λ (bs : List S). f x ++ bs) (joined_both f xs ys) ∙ sym (append_assoc (f x) (joined f xs) (joined f ys))

pub more_lines : (text text' : List ℕ) (ws ws' : List Word) → Lines text ws → Lines text' ws' → Lines (text ++ text') (ws ++ ws')
more_lines text text' ws ws' a b = record {
  statements = a.statements ++ b.statements;
  fit = all_both IsStatement a.statements b.statements a.fit b.fit;
  some = all_both HasWords a.statements b.statements a.some b.some;
  spelled = ap (λ (bs : List ℕ). bs ++ text') a.spelled ∙ ap (λ (bs : List ℕ). joined ended_bytes a.statements ++ bs) b.spelled ∙ sym
      (joined_both ended_bytes a.statements b.statements);
  mean = ap (λ (vs : List Word). vs ++ ws') a.mean ∙ ap (λ (vs : List Word). joined statement_words a.statements ++ vs) b.mean ∙ sym
      (joined_both statement_words a.statements b.statements);
}

-- ---- one line

ended_is : (ws : List Word) → is_said ws ≡ true → ended ws ≡ ws ++ just sign.End
ended_is [] h = absurd cc
ended_is (w ∷ ws) h = refl

whole : (text : List ℕ) (ws : List Word) → Part text ws → Rest text ws
whole text ws p = subst (λ (bs : List ℕ). Rest bs ws) (append-nil text)
    (subst (λ (vs : List Word). Rest (text ++ []) vs) (append-nil ws) (p [] [] refl nothing))

by_rest : (text : List ℕ) (ws : List Word) → is_said ws ≡ true → Rest text ws → Lines (line text) (ws ++ just sign.End)
by_rest text ws some r = record {
  statements = r.statement ∷ [];
  fit = (r.fit, tt);
  some = (sym (ap is_said r.mean) ∙ some, tt);
  spelled = ap line r.spelled ∙ sym (append-nil (ended_bytes r.statement));
  mean = sym (ended_is ws some) ∙ ap ended r.mean ∙ sym (append-nil (statement_words r.statement));
}

-- the words of a part, and the end of its statement
pub one_line : (text : List ℕ) (ws words : List Word) → Part text ws → is_said ws ≡ true → ws ++ just sign.End ≡ words →
    Lines (line text) words
one_line text ws words p some e = subst (λ (vs : List Word). Lines (line text) vs) e (by_rest text ws some (whole text ws p))

-- ---- lines for each item

pub lines_mapped : {X Y : Type 0} (P : X → Type 0) (text : X → List ℕ) (spell : Y → List Word) (tree : X → Y) (each : (x : X) → P x →
    Lines (text x) (spell (tree x))) (xs : List X) → AllIn P xs → Lines (flat_map text xs) (joined spell (map tree xs))
lines_mapped P text spell tree each [] h = no_lines
lines_mapped P text spell tree each (x ∷ xs) h =
    more_lines (text x) (flat_map text xs) (spell (tree x)) (joined spell (map tree xs)) (each x h.0)
    (lines_mapped P text spell tree each xs h.1)

-- ---- whole texts

-- an empty statement
abbrev blank : Statement
blank = record { spaces = 0; items = [] }

-- the lines behind the first
abbrev lines_behind : List Statement → List Line
lines_behind [] = Statements blank [] ∷ []
lines_behind (s ∷ ss) = Statements s [] ∷ lines_behind ss

-- every line of statements: behind the last line feed stands an empty one
abbrev all_lines : List Statement → Line × List Line
all_lines [] = (Statements blank [], [])
all_lines (s ∷ ss) = (Statements s [], lines_behind ss)

behind_fit : (ss : List Statement) → AllIn IsStatement ss → AllIn IsLine (lines_behind ss)
behind_fit [] h = ((tt, tt), tt)
behind_fit (s ∷ ss) h = ((h.0, tt), behind_fit ss h.1)

all_fit : (ss : List Statement) → AllIn IsStatement ss → AreLines (all_lines ss)
all_fit [] h = ((tt, tt), tt)
all_fit (s ∷ ss) h = ((h.0, tt), behind_fit ss h.1)

alone : (s : Statement) → line_bytes (Statements s []) ≡ statement_bytes s
alone s = append-nil (statement_bytes s)

behind_bytes : (ss : List Statement) → 10 ∷ joined ended_bytes ss ≡ joined next_line (lines_behind ss)
behind_bytes [] = refl
behind_bytes (s ∷ ss) =
    ap (λ (bs : List ℕ). 10 ∷ bs) (append_assoc (statement_bytes s) (10 ∷ []) (joined ended_bytes ss) ∙ ap
    (λ (bs : List ℕ). statement_bytes s ++ bs) (behind_bytes ss)
    ∙ ap (λ (bs : List ℕ). bs ++ joined next_line (lines_behind ss)) (sym (alone s)))

all_bytes : (ss : List Statement) → joined ended_bytes ss ≡ lines_bytes (all_lines ss)
all_bytes [] = refl
all_bytes (s ∷ ss) =
    append_assoc (statement_bytes s) (10 ∷ []) (joined ended_bytes ss) ∙ ap (λ (bs : List ℕ). statement_bytes s ++ bs) (behind_bytes ss)
    ∙ ap (λ (bs : List ℕ). bs ++ joined next_line (lines_behind ss)) (sym (alone s))

behind_words : (ss : List Statement) → joined statement_words ss ≡ joined line_words (lines_behind ss)
behind_words [] = refl
behind_words (s ∷ ss) = ap (λ (ws : List Word). statement_words s ++ ws) (behind_words ss) ∙ ap
    (λ (ws : List Word). ws ++ joined line_words (lines_behind ss)) (sym (append-nil (statement_words s)))

all_words : (ss : List Statement) → joined statement_words ss ≡ lines_words (all_lines ss)
all_words [] = refl
all_words (s ∷ ss) = ap (λ (ws : List Word). statement_words s ++ ws) (behind_words ss) ∙ ap
    (λ (ws : List Word). ws ++ joined line_words (lines_behind ss)) (sym (append-nil (statement_words s)))

-- lines are a text
pub lexed : (text : List ℕ) (words : List Word) → Lines text words → IsLexed text words
lexed text words l = record {
  lines = all_lines l.statements;
  fit = all_fit l.statements l.fit;
  spelled = l.spelled ∙ all_bytes l.statements;
  mean = l.mean ∙ all_words l.statements;
}
