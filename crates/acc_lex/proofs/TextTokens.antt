-- What the tokens of a text are.
use Rattle.std.proofs.Common.{◌≡◌, ℕ, List, [], Ok, Err, refl, sym, ap, subst, ◌∙◌}
use Rattle.std.specs.Prelude.{map}
use Rattle.acc_grammar.specs.Readers.{AllIn, joined}
use Rattle.acc_grammar.proofs.Exact.{ok_is}
use Rattle.acc_lex.specs.declared.tokens.Token.{Token}
use Rattle.acc_lex.specs.Spellings.{Line}
use Rattle.acc_lex.specs.LineWords.{lines_words}
use Rattle.acc_lex.specs.LineTokens.{tokens_from, lines_tokens}
use Rattle.acc_lex.specs.Readings.{lines_at}
use Rattle.acc_lex.specs.Slices.{IsSlice, InOrder, words_of}
use Rattle.acc_lex.specs.Texts.{IsLexed, HasTokens}
use Rattle.acc_lex.proofs.WholeTexts.{read_lines, is_read, not_text}
use Rattle.acc_lex.proofs.Pieces.{bytes_of, lines_pieces, part_of, lines_bytes_are, lines_parts_are, lines_are}
use Rattle.acc_lex.proofs.PieceTokens.{slices, same_told}
use Rattle.acc_lex.proofs.PieceGaps.{in_order, lines_fit}
use Rattle.acc_lex.proofs.PieceWords.{lines_told}

-- a text with tokens has the words of the same lines
abbrev lexed_so : (text : List ℕ) (tokens : List Token) (k : HasTokens text tokens) → IsLexed text (lines_words k.lines)
lexed_so text tokens k = record { lines = k.lines; fit = k.fit; spelled = k.spelled; mean = refl }

pub found_tokens : (text : List ℕ) (lines : Line × List Line) (rest : List ℕ) → lines_at text ≡ Ok (lines, rest) →
    HasTokens text (lines_tokens lines)
found_tokens text lines rest h =
    let k = read_lines text lines rest h in record { lines = lines; fit = k.0; spelled = k.1; mean = refl }

-- a text has the tokens of the lines that are read
pub same_tokens : (text : List ℕ) (tokens : List Token) (lines : Line × List Line) (rest : List ℕ) → lines_at text ≡ Ok (lines, rest) →
    HasTokens text tokens → lines_tokens lines ≡ tokens
same_tokens text tokens lines rest h k =
    let one : (Line × List Line) × List ℕ = (lines, rest) in
    let is : one ≡ (k.lines, []) = ok_is one (k.lines, []) (sym h ∙ is_read text (lines_words k.lines) (lexed_so text tokens k)) in
    ap (λ (z : (Line × List Line) × List ℕ). lines_tokens z.0) is ∙ sym k.mean

-- a text has its tokens alone
pub one_list : (text : List ℕ) (a b : List Token) → HasTokens text a → HasTokens text b → a ≡ b
one_list text a b k l = k.mean ∙ same_tokens text b k.lines [] (is_read text (lines_words k.lines) (lexed_so text a k)) l

pub no_tokens : (text rest : List ℕ) → lines_at text ≡ Err rest → (tokens : List Token) → ¬ HasTokens text tokens
no_tokens text rest h tokens k = not_text text rest h (lines_words k.lines) (lexed_so text tokens k)

-- the text is its pieces
spelled_so : (text : List ℕ) (tokens : List Token) (k : HasTokens text tokens) → text ≡ joined bytes_of (lines_pieces k.lines)
spelled_so text tokens k = k.spelled ∙ sym (lines_bytes_are k.lines)

tokens_are : (text : List ℕ) (tokens : List Token) (k : HasTokens text tokens) →
    tokens_from 1 0 (map part_of (lines_pieces k.lines)) ≡ tokens
tokens_are text tokens k = ap (tokens_from 1 0) (lines_parts_are k.lines) ∙ sym k.mean

pub tokens_slices : (text : List ℕ) (tokens : List Token) → HasTokens text tokens → AllIn (IsSlice text) tokens
tokens_slices text tokens k = subst (AllIn (IsSlice text)) (tokens_are text tokens k)
    (slices (lines_pieces k.lines) text [] 1 0 (spelled_so text tokens k) refl refl (lines_are k.lines k.fit))

pub tokens_order : (text : List ℕ) (tokens : List Token) → HasTokens text tokens → InOrder text 0 tokens
tokens_order text tokens k = subst (InOrder text 0) (tokens_are text tokens k)
    (in_order (lines_pieces k.lines) text [] [] 0 1 0 (spelled_so text tokens k) refl refl (lines_fit k.lines k.fit))

pub tokens_words : (text : List ℕ) (tokens : List Token) → HasTokens text tokens → IsLexed text (words_of text tokens)
tokens_words text tokens k = record {
  lines = k.lines;
  fit = k.fit;
  spelled = k.spelled;
  mean = ap (words_of text) (sym (tokens_are text tokens k)) ∙ same_told (lines_pieces k.lines) _ text [] 1 0 (spelled_so text tokens k)
      refl ∙ lines_told k.lines k.fit;
}
