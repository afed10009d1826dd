-- The tokens of pieces are slices of the text in order, and their words are those of the pieces.
use Rattle.std.proofs.Common.{◌≡◌, ℕ, ◌+◌, ◌-◌, Bool, List, [], ◌∷◌, ◌++◌, length, take, drop, Option, Some, None, refl, sym, ap, subst}
use Rattle.std.proofs.Common.{◌∙◌, arith, append_assoc, length-append}
use Rattle.std.specs.Prelude.{map, count_by, slice_range}
use Rattle.std.proofs.lemmas.List.{take_at, drop_at}
use Rattle.acc_grammar.specs.Readers.{AllIn, joined}
use Rattle.acc_grammar.proofs.Exact.{AllIn-append}
use Rattle.acc_lex.specs.declared.words.Word.{Word}
use Rattle.acc_lex.specs.declared.tokens.Kind.{Kind}
use Rattle.acc_lex.specs.declared.tokens.Token.{Token}
use Rattle.acc_lex.specs.LineTokens.{kind_of, feeds_of, token_of, tokens_from}
use Rattle.acc_lex.specs.Slices.{IsOf, IsSlice, ends, told, words_from}
use Rattle.acc_lex.proofs.Pieces.{Piece, bytes_of, part_of, is_feed, OfKind, IsPiece, count_both}

-- ---- slices

-- w stands behind front
pub sliced : (text front w back : List ℕ) (from : ℕ) → text ≡ front ++ (w ++ back) → length front ≡ from →
    slice_range text from (from + length w) ≡ w
sliced text front w back from is at =
    let len : (from + length w) - from ≡ length w = omega arith in
    (λ i. take (len i) (drop from (is i))) ∙ ap (take (length w)) (drop_at front (w ++ back) from at) ∙ take_at w back (length w) refl

token_slice : (k : Option Kind) (text front w back : List ℕ) (line from : ℕ) → text ≡ front ++ (w ++ back) → length front ≡ from →
    line ≡ 1 + count_by is_feed front → OfKind k w → AllIn (IsSlice text) (token_of k line from (from + length w))
token_slice None text front w back line from is at lines h = tt
token_slice (Some k) text front w back line from is at lines h = (
  record {
    forward = omega arith;
    within = omega (arith, ap length is, at, length-append front (w ++ back), length-append w back);
    kind = subst (IsOf k) (sym (sliced text front w back from is at)) h;
    line = lines ∙ ap (λ (z : List ℕ). 1 + count_by is_feed z) (sym (ap (take from) is ∙ take_at front (w ++ back) from at));
  },
  tt,
)

-- the text behind one further piece
pub behind : (text front w back : List ℕ) → text ≡ front ++ (w ++ back) → text ≡ (front ++ w) ++ back
behind text front w back is = is ∙ sym (append_assoc front w back)

pub slices : (ps : List Piece) (text front : List ℕ) (line from : ℕ) → text ≡ front ++ joined bytes_of ps → length front ≡ from →
    line ≡ 1 + count_by is_feed front → AllIn IsPiece ps → AllIn (IsSlice text) (tokens_from line from (map part_of ps))
slices [] text front line from is at lines h = tt
slices (p ∷ ps) text front line from is at lines h =
    let back = joined bytes_of ps in
    let to : length (front ++ p.bytes) ≡ from + length p.bytes = omega (arith, at, length-append front p.bytes) in
    let next : line + feeds_of p.shape ≡ 1 + count_by is_feed (front ++ p.bytes) = omega (arith, lines, h.0.1, count_both front p.bytes) in
    AllIn-append (IsSlice text) (token_of (kind_of p.shape) line from (from + length p.bytes))
    (tokens_from (line + feeds_of p.shape) (from + length p.bytes) (map part_of ps))
    (token_slice (kind_of p.shape) text front p.bytes back line from is at lines h.0.0)
    (slices ps text (front ++ p.bytes) (line + feeds_of p.shape) (from + length p.bytes) (behind text front p.bytes back is) to next
    h.1)

-- ---- their words

abbrev pub piece_told : Bool → Option Kind → List ℕ → List Word
piece_told empty (Some k) w = told empty k w
piece_told empty None w = []

abbrev pub then_empty : Bool → Option Kind → Bool
then_empty empty (Some k) = ends k
then_empty empty None = empty

-- the words of pieces, where no token of the statement stands before, or one does
abbrev pub pieces_words : Bool → List Piece → List Word
pieces_words empty [] = []
pieces_words empty (p ∷ ps) = piece_told empty (kind_of p.shape) p.bytes ++ pieces_words (then_empty empty (kind_of p.shape)) ps

one_told : (k : Option Kind) (empty : Bool) (text w : List ℕ) (line from to : ℕ) (ts : List Token) → slice_range text from to ≡ w →
    words_from empty text (token_of k line from to ++ ts) ≡ piece_told empty k w ++ words_from (then_empty empty k) text ts
one_told None empty text w line from to ts is = refl
one_told (Some k) empty text w line from to ts is = λ i. told empty k (is i) ++ words_from (ends k) text ts

pub same_told : (ps : List Piece) (empty : Bool) (text front : List ℕ) (line from : ℕ) → text ≡ front ++ joined bytes_of ps →
    length front ≡ from → words_from empty text (tokens_from line from (map part_of ps)) ≡ pieces_words empty ps
same_told [] empty text front line from is at = refl
same_told (p ∷ ps) empty text front line from is at =
    let back = joined bytes_of ps in
    let to : length (front ++ p.bytes) ≡ from + length p.bytes = omega (arith, at, length-append front p.bytes) in
    one_told (kind_of p.shape) empty text p.bytes line from (from + length p.bytes)
    (tokens_from (line + feeds_of p.shape) (from + length p.bytes) (map part_of ps)) (sliced text front p.bytes back from is at) ∙ ap
    (λ (z : List Word). piece_told empty (kind_of p.shape) p.bytes ++ z)
    (same_told ps (then_empty empty (kind_of p.shape)) text (front ++ p.bytes) (line + feeds_of p.shape) (from + length p.bytes)
    (behind text front p.bytes back is) to)
