-- The tokens of a text's pieces stand in order, with gaps between them.
use Rattle.std.proofs.Common.{◌≡◌, ℕ, zero, suc, ◌+◌, ◌≤◌, List, [], ◌∷◌, ◌++◌, length, Option, Some, None, refl, sym, ap, subst, ◌∙◌}
use Rattle.std.proofs.Common.{arith, append_assoc, length-append}
use Rattle.std.specs.Prelude.{map, slice_range}
use Rattle.std.proofs.lemmas.List.{append-nil}
use Rattle.acc_grammar.specs.Readers.{AllIn, joined}
use Rattle.acc_lex.specs.declared.parts.Shape.TheVariants as shape
use Rattle.acc_lex.specs.declared.tokens.Kind.{Kind}
use Rattle.acc_lex.specs.declared.tokens.Token.{Token}
use Rattle.acc_lex.specs.Spellings.{Token as Spelled, Letters, Digits, Mark, Item, Statement, Line, Comment, Statements, token_bytes}
use Rattle.acc_lex.specs.Spellings.{blanks, IsLine, AreLines}
use Rattle.acc_lex.specs.LineTokens.{shape_of, kind_of, feeds_of, token_of, tokens_from}
use Rattle.acc_lex.specs.Slices.{IsGap, InOrder}
use Rattle.acc_lex.proofs.Pieces.{Piece, bytes_of, part_of, piece, gap_piece, item_pieces, statement_pieces, next_statement_pieces}
use Rattle.acc_lex.proofs.Pieces.{line_pieces, next_line_pieces, lines_pieces}
use Rattle.acc_lex.proofs.PieceTokens.{sliced, behind}

-- ---- gaps among pieces

-- the one of two facts, by whether there is a token
abbrev AtToken : Option Kind → Type 0 → Type 0 → Type 0
AtToken (Some k) token gap = token
AtToken None token gap = gap

-- Pieces behind bytes of a gap: with those up to the next token, the gap is whole; none stands at the end.
abbrev GapsFit : List ℕ → List Piece → Type 0
GapsFit w [] = w ≡ []
GapsFit w (p ∷ ps) = AtToken (kind_of p.shape) (IsGap w × GapsFit [] ps) (GapsFit (w ++ p.bytes) ps)

mapped : (k : Option Kind) (A B C D : Type 0) → (A → C) → (B → D) → AtToken k A B → AtToken k C D
mapped (Some k) A B C D f g h = f h
mapped None A B C D f g h = g h

one_follows : (k : Option Kind) (text w : List ℕ) (at line from to : ℕ) (ts : List Token) → slice_range text at from ≡ w → at ≤ from →
    from ≤ to → AtToken k (IsGap w × InOrder text to ts) (InOrder text at ts) → InOrder text at (token_of k line from to ++ ts)
one_follows (Some k) text w at line from to ts is a b h = (a, subst IsGap (sym is) h.0, b, h.1)
one_follows None text w at line from to ts is a b h = h

pub in_order : (ps : List Piece) (text front w : List ℕ) (at line from : ℕ) → text ≡ front ++ (w ++ joined bytes_of ps) →
    length front ≡ at → at + length w ≡ from → GapsFit w ps → InOrder text at (tokens_from line from (map part_of ps))
in_order [] text front w at line from is begins ends h =
    omega (arith, ap length is, ap length h, begins, length-append front (w ++ []), length-append w [])
in_order (p ∷ ps) text front w at line from is begins ends h =
    let back = joined bytes_of ps in
    let to = from + length p.bytes in
    let next = line + feeds_of p.shape in
    let ts = tokens_from next to (map part_of ps) in
    let gap : slice_range text at from ≡ w = ap (slice_range text at) (sym ends) ∙ sliced text front w (p.bytes ++ back) at is begins in
    let past : text ≡ (front ++ w) ++ (p.bytes ++ back) = behind text front w (p.bytes ++ back) is in
    let along : length (front ++ w) ≡ from = omega (arith, begins, ends, length-append front w) in
    let long : length ((front ++ w) ++ p.bytes) ≡ to = omega (arith, along, length-append (front ++ w) p.bytes) in
    let more : text ≡ front ++ ((w ++ p.bytes) ++ back) = is ∙ ap (λ (z : List ℕ). front ++ z) (sym (append_assoc w p.bytes back)) in
    let wide : at + length (w ++ p.bytes) ≡ to = omega (arith, ends, length-append w p.bytes) in
    one_follows (kind_of p.shape) text w at line from to ts gap (omega (arith, ends)) (omega arith)
    (mapped (kind_of p.shape) (IsGap w × GapsFit [] ps) (GapsFit (w ++ p.bytes) ps) (IsGap w × InOrder text to ts) (InOrder text at ts)
    (λ k. (
      k.0,
      in_order ps text ((front ++ w) ++ p.bytes) [] to next to (behind text (front ++ w) p.bytes back past) long (omega arith)
          k.1,
    )) (λ k. in_order ps text front (w ++ p.bytes) at next to more begins wide k) h)

-- ---- the gaps of lines

-- pieces that may stand behind any gap
abbrev Fits : List Piece → Type 0
Fits ps = (w : List ℕ) → IsGap w → GapsFit w ps

blanks_fit : (n : ℕ) (ps : List Piece) → Fits ps → GapsFit [] (gap_piece (blanks n) ++ ps)
blanks_fit zero ps h = h [] (0, [], refl, tt)
blanks_fit (suc n) ps h = h (blanks (suc n)) (suc n, [], sym (append-nil (blanks (suc n))), tt)

spaced : (n : ℕ) (ps rest : List Piece) → Fits (ps ++ rest) → GapsFit [] ((gap_piece (blanks n) ++ ps) ++ rest)
spaced n ps rest h = subst (GapsFit []) (sym (append_assoc (gap_piece (blanks n)) ps rest)) (blanks_fit n (ps ++ rest) h)

token_fits : (t : Spelled) (ps : List Piece) → GapsFit [] ps → Fits (piece (shape_of t) (token_bytes t) ++ ps)
token_fits (Letters w) ps h = λ v g. (g, h)
token_fits (Digits w) ps h = λ v g. (g, h)
token_fits (Mark s) ps h = λ v g. (g, h)

items_fit : (is : List Item) (rest : List Piece) → Fits rest → Fits (joined item_pieces is ++ rest)
items_fit [] rest h = h
items_fit (i ∷ is) rest h = token_fits i.token ((gap_piece (blanks i.spaces) ++ joined item_pieces is) ++ rest)
    (spaced i.spaces (joined item_pieces is) rest (items_fit is rest h))

statement_fits : (s : Statement) (rest : List Piece) → Fits rest → GapsFit [] (statement_pieces s ++ rest)
statement_fits s rest h = spaced s.spaces (joined item_pieces s.items) rest (items_fit s.items rest h)

others_fit : (others : List Statement) (rest : List Piece) → Fits rest → Fits (joined next_statement_pieces others ++ rest)
others_fit [] rest h = h
others_fit (s ∷ others) rest h = λ w g. (
  g,
  subst (GapsFit [])
      (sym (append_assoc (statement_pieces s) (joined next_statement_pieces others) rest))
      (statement_fits s (joined next_statement_pieces others ++ rest) (others_fit others rest h)),
)

line_fits : (l : Line) (rest : List Piece) → IsLine l → Fits rest → GapsFit [] (line_pieces l ++ rest)
line_fits (Comment zero bytes) rest p h = h (35 ∷ bytes) (0, 35 ∷ bytes, refl, (refl, p))
line_fits (Comment (suc n) bytes) rest p h = h (blanks (suc n) ++ (35 ∷ bytes)) (suc n, 35 ∷ bytes, refl, (refl, p))
line_fits (Statements s others) rest p h = subst (GapsFit [])
    (sym (append_assoc (statement_pieces s) (joined next_statement_pieces others) rest))
    (statement_fits s (joined next_statement_pieces others ++ rest) (others_fit others rest h))

lines_behind : (ls : List Line) → AllIn IsLine ls → Fits (joined next_line_pieces ls ++ piece shape.Last [])
lines_behind [] p = λ w g. (g, refl)
lines_behind (l ∷ ls) p = λ w g. (
  g,
  subst (GapsFit [])
      (sym (append_assoc (line_pieces l) (joined next_line_pieces ls) (piece shape.Last [])))
      (line_fits l (joined next_line_pieces ls ++ piece shape.Last []) p.0 (lines_behind ls p.1)),
)

pub lines_fit : (ls : Line × List Line) → AreLines ls → GapsFit [] (lines_pieces ls)
lines_fit ls p = subst (GapsFit []) (sym (append_assoc (line_pieces ls.0) (joined next_line_pieces ls.1) (piece shape.Last [])))
    (line_fits ls.0 (joined next_line_pieces ls.1 ++ piece shape.Last []) p.0 (lines_behind ls.1 p.1))
