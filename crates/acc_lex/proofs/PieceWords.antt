-- The words of a text's pieces are those of its lines.
use Rattle.std.proofs.Common.{◌≡◌, ℕ, Bool, true, false, List, [], ◌∷◌, ◌++◌, refl, sym, ap, ◌∙◌, append_assoc}
use Rattle.std.specs.Prelude.{map, unwrap_or}
use Rattle.acc_grammar.specs.Readers.{AllIn, joined}
use Rattle.acc_grammar.specs.Runs.{IsRow}
use Rattle.acc_lex.specs.declared.words.Sign.TheVariants as sign
use Rattle.acc_lex.specs.declared.words.Word.{Word}
use Rattle.acc_lex.specs.declared.words.Word.TheVariants as word
use Rattle.acc_lex.specs.declared.parts.Shape.TheVariants as shape
use Rattle.acc_lex.specs.Spellings.{Token, Letters, Digits, Mark, Item, Statement, Line, Comment, Statements, token_bytes, blanks}
use Rattle.acc_lex.specs.Spellings.{item_bytes, IsToken, IsItem, ItemParted, IsStatement, IsLine, AreLines}
use Rattle.acc_lex.specs.LineWords.{token_word, item_word, items_words, statement_words, line_words, lines_words}
use Rattle.acc_lex.specs.LineTokens.{shape_of}
use Rattle.acc_lex.proofs.Pieces.{Piece, piece, gap_piece, item_pieces, statement_pieces, next_statement_pieces, line_pieces}
use Rattle.acc_lex.proofs.Pieces.{next_line_pieces, lines_pieces, mark_found}
use Rattle.acc_lex.proofs.PieceTokens.{pieces_words}

gap_none : (w : List ℕ) (empty : Bool) (ps : List Piece) → pieces_words empty (gap_piece w ++ ps) ≡ pieces_words empty ps
gap_none [] empty ps = refl
gap_none (b ∷ bs) empty ps = refl

-- a gap before pieces, and pieces behind them
gap_first : (w : List ℕ) (empty : Bool) (ps rest : List Piece) →
    pieces_words empty ((gap_piece w ++ ps) ++ rest) ≡ pieces_words empty (ps ++ rest)
gap_first w empty ps rest = ap (pieces_words empty) (append_assoc (gap_piece w) ps rest) ∙ gap_none w empty (ps ++ rest)

token_told : (t : Token) → IsToken t → (empty : Bool) (ps : List Piece) →
    pieces_words empty (piece (shape_of t) (token_bytes t) ++ ps) ≡ token_word t ∷ pieces_words false ps
token_told (Letters w) h true ps = refl
token_told (Letters w) h false ps = refl
token_told (Digits w) h true ps = refl
token_told (Digits w) h false ps = refl
token_told (Mark s) h true ps = λ i. word.Sign (unwrap_or (mark_found s h i) sign.End) ∷ pieces_words false ps
token_told (Mark s) h false ps = λ i. word.Sign (unwrap_or (mark_found s h i) sign.End) ∷ pieces_words false ps

item_told : (i : Item) → IsToken i.token → (empty : Bool) (ps rest : List Piece) →
    pieces_words empty ((item_pieces i ++ ps) ++ rest) ≡ item_word i ∷ pieces_words false (ps ++ rest)
item_told i h empty ps rest = token_told i.token h empty ((gap_piece (blanks i.spaces) ++ ps) ++ rest) ∙ ap
    (λ (z : List Word). item_word i ∷ z) (gap_first (blanks i.spaces) false ps rest)

items_told : (is : List Item) → IsRow item_bytes IsItem ItemParted is → (rest : List Piece) →
    pieces_words false (joined item_pieces is ++ rest) ≡ map item_word is ++ pieces_words false rest
items_told [] h rest = refl
items_told (i ∷ is) h rest = item_told i h.0 false (joined item_pieces is) rest ∙ ap (λ (z : List Word). item_word i ∷ z)
    (items_told is h.2 rest)

-- pieces that begin with the end of a statement, and their words behind that
abbrev EndsThen : List Piece → List Word → Type 0
EndsThen rest ws = (pieces_words true rest ≡ ws) × (pieces_words false rest ≡ word.Sign sign.End ∷ ws)

row_told : (is : List Item) → IsRow item_bytes IsItem ItemParted is → (rest : List Piece) (ws : List Word) → EndsThen rest ws →
    pieces_words true (joined item_pieces is ++ rest) ≡ items_words is ++ ws
row_told [] h rest ws e = e.0
row_told (i ∷ is) h rest ws e =
    item_told i h.0 true (joined item_pieces is) rest ∙ ap (λ (z : List Word). item_word i ∷ z)
    (items_told is h.2 rest ∙ ap (λ (z : List Word). map item_word is ++ z) e.1 ∙ sym
    (append_assoc (map item_word is) (word.Sign sign.End ∷ []) ws))

statement_told : (s : Statement) → IsStatement s → (rest : List Piece) (ws : List Word) → EndsThen rest ws →
    pieces_words true (statement_pieces s ++ rest) ≡ statement_words s ++ ws
statement_told s h rest ws e = gap_first (blanks s.spaces) true (joined item_pieces s.items) rest ∙ row_told s.items h rest ws e

others_told : (others : List Statement) → AllIn IsStatement others → (rest : List Piece) (ws : List Word) → EndsThen rest ws →
    EndsThen (joined next_statement_pieces others ++ rest) (joined statement_words others ++ ws)
others_told [] h rest ws e = e
others_told (s ∷ others) h rest ws e =
    let more = joined next_statement_pieces others ++ rest in
    let is : pieces_words true ((statement_pieces s ++ joined next_statement_pieces others) ++ rest) ≡
    (statement_words s ++ joined statement_words others) ++ ws =
    ap (pieces_words true) (append_assoc (statement_pieces s) (joined next_statement_pieces others) rest) ∙ statement_told s h.0 more
    (joined statement_words others ++ ws) (others_told others h.1 rest ws e) ∙ sym
    (append_assoc (statement_words s) (joined statement_words others) ws) in
    (is, ap (λ (z : List Word). word.Sign sign.End ∷ z) is)

line_told : (l : Line) → IsLine l → (rest : List Piece) (ws : List Word) → EndsThen rest ws →
    pieces_words true (line_pieces l ++ rest) ≡ line_words l ++ ws
line_told (Comment n bytes) h rest ws e = gap_first (blanks n) true (gap_piece (35 ∷ bytes)) rest ∙ e.0
line_told (Statements s others) h rest ws e =
    ap (pieces_words true) (append_assoc (statement_pieces s) (joined next_statement_pieces others) rest) ∙ statement_told s h.0
    (joined next_statement_pieces others ++ rest) (joined statement_words others ++ ws) (others_told others h.1 rest ws e) ∙ sym
    (append_assoc (statement_words s) (joined statement_words others) ws)

lines_behind : (ls : List Line) → AllIn IsLine ls → EndsThen (joined next_line_pieces ls ++ piece shape.Last []) (joined line_words ls)
lines_behind [] h = (refl, refl)
lines_behind (l ∷ ls) h =
    let more = joined next_line_pieces ls ++ piece shape.Last [] in
    let is : pieces_words true ((line_pieces l ++ joined next_line_pieces ls) ++ piece shape.Last []) ≡ line_words l ++ joined line_words
    ls = ap (pieces_words true) (append_assoc (line_pieces l) (joined next_line_pieces ls) (piece shape.Last [])) ∙ line_told l h.0 more
    (joined line_words ls) (lines_behind ls h.1) in
    (is, ap (λ (z : List Word). word.Sign sign.End ∷ z) is)

pub lines_told : (ls : Line × List Line) → AreLines ls → pieces_words true (lines_pieces ls) ≡ lines_words ls
lines_told ls h =
    ap (pieces_words true) (append_assoc (line_pieces ls.0) (joined next_line_pieces ls.1) (piece shape.Last [])) ∙ line_told ls.0 h.0
    (joined next_line_pieces ls.1 ++ piece shape.Last []) (joined line_words ls.1) (lines_behind ls.1 h.1)
