-- The parts of a text with their bytes: a text is its pieces, one behind the other.
use Rattle.std.proofs.Common.{◌≡◌, ◌≢◌, ℕ, ◌+◌, Bool, true, List, [], ◌∷◌, ◌++◌, length, Option, Some, None, refl, sym, ap, ◌∙◌, arith}
use Rattle.std.proofs.Common.{length-append, inl, inr}
use Rattle.std.specs.Prelude.{◌==◌, not, map, count_by}
use Rattle.std.proofs.lemmas.List.{append-nil, length-replicate, map-append}
use Rattle.std.proofs.lemmas.List.Sums.{sum_by-append}
use Rattle.std.proofs.lemmas.Bool.{eqb-true}
use Rattle.acc_grammar.specs.Readers.{AllIn, joined}
use Rattle.acc_grammar.specs.Runs.{IsRow}
use Rattle.acc_grammar.proofs.Exact.{AllIn-append}
use Rattle.acc_grammar.proofs.RunReaders.{flag}
use Rattle.acc_lex.specs.declared.words.Sign.{Sign}
use Rattle.acc_lex.specs.declared.words.Sign.TheVariants as sign
use Rattle.acc_lex.specs.declared.parts.Part.{Part}
use Rattle.acc_lex.specs.declared.parts.Shape.{Shape}
use Rattle.acc_lex.specs.declared.parts.Shape.TheVariants as shape
use Rattle.acc_lex.specs.declared.tokens.Kind.{Kind}
use Rattle.acc_lex.specs.ByteKinds.{is_plain}
use Rattle.acc_lex.specs.Keywords.{sign_in}
use Rattle.acc_lex.specs.Spellings.{Token, Letters, Digits, Mark, Item, Statement, Line, Comment, Statements, mark_bytes, token_bytes}
use Rattle.acc_lex.specs.Spellings.{blanks, item_bytes, statement_bytes, next_statement, line_bytes, next_line, lines_bytes, IsToken}
use Rattle.acc_lex.specs.Spellings.{IsItem, ItemParted, IsStatement, IsLine, AreLines}
use Rattle.acc_lex.specs.LineTokens.{part, gap, shape_of, item_parts, statement_parts, next_statement_parts, line_parts, next_line_parts}
use Rattle.acc_lex.specs.LineTokens.{lines_parts, parts_len, kind_of, feeds_of}
use Rattle.acc_lex.specs.Slices.{mark_signs, IsOf}
use Rattle.acc_lex.proofs.LineFeeds.{Unfed, unfed_blanks, unfed_token, unfed_by, joined_append}

-- ---- pieces

pub record Piece : Type 0 where
  pub shape : Shape
  pub bytes : List ℕ

abbrev pub bytes_of : Piece → List ℕ
bytes_of p = p.bytes

abbrev pub piece : Shape → List ℕ → List Piece
piece s w = record { shape = s; bytes = w } ∷ []

abbrev pub gap_piece : List ℕ → List Piece
gap_piece [] = []
gap_piece (b ∷ bs) = piece shape.Gap (b ∷ bs)

abbrev pub item_pieces : Item → List Piece
item_pieces i = piece (shape_of i.token) (token_bytes i.token) ++ gap_piece (blanks i.spaces)

abbrev pub statement_pieces : Statement → List Piece
statement_pieces s = gap_piece (blanks s.spaces) ++ joined item_pieces s.items

abbrev pub next_statement_pieces : Statement → List Piece
next_statement_pieces s = piece shape.Stop (59 ∷ []) ++ statement_pieces s

abbrev pub line_pieces : Line → List Piece
line_pieces (Comment n bytes) = gap_piece (blanks n) ++ gap_piece (35 ∷ bytes)
line_pieces (Statements s others) = statement_pieces s ++ joined next_statement_pieces others

abbrev pub next_line_pieces : Line → List Piece
next_line_pieces l = piece shape.Feed (10 ∷ []) ++ line_pieces l

abbrev pub lines_pieces : Line × List Line → List Piece
lines_pieces ls = line_pieces ls.0 ++ joined next_line_pieces ls.1 ++ piece shape.Last []

-- ---- their bytes are the text

gap_bytes : (w : List ℕ) → joined bytes_of (gap_piece w) ≡ w
gap_bytes [] = refl
gap_bytes (b ∷ bs) = append-nil (b ∷ bs)

both_bytes : (a b : List Piece) (v w : List ℕ) → joined bytes_of a ≡ v → joined bytes_of b ≡ w → joined bytes_of (a ++ b) ≡ v ++ w
both_bytes a b v w h k = joined_append bytes_of a b ∙ (λ i. h i ++ k i)

each_bytes : {T : Type 0} (f : T → List Piece) (g : T → List ℕ) → ((t : T) → joined bytes_of (f t) ≡ g t) → (ts : List T) →
    joined bytes_of (joined f ts) ≡ joined g ts
each_bytes f g h [] = refl
each_bytes f g h (t ∷ ts) = both_bytes (f t) (joined f ts) (g t) (joined g ts) (h t) (each_bytes f g h ts)

item_bytes_are : (i : Item) → joined bytes_of (item_pieces i) ≡ item_bytes i
item_bytes_are i = ap (λ (z : List ℕ). token_bytes i.token ++ z) (gap_bytes (blanks i.spaces))

statement_bytes_are : (s : Statement) → joined bytes_of (statement_pieces s) ≡ statement_bytes s
statement_bytes_are s = both_bytes (gap_piece (blanks s.spaces)) (joined item_pieces s.items) (blanks s.spaces) (joined item_bytes s.items)
    (gap_bytes (blanks s.spaces)) (each_bytes item_pieces item_bytes item_bytes_are s.items)

next_bytes_are : (s : Statement) → joined bytes_of (next_statement_pieces s) ≡ next_statement s
next_bytes_are s = ap (λ (z : List ℕ). 59 ∷ z) (statement_bytes_are s)

line_bytes_are : (l : Line) → joined bytes_of (line_pieces l) ≡ line_bytes l
line_bytes_are (Comment n bytes) = both_bytes (gap_piece (blanks n)) (gap_piece (35 ∷ bytes)) (blanks n) (35 ∷ bytes) (gap_bytes (blanks n))
    (gap_bytes (35 ∷ bytes))
line_bytes_are (Statements s others) = both_bytes (statement_pieces s) (joined next_statement_pieces others) (statement_bytes s)
    (joined next_statement others) (statement_bytes_are s) (each_bytes next_statement_pieces next_statement next_bytes_are others)

next_line_bytes_are : (l : Line) → joined bytes_of (next_line_pieces l) ≡ next_line l
next_line_bytes_are l = ap (λ (z : List ℕ). 10 ∷ z) (line_bytes_are l)

pub lines_bytes_are : (ls : Line × List Line) → joined bytes_of (lines_pieces ls) ≡ lines_bytes ls
lines_bytes_are ls =
    both_bytes (line_pieces ls.0 ++ joined next_line_pieces ls.1) (piece shape.Last []) (lines_bytes ls) []
    (both_bytes (line_pieces ls.0) (joined next_line_pieces ls.1) (line_bytes ls.0) (joined next_line ls.1) (line_bytes_are ls.0)
    (each_bytes next_line_pieces next_line next_line_bytes_are ls.1)) refl ∙ append-nil (lines_bytes ls)

-- ---- their lengths are the parts

abbrev pub part_of : Piece → Part
part_of p = record { shape = p.shape; len = length p.bytes }

map_both : (a b : List Piece) (v w : List Part) → map part_of a ≡ v → map part_of b ≡ w → map part_of (a ++ b) ≡ v ++ w
map_both a b v w h k = map-append part_of a b ∙ (λ i. h i ++ k i)

each_parts : {T : Type 0} (f : T → List Piece) (g : T → List Part) → ((t : T) → map part_of (f t) ≡ g t) → (ts : List T) →
    map part_of (joined f ts) ≡ joined g ts
each_parts f g h [] = refl
each_parts f g h (t ∷ ts) = map_both (f t) (joined f ts) (g t) (joined g ts) (h t) (each_parts f g h ts)

gap_parts : (w : List ℕ) (n : ℕ) → length w ≡ n → map part_of (gap_piece w) ≡ gap n
gap_parts [] n h = ap gap h
gap_parts (b ∷ bs) n h = elim (flag (length (b ∷ bs) == 0)) [
  | inl e ↦ absurd (let wrong = eqb-true (length (b ∷ bs)) 0 e in omega (arith, wrong))
  | inr e ↦ rw (← h, e) refl
]

spaces_parts : (n : ℕ) → map part_of (gap_piece (blanks n)) ≡ gap n
spaces_parts n = gap_parts (blanks n) n (length-replicate n 32)

item_parts_are : (i : Item) → map part_of (item_pieces i) ≡ item_parts i
item_parts_are i = map_both (piece (shape_of i.token) (token_bytes i.token)) (gap_piece (blanks i.spaces))
    (part (shape_of i.token) (length (token_bytes i.token))) (gap i.spaces) refl (spaces_parts i.spaces)

statement_parts_are : (s : Statement) → map part_of (statement_pieces s) ≡ statement_parts s
statement_parts_are s = map_both (gap_piece (blanks s.spaces)) (joined item_pieces s.items) (gap s.spaces) (joined item_parts s.items)
    (spaces_parts s.spaces) (each_parts item_pieces item_parts item_parts_are s.items)

next_parts_are : (s : Statement) → map part_of (next_statement_pieces s) ≡ next_statement_parts s
next_parts_are s = ap (λ (z : List Part). part shape.Stop 1 ++ z) (statement_parts_are s)

line_parts_are : (l : Line) → map part_of (line_pieces l) ≡ line_parts l
line_parts_are (Comment n bytes) = map_both (gap_piece (blanks n)) (gap_piece (35 ∷ bytes)) (gap n) (gap (1 + length bytes))
    (spaces_parts n) (gap_parts (35 ∷ bytes) (1 + length bytes) (omega arith))
line_parts_are (Statements s others) = map_both (statement_pieces s) (joined next_statement_pieces others) (statement_parts s)
    (joined next_statement_parts others) (statement_parts_are s)
    (each_parts next_statement_pieces next_statement_parts next_parts_are others)

next_line_parts_are : (l : Line) → map part_of (next_line_pieces l) ≡ next_line_parts l
next_line_parts_are l = ap (λ (z : List Part). part shape.Feed 1 ++ z) (line_parts_are l)

pub lines_parts_are : (ls : Line × List Line) → map part_of (lines_pieces ls) ≡ lines_parts ls
lines_parts_are ls =
    map_both (line_pieces ls.0 ++ joined next_line_pieces ls.1) (piece shape.Last []) (line_parts ls.0 ++ joined next_line_parts ls.1)
    (part shape.Last 0) (map_both (line_pieces ls.0) (joined next_line_pieces ls.1) (line_parts ls.0) (joined next_line_parts ls.1)
    (line_parts_are ls.0) (each_parts next_line_pieces next_line_parts next_line_parts_are ls.1)) refl

parts_long : (ps : List Piece) → parts_len (map part_of ps) ≡ length (joined bytes_of ps)
parts_long [] = refl
parts_long (p ∷ ps) = omega (arith, parts_long ps, length-append p.bytes (joined bytes_of ps))

-- parts have the length of the text
pub parts_len_is : (ls : Line × List Line) → parts_len (lines_parts ls) ≡ length (lines_bytes ls)
parts_len_is ls = ap parts_len (sym (lines_parts_are ls)) ∙ parts_long (lines_pieces ls) ∙ ap length (lines_bytes_are ls)

-- ---- what the bytes of a piece are

abbrev pub is_feed : ℕ → Bool
is_feed b = b == 10

-- those of a token of its kind; a gap has none
abbrev pub OfKind : Option Kind → List ℕ → Type 0
OfKind (Some k) w = IsOf k w
OfKind None w = Unit {0}

-- they are of its kind, with the line feeds of its shape
abbrev pub IsPiece : Piece → Type 0
IsPiece p = OfKind (kind_of p.shape) p.bytes × (count_by is_feed p.bytes ≡ feeds_of p.shape)

pub count_both : (a b : List ℕ) → count_by is_feed (a ++ b) ≡ count_by is_feed a + count_by is_feed b
count_both a b = sum_by-append _ a b

no_feeds : (w : List ℕ) → Unfed w → count_by is_feed w ≡ 0
no_feeds [] h = refl
no_feeds (b ∷ bs) h = omega (arith, count_both (b ∷ []) bs, one b h.0, no_feeds bs h.1)
  where
    one : (b : ℕ) → not (b == 10) ≡ true → count_by is_feed (b ∷ []) ≡ 0
    one b h = elim (flag (b == 10)) [ inl k ↦ absurd (let wrong = sym (ap not k) ∙ h in cc) | inr k ↦ rw k refl ]

gap_is : (w : List ℕ) → Unfed w → AllIn IsPiece (gap_piece w)
gap_is [] h = tt
gap_is (b ∷ bs) h = ((tt, no_feeds (b ∷ bs) h), tt)

-- the sign of a mark is found
pub mark_found : (s : Sign) → mark_bytes s ≢ [] → sign_in mark_signs (mark_bytes s) ≡ Some s
mark_found sign.Open h = refl
mark_found sign.Close h = refl
mark_found sign.Comma h = refl
mark_found sign.Dot h = refl
mark_found sign.Colon h = refl
mark_found sign.Equal h = refl
mark_found sign.AtMost h = refl
mark_found sign.AtLeast h = refl
mark_found sign.Implies h = refl
mark_found sign.Plus h = refl
mark_found sign.Minus h = refl
mark_found sign.Times h = refl
mark_found _ h = absurd (h refl)

token_is : (t : Token) → IsToken t → AllIn IsPiece (piece (shape_of t) (token_bytes t))
token_is (Letters w) h = ((h, no_feeds w (unfed_token (Letters w) h)), tt)
token_is (Digits w) h = ((h, no_feeds w (unfed_token (Digits w) h)), tt)
token_is (Mark s) h = (((s, mark_found s h), no_feeds (mark_bytes s) (unfed_token (Mark s) h)), tt)

items_are : (is : List Item) → IsRow item_bytes IsItem ItemParted is → AllIn IsPiece (joined item_pieces is)
items_are [] h = tt
items_are (i ∷ is) h = AllIn-append IsPiece (item_pieces i) (joined item_pieces is)
    (AllIn-append IsPiece (piece (shape_of i.token) (token_bytes i.token)) (gap_piece (blanks i.spaces)) (token_is i.token h.0)
    (gap_is (blanks i.spaces) (unfed_blanks i.spaces))) (items_are is h.2)

statement_is : (s : Statement) → IsStatement s → AllIn IsPiece (statement_pieces s)
statement_is s h = AllIn-append IsPiece (gap_piece (blanks s.spaces)) (joined item_pieces s.items)
    (gap_is (blanks s.spaces) (unfed_blanks s.spaces)) (items_are s.items h)

each_is : {T : Type 0} (f : T → List Piece) (P : T → Type 0) → ((t : T) → P t → AllIn IsPiece (f t)) → (ts : List T) → AllIn P ts →
    AllIn IsPiece (joined f ts)
each_is f P h [] k = tt
each_is f P h (t ∷ ts) k = AllIn-append IsPiece (f t) (joined f ts) (h t k.0) (each_is f P h ts k.1)

next_is_piece : (s : Statement) → IsStatement s → AllIn IsPiece (next_statement_pieces s)
next_is_piece s h = ((inl refl, refl), statement_is s h)

line_is : (l : Line) → IsLine l → AllIn IsPiece (line_pieces l)
line_is (Comment n bytes) h = AllIn-append IsPiece (gap_piece (blanks n)) (gap_piece (35 ∷ bytes)) (gap_is (blanks n) (unfed_blanks n))
    (gap_is (35 ∷ bytes) (refl, unfed_by is_plain refl bytes h))
line_is (Statements s others) h = AllIn-append IsPiece (statement_pieces s) (joined next_statement_pieces others) (statement_is s h.0)
    (each_is next_statement_pieces IsStatement next_is_piece others h.1)

next_line_is : (l : Line) → IsLine l → AllIn IsPiece (next_line_pieces l)
next_line_is l h = ((inr (inl refl), refl), line_is l h)

pub lines_are : (ls : Line × List Line) → AreLines ls → AllIn IsPiece (lines_pieces ls)
lines_are ls h = AllIn-append IsPiece (line_pieces ls.0 ++ joined next_line_pieces ls.1) (piece shape.Last [])
    (AllIn-append IsPiece (line_pieces ls.0) (joined next_line_pieces ls.1) (line_is ls.0 h.0)
    (each_is next_line_pieces IsLine next_line_is ls.1 h.1)) ((inr (inr refl), refl), tt)
