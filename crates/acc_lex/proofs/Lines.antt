-- The readers of lines, and of a whole text, are exact.
use Rattle.std.proofs.Common.{◌≡◌, ℕ, ◌<◌, true, false, List, [], ◌∷◌, ◌++◌, length, refl, sym, ap, subst, ◌∙◌, append_assoc, arith, inl}
use Rattle.std.proofs.Common.{inr}
use Rattle.std.proofs.lemmas.List.{append-nil}
use Rattle.acc_grammar.specs.Readers.{AllIn, joined}
use Rattle.acc_grammar.specs.Runs.{EachPasses, next_is}
use Rattle.acc_grammar.proofs.Exact.{bind_assoc, Exact, All, Each, seq_exact, Made, made_exact, trees_exact, same_exact, Or, either_exact}
use Rattle.acc_grammar.proofs.Many.{Shrinks, item_shrinks, Runs, many_exact}
use Rattle.acc_grammar.proofs.RunReaders.{next_head, Passes, one_exact, front_exact, absent_exact}
use Rattle.acc_lex.specs.ByteKinds.{is_byte, is_space, is_plain}
use Rattle.acc_lex.specs.Spellings.{Item, Statement, Line, Comment, Statements, blanks, item_bytes, next_statement, line_bytes, next_line}
use Rattle.acc_lex.specs.Spellings.{lines_bytes, IsStatement, IsLine, AreLines}
use Rattle.acc_lex.specs.Readings.{is_inside, next_statement_at, next_statements_at, Body, Remark, Rest, remark_at, rest_at, body_at}
use Rattle.acc_lex.specs.Readings.{line_of, line_at, next_line_at, next_lines_at, is_any, lines_at}
use Rattle.acc_lex.proofs.ByteFacts.{Byte, is_the}
use Rattle.acc_lex.proofs.TokenReaders.{starts_token}
use Rattle.acc_lex.proofs.Statements.{spaces_exact, AreItems, items_exact, none_behind, StatementGoes, next_statement_exact}

-- ---- further statements

next_long : (s : Statement) → IsStatement s → 0 < length (next_statement s)
next_long s h = omega arith

abbrev NextGoes : List Statement → List ℕ → Type 0
NextGoes = Runs next_statement (next_is (is_byte 59)) StatementGoes

next_statements_exact : Exact Byte (joined next_statement) (AllIn IsStatement) NextGoes next_statements_at
unfolding next_statements_at
next_statements_exact = many_exact next_statement_exact (next_is (is_byte 59)) (next_head (is_byte 59)) refl (λ s rest p g. refl) next_long

pub next_shorter : Shrinks next_statement_at
next_shorter = item_shrinks next_statement_exact (next_is (is_byte 59)) (next_head (is_byte 59)) refl (λ s rest p g. refl) next_long

-- neither a further token nor a further statement comes
abbrev Ends : List ℕ → Type 0
Ends rest = (next_is is_inside rest ≡ false) × (next_is (is_byte 59) rest ≡ false)

ends_behind : (others : List Statement) (rest : List ℕ) → next_is is_inside (joined next_statement others ++ rest) ≡ false →
    NextGoes others rest → Ends rest
ends_behind [] rest s g = (s, g)
ends_behind (o ∷ others) rest s g = ends_behind others rest g.0 g.1

-- the end of a line, or a ;, comes
comes_next : (others : List Statement) (rest : List ℕ) → Ends rest → next_is is_inside (joined next_statement others ++ rest) ≡ false
comes_next [] rest g = g.0
comes_next (o ∷ others) rest g = refl

goes_next : (others : List Statement) (rest : List ℕ) → Ends rest → NextGoes others rest
goes_next [] rest g = g.1
goes_next (o ∷ others) rest g = (comes_next others rest g, goes_next others rest g)

-- ---- what a line has behind its spaces

abbrev body_bytes : Body → List ℕ
body_bytes (Remark bytes) = 35 ∷ bytes
body_bytes (Rest is others) = joined item_bytes is ++ joined next_statement others

abbrev IsBody : Body → Type 0
IsBody (Remark bytes) = EachPasses is_plain bytes
IsBody (Rest is others) = AreItems is × AllIn IsStatement others

abbrev BodyGoes : Body → List ℕ → Type 0
BodyGoes (Remark bytes) rest = next_is is_plain rest ≡ false
BodyGoes (Rest is others) rest = Ends rest

body_heads : (b : Body) (w : ℕ) (more after : List ℕ) → BodyGoes b (w ∷ more) → BodyGoes b (w ∷ after)
body_heads (Remark bytes) w more after g = g
body_heads (Rest is others) w more after g = g

abbrev IsRemark : Body → Type 0
IsRemark = Made (λ (p : ℕ × List ℕ). Remark p.1) (Each (Passes (is_byte 35)) (EachPasses is_plain))

remark_exact : Exact Byte body_bytes IsRemark BodyGoes remark_at
unfolding remark_at
remark_exact = same_exact (λ bs. simp bind_assoc)
    (made_exact (seq_exact (one_exact Byte (is_byte 35) 35 refl tt) (front_exact Byte is_plain)) (λ p. Remark p.1) body_bytes BodyGoes
    (λ a p. λ i. sym (is_the 35 a.0 p.0) i ∷ a.1) (λ a rest g. g.1) (λ a rest p g. (tt, g)) body_heads)

abbrev IsRest : Body → Type 0
IsRest = Made (λ (p : List Item × List Statement). Rest p.0 p.1) (Each AreItems (AllIn IsStatement))

rest_exact : Exact Byte body_bytes IsRest BodyGoes rest_at
unfolding rest_at
rest_exact = same_exact (λ bs. simp bind_assoc)
    (made_exact (seq_exact items_exact next_statements_exact) (λ p. Rest p.0 p.1) body_bytes BodyGoes (λ a p. refl)
    (λ a rest g. ends_behind a.1 rest g.0 g.1) (λ a rest p g. (comes_next a.1 rest g, goes_next a.1 rest g)) body_heads)

-- a line without a comment doesn't go on with #, nor with a space
behind_rest : (c : ℕ) → starts_token c ≡ false → is_byte c 10 ≡ false → is_byte c 59 ≡ false →
    (is : List Item) (others : List Statement) (rest : List ℕ) → AreItems is → Ends rest →
    next_is (is_byte c) (body_bytes (Rest is others) ++ rest) ≡ false
behind_rest c n a b is others rest h g =
    ap (next_is (is_byte c)) (append_assoc (joined item_bytes is) (joined next_statement others) rest) ∙ none_behind c n a b is
    (joined next_statement others ++ rest) h (comes_next others rest g)

pub body_exact : Exact Byte body_bytes IsBody BodyGoes body_at
unfolding body_at
body_exact =
    trees_exact (either_exact remark_exact rest_exact (next_is (is_byte 35)) (next_head (is_byte 35))
    (λ b rest m g. subst (λ (z : Body). next_is (is_byte 35) (body_bytes z ++ rest) ≡ true) m.2 refl) no_remark) from to
  where
    no_remark : (b : Body) (rest : List ℕ) → IsRest b → BodyGoes b rest → next_is (is_byte 35) (body_bytes b ++ rest) ≡ false
    no_remark (Remark bytes) rest m g = absurd (let wrong = m.2 in cc)
    no_remark (Rest is others) rest m g = behind_rest 35 refl refl refl is others rest (subst IsBody m.2 m.1).0 g

    from : (b : Body) → Or IsRemark IsRest b → IsBody b
    from b (inl m) = subst IsBody m.2 m.1.1
    from b (inr m) = subst IsBody m.2 m.1

    to : (b : Body) → IsBody b → Or IsRemark IsRest b
    to (Remark bytes) h = inl ((35, bytes), (refl, h), refl)
    to (Rest is others) h = inr ((is, others), h, refl)

-- ---- lines

-- what may follow a line: a comment ends where its bytes do
abbrev LineGoes : Line → List ℕ → Type 0
LineGoes (Comment n bytes) rest = next_is is_plain rest ≡ false
LineGoes (Statements s others) rest = Ends rest

line_heads : (l : Line) (w : ℕ) (more after : List ℕ) → LineGoes l (w ∷ more) → LineGoes l (w ∷ after)
line_heads (Comment n bytes) w more after g = g
line_heads (Statements s others) w more after g = g

pub line_exact : Exact Byte line_bytes IsLine LineGoes line_at
unfolding line_at
line_exact =
    trees_exact (same_exact (λ bs. simp bind_assoc)
    (made_exact (seq_exact spaces_exact body_exact) line line_bytes LineGoes (λ a p. spelled a.0 a.1)
    (λ a rest g. from a.0 a.1 rest g.1) (λ a rest p g. (no_space a.1 rest p.1 (to a.0 a.1 rest g), to a.0 a.1 rest g)) line_heads))
    (λ l m. subst IsLine m.2 (fits m.0.0 m.0.1 m.1.1)) trees
  where
    line : ℕ × Body → Line
    line p = line_of p.0 p.1

    spelled : (n : ℕ) (b : Body) → line_bytes (line_of n b) ≡ blanks n ++ body_bytes b
    spelled n (Remark bytes) = refl
    spelled n (Rest is others) = append_assoc (blanks n) (joined item_bytes is) (joined next_statement others)

    from : (n : ℕ) (b : Body) (rest : List ℕ) → BodyGoes b rest → LineGoes (line_of n b) rest
    from n (Remark bytes) rest g = g
    from n (Rest is others) rest g = g

    to : (n : ℕ) (b : Body) (rest : List ℕ) → LineGoes (line_of n b) rest → BodyGoes b rest
    to n (Remark bytes) rest g = g
    to n (Rest is others) rest g = g

    no_space : (b : Body) (rest : List ℕ) → IsBody b → BodyGoes b rest → next_is is_space (body_bytes b ++ rest) ≡ false
    no_space (Remark bytes) rest p g = refl
    no_space (Rest is others) rest p g = behind_rest 32 refl refl refl is others rest p.0 g

    fits : (n : ℕ) (b : Body) → IsBody b → IsLine (line_of n b)
    fits n (Remark bytes) p = p
    fits n (Rest is others) p = p

    trees : (l : Line) → IsLine l → Made line (Each All IsBody) l
    trees (Comment n bytes) h = ((n, Remark bytes), (tt, h), refl)
    trees (Statements s others) h = ((s.spaces, Rest s.items others), (tt, h), refl)

pub next_line_exact : Exact Byte next_line IsLine LineGoes next_line_at
unfolding next_line_at
next_line_exact =
    trees_exact (same_exact (λ bs. simp bind_assoc)
    (made_exact (seq_exact (one_exact Byte (is_byte 10) 10 refl tt) line_exact) behind next_line LineGoes
    (λ a p. λ i. sym (is_the 10 a.0 p.0) i ∷ line_bytes a.1) (λ a rest g. g.1) (λ a rest p g. (tt, g)) line_heads))
    (λ l m. subst IsLine m.2 m.1.1) (λ l h. ((10, l), (refl, h), refl))
  where
    behind : ℕ × Line → Line
    behind p = p.1

line_long : (l : Line) → IsLine l → 0 < length (next_line l)
line_long l h = omega arith

pub line_shorter : Shrinks next_line_at
line_shorter = item_shrinks next_line_exact (next_is (is_byte 10)) (next_head (is_byte 10)) refl (λ l rest p g. refl) line_long

abbrev LinesGoes : List Line → List ℕ → Type 0
LinesGoes = Runs next_line (next_is (is_byte 10)) LineGoes

next_lines_exact : Exact Byte (joined next_line) (AllIn IsLine) LinesGoes next_lines_at
unfolding next_lines_at
next_lines_exact = many_exact next_line_exact (next_is (is_byte 10)) (next_head (is_byte 10)) refl (λ l rest p g. refl) line_long

-- ---- a text

abbrev pub TextGoes : Line × List Line → List ℕ → Type 0
TextGoes ls rest = next_is is_any rest ≡ false

-- a line may end where the text does, and before a line feed
line_ends : (l : Line) (others : List Line) → LineGoes l (joined next_line others)
line_ends (Comment n bytes) [] = refl
line_ends (Comment n bytes) (o ∷ others) = refl
line_ends (Statements s ss) [] = (refl, refl)
line_ends (Statements s ss) (o ∷ others) = (refl, refl)

lines_end : (others : List Line) → LinesGoes others []
lines_end [] = refl
lines_end (o ∷ others) = (subst (LineGoes o) (sym (append-nil (joined next_line others))) (line_ends o others), lines_end others)

pub nothing_left : (rest : List ℕ) → next_is is_any rest ≡ false → rest ≡ []
nothing_left [] h = refl
nothing_left (b ∷ rest) h = absurd cc

abbrev Parts : Type 0
Parts = Line × (List Line × Unit {0})

pub lines_exact : Exact Byte lines_bytes AreLines TextGoes lines_at
unfolding lines_at
lines_exact =
    trees_exact (same_exact (λ bs. simp bind_assoc)
    (made_exact (seq_exact line_exact (seq_exact next_lines_exact (absent_exact Byte is_any))) lines lines_bytes TextGoes
    (λ a p. ap (λ (z : List ℕ). line_bytes a.0 ++ z) (sym (append-nil (joined next_line a.1.0)))) (λ a rest g. g.1.1)
    (λ a rest p g. to a.0 a.1.0 rest (nothing_left rest g)) (λ ls w more after g. g))) (λ ls m. subst AreLines m.2 (m.1.0, m.1.1.0))
    (λ ls h. ((ls.0, (ls.1, tt)), (h.0, (h.1, tt)), refl))
  where
    lines : Parts → Line × List Line
    lines p = (p.0, p.1.0)

    to : (l : Line) (others : List Line) (rest : List ℕ) → rest ≡ [] → LineGoes l ((joined next_line others ++ []) ++ rest) ×
        (LinesGoes others rest × (next_is is_any rest ≡ false))
    to l others rest is = rw is (
      subst (LineGoes l)
          (sym (append-nil (joined next_line others ++ []) ∙ append-nil (joined next_line others))) (line_ends l others),
      (lines_end others, refl),
    )
