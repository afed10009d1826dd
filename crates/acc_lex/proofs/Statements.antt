-- The readers of spaces and statements are exact.
use Rattle.std.proofs.Common.{◌≡◌, ℕ, zero, suc, ◌<◌, Bool, true, false, List, [], ◌∷◌, ◌++◌, length, refl, sym, ap, subst, ◌∙◌, arith, inl}
use Rattle.std.proofs.Common.{inr, length-append}
use Rattle.std.proofs.lemmas.List.{length-replicate}
use Rattle.std.specs.Prelude.{◌==◌}
use Rattle.acc_grammar.specs.Readers.{joined}
use Rattle.acc_grammar.specs.Runs.{EachPasses, IsRow, next_is}
use Rattle.acc_grammar.proofs.Exact.{bind_assoc, Exact, All, seq_exact, made_exact, trees_exact, same_exact}
use Rattle.acc_grammar.proofs.Many.{Shrinks, item_shrinks}
use Rattle.acc_grammar.proofs.RunReaders.{flag, next_head, Apart, one_exact, front_exact}
use Rattle.acc_grammar.proofs.Rows.{row_exact}
use Rattle.acc_lex.specs.ByteKinds.{is_byte, is_space, is_inner}
use Rattle.acc_lex.specs.Spellings.{Token, Item, Statement, token_bytes, blanks, item_bytes, statement_bytes, next_statement, Parted}
use Rattle.acc_lex.specs.Spellings.{IsItem, ItemParted, IsStatement}
use Rattle.acc_lex.specs.Readings.{spaces_at, item_at, is_inside, items_at, statement_at, next_statement_at}
use Rattle.acc_lex.proofs.ByteFacts.{Byte, is_the, byte_apart}
use Rattle.acc_lex.proofs.TokenReaders.{parted_heads, parted, starts_token, token_exact, token_leads}

-- ---- spaces

all_spaces : (w : List ℕ) → EachPasses is_space w → blanks (length w) ≡ w
all_spaces [] h = refl
all_spaces (b ∷ bs) h = λ i. sym (is_the 32 b h.0) i ∷ all_spaces bs h.1 i

each_blank : (n : ℕ) → EachPasses is_space (blanks n)
each_blank zero = tt
each_blank (suc n) = (refl, each_blank n)

pub spaces_exact : Exact Byte blanks All (Apart is_space) spaces_at
unfolding spaces_at
spaces_exact =
    trees_exact (made_exact (front_exact Byte is_space) length blanks (Apart is_space) all_spaces (λ a rest g. g) (λ a rest p g. g)
    (λ n w more after g. g)) (λ n m. tt) (λ n h. (blanks n, each_blank n, length-replicate n 32))

-- ---- tokens and the spaces behind them

-- what may follow a token and its spaces: no further space, and nothing that the token would run into
abbrev ItemGoes : Item → List ℕ → Type 0
ItemGoes i rest = ItemParted i rest × Apart is_space i rest

item_heads : (i : Item) (w : ℕ) (more after : List ℕ) → ItemGoes i (w ∷ more) → ItemGoes i (w ∷ after)
item_heads i w more after g = (behind i.spaces g.0, g.1)
  where
    behind : (n : ℕ) → Parted i.token (blanks n ++ (w ∷ more)) → Parted i.token (blanks n ++ (w ∷ after))
    behind zero h = parted_heads i.token w more after h
    behind (suc n) h = parted_heads i.token 32 (blanks n ++ (w ∷ more)) (blanks n ++ (w ∷ after)) h

item_exact : Exact Byte item_bytes IsItem ItemGoes item_at
unfolding item_at
item_exact =
    trees_exact (same_exact (λ bs. simp bind_assoc)
    (made_exact (seq_exact token_exact spaces_exact) item item_bytes ItemGoes (λ a p. refl) (λ a rest g. g) (λ a rest p g. g)
    item_heads)) (λ i m. subst IsItem m.2 m.1.0) (λ i h. ((i.token, i.spaces), (h, tt), refl))
  where
    item : Token × ℕ → Item
    item p = record { token = p.0; spaces = p.1 }

-- ---- statements

-- with what a token begins stands inside of a statement
starts_inside : (b : ℕ) → starts_token b ≡ true → is_inside b ≡ true
starts_inside b h = rw (byte_apart starts_token 10 refl b h, byte_apart starts_token 59 refl b h) refl

-- behind a statement comes a line feed, a ; or nothing
pub outside : (rest : List ℕ) → next_is is_inside rest ≡ false → (test : ℕ → Bool) → test 10 ≡ false → test 59 ≡ false →
    next_is test rest ≡ false
outside [] h test a b = refl
outside (c ∷ rest) h test a b = elim (flag (c == 10)) [
  | inl k ↦ ap test (is_the 10 c k) ∙ a
  | inr k ↦ elim (flag (c == 59)) [
    | inl l ↦ ap test (is_the 59 c l) ∙ b
    | inr l ↦ absurd (let wrong = sym (rw (k, l) at h) in cc)
  ]
]

item_leads : (i : Item) (rest : List ℕ) → IsItem i → next_is is_inside (item_bytes i ++ rest) ≡ true
item_leads i rest h = let l = token_leads i.token h in
    ap (λ (z : List ℕ). next_is is_inside ((z ++ blanks i.spaces) ++ rest)) l.2 ∙ starts_inside l.0 l.3

item_long : (i : Item) → IsItem i → 0 < length (item_bytes i)
item_long i h = let l = token_leads i.token h in omega (arith, ap length l.2, length-append (token_bytes i.token) (blanks i.spaces))

item_out : (i : Item) (rest : List ℕ) → IsItem i → next_is is_inside rest ≡ false → ItemGoes i rest
item_out i rest h s = (behind i.spaces, outside rest s is_space refl refl)
  where
    behind : (n : ℕ) → Parted i.token (blanks n ++ rest)
    behind zero = parted i.token rest (outside rest s is_inner refl refl) (outside rest s (is_byte 62) refl refl)
    behind (suc n) = parted i.token (32 ∷ (blanks n ++ rest)) refl refl

-- a token begins with no space
no_space : (is : List Item) → IsRow item_bytes IsItem ItemParted is → next_is is_space (joined item_bytes is) ≡ false
no_space [] h = refl
no_space (i ∷ is) h = let l = token_leads i.token h.0 in
    ap (λ (z : List ℕ). next_is is_space ((z ++ blanks i.spaces) ++ joined item_bytes is)) l.2 ∙ byte_apart starts_token 32 refl l.0 l.3

parted_of : (is : List Item) → IsRow item_bytes IsItem ItemGoes is → IsRow item_bytes IsItem ItemParted is
parted_of [] h = tt
parted_of (i ∷ is) h = (h.0, h.1.0, parted_of is h.2)

goes_of : (is : List Item) → IsRow item_bytes IsItem ItemParted is → IsRow item_bytes IsItem ItemGoes is
goes_of [] h = tt
goes_of (i ∷ is) h = (h.0, (h.1, no_space is h.2), goes_of is h.2)

abbrev pub AreItems : List Item → Type 0
AreItems is = IsRow item_bytes IsItem ItemParted is

-- behind a statement's tokens none starts
abbrev pub ItemsGoes : List Item → List ℕ → Type 0
ItemsGoes is rest = next_is is_inside rest ≡ false

pub item_shorter : Shrinks item_at
item_shorter = item_shrinks item_exact (next_is is_inside) (next_head is_inside) refl (λ i rest p g. item_leads i rest p) item_long

pub items_exact : Exact Byte (joined item_bytes) AreItems ItemsGoes items_at
unfolding items_at
items_exact = trees_exact (row_exact item_exact (next_is is_inside) (next_head is_inside) refl (λ i rest p g. item_leads i rest p) item_long
    item_out) parted_of goes_of

-- a byte that begins no token, and is no line feed and no ;, doesn't come behind spaces
pub none_behind : (c : ℕ) → starts_token c ≡ false → is_byte c 10 ≡ false → is_byte c 59 ≡ false → (is : List Item) (rest : List ℕ) →
    AreItems is → next_is is_inside rest ≡ false → next_is (is_byte c) (joined item_bytes is ++ rest) ≡ false
none_behind c n a b [] rest h s = outside rest s (is_byte c) a b
none_behind c n a b (i ∷ is) rest h s = let l = token_leads i.token h.0 in
    ap (λ (z : List ℕ). next_is (is_byte c) (((z ++ blanks i.spaces) ++ joined item_bytes is) ++ rest)) l.2 ∙ byte_apart starts_token c n
    l.0 l.3

abbrev pub StatementGoes : Statement → List ℕ → Type 0
StatementGoes s rest = next_is is_inside rest ≡ false

pub statement_exact : Exact Byte statement_bytes IsStatement StatementGoes statement_at
unfolding statement_at
statement_exact =
    trees_exact (same_exact (λ bs. simp bind_assoc)
    (made_exact (seq_exact spaces_exact items_exact) statement statement_bytes StatementGoes (λ a p. refl) (λ a rest g. g.1)
    (λ a rest p g. (none_behind 32 refl refl refl a.1 rest p.1 g, g)) (λ s w more after g. g))) (λ s m. subst IsStatement m.2 m.1.1)
    (λ s h. ((s.spaces, s.items), (tt, h), refl))
  where
    statement : ℕ × List Item → Statement
    statement p = record { spaces = p.0; items = p.1 }

pub next_statement_exact : Exact Byte next_statement IsStatement StatementGoes next_statement_at
unfolding next_statement_at
next_statement_exact =
    trees_exact (same_exact (λ bs. simp bind_assoc)
    (made_exact (seq_exact (one_exact Byte (is_byte 59) 59 refl tt) statement_exact) behind next_statement StatementGoes
    (λ a p. λ i. sym (is_the 59 a.0 p.0) i ∷ statement_bytes a.1) (λ a rest g. g.1) (λ a rest p g. (tt, g)) (λ s w more after g. g)))
    (λ s m. subst IsStatement m.2 m.1.1) (λ s h. ((59, s), (refl, h), refl))
  where
    behind : ℕ × Statement → Statement
    behind p = p.1
