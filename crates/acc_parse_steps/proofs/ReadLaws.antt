-- The readers of reads are exact.
use Rattle.std.proofs.Common.{◌≡◌, ℕ, true, false, List, [], ◌∷◌, ◌++◌, refl, ap, inl, inr}
use Rattle.acc_lex.specs.declared.words.Sign.{Sign}
use Rattle.acc_lex.specs.declared.words.Sign.TheVariants as sign
use Rattle.acc_lex.specs.declared.words.Word.{Word}
use Rattle.acc_lex.specs.declared.words.Word.TheVariants as word
use Rattle.acc_grammar.specs.Readers.{joined, many}
use Rattle.acc_grammar.proofs.Exact.{bind_assoc, Exact, All, Free, seq_exact, made, trees_exact, same_exact, Or, ByHead}
use Rattle.acc_grammar.proofs.Many.{Shrinks, item_shrinks, Runs, many_exact}
use Rattle.acc_parse_syntax.specs.declared.trees.Variable.{Variable}
use Rattle.acc_parse_syntax.specs.declared.trees.Sum.{Sum}
use Rattle.acc_parse_syntax.specs.declared.trees.Place.{Place}
use Rattle.acc_parse_syntax.specs.declared.trees.Cell.{Cell}
use Rattle.acc_parse_syntax.specs.declared.trees.ReadTree.{ReadTree}
use Rattle.acc_parse_syntax.specs.declared.trees.ReadTree.TheVariants as read
use Rattle.acc_parse_syntax.specs.Spelling.{just, variable, place, cell, read_statement}
use Rattle.acc_parse_steps.specs.ReadReaders.{assigned_at, row_read_at, cell_read_at, let_at, get_at, has_at, count_at, sum_read_at}
use Rattle.acc_parse_steps.specs.ReadReaders.{least_at}
use Rattle.acc_parse_steps.specs.ReadReaders.{greatest_at, take_at, mul_at, div_at, read_at, starts_read}
use Rattle.acc_parse_syntax.proofs.Following.{CanFollow, is_own}
use Rattle.acc_parse_syntax.proofs.Combinators.{made_free, all_in}
use Rattle.acc_parse_syntax.proofs.WordLaws.{number_exact, after_exact, closed_exact}
use Rattle.acc_parse_syntax.proofs.KindLaws.{Begun, or_kind, last_kind, begun_long}
use Rattle.acc_parse_syntax.proofs.SumLaws.{variable_exact, sum_exact, sum_ends}
use Rattle.acc_parse_syntax.proofs.RowLaws.{place_exact, cell_exact}

-- ---- each kind

abbrev IsLet : ReadTree → Type 0
IsLet t = (x : Variable) × (v : Sum) × (read.Let x v ≡ t)

let_exact : Exact CanFollow read_statement IsLet Free let_at
unfolding let_at assigned_at
let_exact =
    let value = closed_exact sign.End refl sum_exact (λ v rest. sum_ends v _ (record { times = refl; signed = refl })) in
    let whole = made_free (after_exact sign.Let refl (seq_exact variable_exact (after_exact sign.Equal refl value))) (λ p. read.Let p.0 p.1)
    read_statement (λ a p. refl) (λ a rest. (tt, tt)) in
    trees_exact (same_exact (λ ws. simp bind_assoc) whole) (λ t p. (p.0.0, p.0.1, p.2)) (λ t q. ((q.0, q.1), (tt, tt), q.2))

-- this word, X = row
abbrev row_read : Sign → Variable × Place → List Word
row_read s p = just s ++ (variable p.0 ++ (just sign.Equal ++ (place p.1 ++ just sign.End)))

row_read_exact : (s : Sign) → is_own s ≡ false → Exact CanFollow (row_read s) All Free (row_read_at s)
unfolding row_read_at assigned_at
row_read_exact s n =
    let row = closed_exact sign.End refl place_exact (λ p rest. tt) in
    let whole = made_free (after_exact s n (seq_exact variable_exact (after_exact sign.Equal refl row))) (λ p. p) (row_read s) (λ a p. refl)
    (λ a rest. (tt, tt)) in
    trees_exact (same_exact (λ ws. simp bind_assoc) whole) (λ t p. tt) (λ t q. (t, (tt, tt), refl))

-- a read of a row
abbrev IsOfRow : (Variable → Place → ReadTree) → ReadTree → Type 0
IsOfRow make t = (x : Variable) × (p : Place) × (make x p ≡ t)

of_row : (s : Sign) → is_own s ≡ false → (make : Variable → Place → ReadTree) →
    ((x : Variable) (p : Place) → read_statement (make x p) ≡ row_read s (x, p)) →
    Exact CanFollow read_statement (IsOfRow make) Free (made (λ (p : Variable × Place). make p.0 p.1) (row_read_at s))
of_row s n make is =
    trees_exact (made_free (row_read_exact s n) (λ p. make p.0 p.1) read_statement (λ a p. is a.0 a.1) (λ a rest. tt))
    (λ t p. (p.0.0, p.0.1, p.2)) (λ t q. ((q.0, q.1), tt, q.2))

-- this word, X = row.column
abbrev cell_read : Sign → Variable × Cell → List Word
cell_read s p = just s ++ (variable p.0 ++ (just sign.Equal ++ (cell p.1 ++ just sign.End)))

cell_read_exact : (s : Sign) → is_own s ≡ false → Exact CanFollow (cell_read s) All Free (cell_read_at s)
unfolding cell_read_at assigned_at
cell_read_exact s n =
    let column = closed_exact sign.End refl cell_exact (λ c rest. tt) in
    let whole = made_free (after_exact s n (seq_exact variable_exact (after_exact sign.Equal refl column))) (λ p. p) (cell_read s)
    (λ a p. refl) (λ a rest. (tt, tt)) in
    trees_exact (same_exact (λ ws. simp bind_assoc) whole) (λ t p. tt) (λ t q. (t, (tt, tt), refl))

-- a read of a column
abbrev IsOfCell : (Variable → Cell → ReadTree) → ReadTree → Type 0
IsOfCell make t = (x : Variable) × (c : Cell) × (make x c ≡ t)

of_cell : (s : Sign) → is_own s ≡ false → (make : Variable → Cell → ReadTree) →
    ((x : Variable) (c : Cell) → read_statement (make x c) ≡ cell_read s (x, c)) →
    Exact CanFollow read_statement (IsOfCell make) Free (made (λ (p : Variable × Cell). make p.0 p.1) (cell_read_at s))
of_cell s n make is =
    trees_exact (made_free (cell_read_exact s n) (λ p. make p.0 p.1) read_statement (λ a p. is a.0 a.1) (λ a rest. tt))
    (λ t p. (p.0.0, p.0.1, p.2)) (λ t q. ((q.0, q.1), tt, q.2))

get_exact : Exact CanFollow read_statement (IsOfCell read.Get) Free get_at
unfolding get_at
get_exact = of_cell sign.Get refl read.Get (λ x y. refl)

has_exact : Exact CanFollow read_statement (IsOfRow read.Has) Free has_at
unfolding has_at
has_exact = of_row sign.Has refl read.Has (λ x y. refl)

count_exact : Exact CanFollow read_statement (IsOfRow read.Count) Free count_at
unfolding count_at
count_exact = of_row sign.Count refl read.Count (λ x y. refl)

sum_read_exact : Exact CanFollow read_statement (IsOfCell read.Sum) Free sum_read_at
unfolding sum_read_at
sum_read_exact = of_cell sign.Sum refl read.Sum (λ x y. refl)

least_exact : Exact CanFollow read_statement (IsOfRow read.Least) Free least_at
unfolding least_at
least_exact = of_row sign.Least refl read.Least (λ x y. refl)

greatest_exact : Exact CanFollow read_statement (IsOfRow read.Greatest) Free greatest_at
unfolding greatest_at
greatest_exact = of_row sign.Greatest refl read.Greatest (λ x y. refl)

abbrev IsTake : ReadTree → Type 0
IsTake t = (x : Variable) × (read.Take x ≡ t)

take_exact : Exact CanFollow read_statement IsTake Free take_at
unfolding take_at
take_exact =
    let assigned = closed_exact sign.End refl variable_exact (λ x rest. tt) in
    let whole = made_free (after_exact sign.Take refl assigned) (λ x. read.Take x) read_statement (λ a p. refl) (λ a rest. tt) in
    trees_exact (same_exact (λ ws. simp bind_assoc) whole) (λ t p. (p.0, p.2)) (λ t q. (q.0, tt, q.1))

abbrev IsMul : ReadTree → Type 0
IsMul t = (x : Variable) × (a : Variable) × (b : Variable) × (read.Mul x a b ≡ t)

mul_exact : Exact CanFollow read_statement IsMul Free mul_at
unfolding mul_at assigned_at
mul_exact =
    let right = closed_exact sign.End refl variable_exact (λ b rest. tt) in
    let whole = made_free (after_exact sign.Mul refl
    (seq_exact variable_exact (after_exact sign.Equal refl (seq_exact variable_exact right)))) (λ p. read.Mul p.0 p.1.0 p.1.1)
    read_statement (λ a p. refl) (λ a rest. (tt, (tt, tt))) in
    trees_exact (same_exact (λ ws. simp bind_assoc) whole) (λ t p. (p.0.0, p.0.1.0, p.0.1.1, p.2))
    (λ t q. ((q.0, (q.1, q.2)), (tt, (tt, tt)), q.3))

abbrev IsDiv : ReadTree → Type 0
IsDiv t = (x : Variable) × (a : Variable) × (n : ℕ) × (read.Div x a n ≡ t)

div_exact : Exact CanFollow read_statement IsDiv Free div_at
unfolding div_at assigned_at
div_exact =
    let divisor = closed_exact sign.End refl number_exact (λ n rest. tt) in
    let whole = made_free (after_exact sign.Div refl
    (seq_exact variable_exact (after_exact sign.Equal refl (seq_exact variable_exact divisor)))) (λ p. read.Div p.0 p.1.0 p.1.1)
    read_statement (λ a p. refl) (λ a rest. (tt, (tt, tt))) in
    trees_exact (same_exact (λ ws. simp bind_assoc) whole) (λ t p. (p.0.0, p.0.1.0, p.0.1.1, p.2))
    (λ t q. ((q.0, (q.1, q.2)), (tt, (tt, tt)), q.3))

-- ---- a read of any kind

-- the word that a read begins with
abbrev first : ReadTree → Sign
first (read.Let x v) = sign.Let
first (read.Get x c) = sign.Get
first (read.Has x p) = sign.Has
first (read.Count x p) = sign.Count
first (read.Sum x c) = sign.Sum
first (read.Least x p) = sign.Least
first (read.Greatest x p) = sign.Greatest
first (read.Take x) = sign.Take
first (read.Mul x a b) = sign.Mul
first (read.Div x a n) = sign.Div

begun : Begun read_statement first
begun (read.Let x v) = (_, refl)
begun (read.Get x c) = (_, refl)
begun (read.Has x p) = (_, refl)
begun (read.Count x p) = (_, refl)
begun (read.Sum x c) = (_, refl)
begun (read.Least x p) = (_, refl)
begun (read.Greatest x p) = (_, refl)
begun (read.Take x) = (_, refl)
begun (read.Mul x a b) = (_, refl)
begun (read.Div x a n) = (_, refl)

pub read_exact : Exact CanFollow read_statement All Free read_at
unfolding read_at
read_exact =
    let kinds =
    or_kind begun sign.Let let_exact (λ t p. ap first p.2) refl (
    or_kind begun sign.Get get_exact (λ t p. ap first p.2) refl (
    or_kind begun sign.Has has_exact (λ t p. ap first p.2) refl (
    or_kind begun sign.Count count_exact (λ t p. ap first p.2) refl (
    or_kind begun sign.Sum sum_read_exact (λ t p. ap first p.2) refl (
    or_kind begun sign.Least least_exact (λ t p. ap first p.2) refl (
    or_kind begun sign.Greatest greatest_exact (λ t p. ap first p.2) refl (
    or_kind begun sign.Take take_exact (λ t p. ap first p.1) refl (
    or_kind begun sign.Mul mul_exact (λ t p. ap first p.3) refl (
    last_kind begun sign.Div div_exact (λ t p. ap first p.3)))))))))) in
    trees_exact kinds.exact (λ t p. tt) (λ t q. trees t)
  where
    trees : (t : ReadTree) → Or IsLet (Or (IsOfCell read.Get)
        (Or (IsOfRow read.Has) (Or (IsOfRow read.Count)
        (Or (IsOfCell read.Sum) (Or (IsOfRow read.Least) (Or (IsOfRow read.Greatest) (Or IsTake (Or IsMul IsDiv)))))))) t
    trees (read.Let x v) = inl (x, v, refl)
    trees (read.Get x c) = inr (inl (x, c, refl))
    trees (read.Has x p) = inr (inr (inl (x, p, refl)))
    trees (read.Count x p) = inr (inr (inr (inl (x, p, refl))))
    trees (read.Sum x c) = inr (inr (inr (inr (inl (x, c, refl)))))
    trees (read.Least x p) = inr (inr (inr (inr (inr (inl (x, p, refl))))))
    trees (read.Greatest x p) = inr (inr (inr (inr (inr (inr (inl (x, p, refl)))))))
    trees (read.Take x) = inr (inr (inr (inr (inr (inr (inr (inl (x, refl))))))))
    trees (read.Mul x a b) = inr (inr (inr (inr (inr (inr (inr (inr (inl (x, a, b, refl)))))))))
    trees (read.Div x a n) = inr (inr (inr (inr (inr (inr (inr (inr (inr (x, a, n, refl)))))))))

-- ---- reads

read_head : ByHead starts_read
read_head (word.Sign t) more after = refl
read_head (word.Name x) more after = refl
read_head (word.Number n) more after = refl

read_starts : (t : ReadTree) (rest : List Word) → starts_read (read_statement t ++ rest) ≡ true
read_starts (read.Let x v) rest = refl
read_starts (read.Get x c) rest = refl
read_starts (read.Has x p) rest = refl
read_starts (read.Count x p) rest = refl
read_starts (read.Sum x c) rest = refl
read_starts (read.Least x p) rest = refl
read_starts (read.Greatest x p) rest = refl
read_starts (read.Take x) rest = refl
read_starts (read.Mul x a b) rest = refl
read_starts (read.Div x a n) rest = refl

pub read_shrinks : Shrinks read_at
read_shrinks = item_shrinks read_exact starts_read read_head refl (λ t rest p g. read_starts t rest) (λ t p. begun_long begun t)

pub reads_exact : Exact CanFollow (joined read_statement) All (Runs read_statement starts_read Free) (many starts_read read_at)
reads_exact = trees_exact (many_exact read_exact starts_read read_head refl (λ t rest p g. read_starts t rest) (λ t p. begun_long begun t))
    (λ t p. tt) (λ t q. all_in t)

pub reads_end : (ts : List ReadTree) (rest : List Word) → starts_read rest ≡ false → Runs read_statement starts_read Free ts rest
reads_end [] rest h = h
reads_end (t ∷ ts) rest h = (tt, reads_end ts rest h)
