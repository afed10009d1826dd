-- The readers of lists of values, of rows and of columns are exact.
use Rattle.std.proofs.Common.{◌≡◌, true, false, List, ◌∷◌, ◌++◌, Option, Some, None, refl, sym, ap, subst, ◌∙◌, append_assoc, inl, inr}
use Rattle.acc_lex.specs.declared.words.Sign.TheVariants as sign
use Rattle.acc_lex.specs.declared.words.Word.{Word}
use Rattle.acc_lex.specs.declared.words.Word.TheVariants as word
use Rattle.acc_grammar.specs.Readers.{joined, many}
use Rattle.acc_grammar.proofs.Exact.{bind_assoc, Exact, All, Free, seq_exact, Made, made_exact, trees_exact, same_exact, Or, maybe_exact}
use Rattle.acc_grammar.proofs.Many.{Shrinks, Runs}
use Rattle.acc_parse_syntax.specs.declared.trees.Sum.{Sum}
use Rattle.acc_parse_syntax.specs.declared.trees.Sums.{Sums}
use Rattle.acc_parse_syntax.specs.Spelling.{further, sum, sums, place, cell, values}
use Rattle.acc_parse_syntax.specs.WordReaders.{comes, further_at}
use Rattle.acc_parse_syntax.specs.ValueReaders.{sum_at, sums_at, starts_sum, values_at, place_at, cell_at}
use Rattle.acc_parse_syntax.proofs.Following.{CanFollow}
use Rattle.acc_parse_syntax.proofs.Combinators.{made_free, all_in}
use Rattle.acc_parse_syntax.proofs.WordLaws.{name_exact, after_exact, closed_exact, further_shrinks, furthers_exact, ends_before, furthers_end}
use Rattle.acc_parse_syntax.proofs.SumLaws.{SumGoes, sum_exact, Stop, sum_ends, sum_head, sum_starts}

pub further_sum_shrinks : Shrinks (further_at sum_at)
further_sum_shrinks = further_shrinks sum_exact

-- ---- lists of values

abbrev SumsRun : List Sum → List Word → Type 0
SumsRun = Runs (further sum) (comes sign.Comma) SumGoes

further_sums_exact : Exact CanFollow (joined (further sum)) All SumsRun (many (comes sign.Comma) (further_at sum_at))
further_sums_exact = trees_exact (furthers_exact sum_exact) (λ t p. tt) (λ t q. all_in t)

abbrev pub SumsGoes : Sums → List Word → Type 0
SumsGoes s rest = SumGoes s.first (joined (further sum) s.others ++ rest) × SumsRun s.others rest

sums_heads : (s : Sums) (w : Word) (more after : List Word) → SumsGoes s (w ∷ more) → SumsGoes s (w ∷ after)
sums_heads s w more after g = (seq_exact sum_exact further_sums_exact).heads (s.first, s.others) w more after g

pub sums_exact : Exact CanFollow sums All SumsGoes sums_at
unfolding sums_at
sums_exact =
    let whole = made_exact (seq_exact sum_exact further_sums_exact) (λ p. record { first = p.0; others = p.1 }) sums SumsGoes (λ a p. refl)
    (λ a rest g. g) (λ a rest p g. g) sums_heads in
    trees_exact (same_exact (λ ws. simp bind_assoc) whole) (λ t p. tt) (λ t q. ((t.first, t.others), (tt, tt), refl))

-- a comma ends a sum
pub comma_stops : (ws : List Word) → Stop (word.Sign sign.Comma ∷ ws)
comma_stops ws = record { times = refl; signed = refl }

pub sums_ends : (s : Sums) (rest : List Word) → comes sign.Comma rest ≡ false → Stop rest → SumsGoes s rest
sums_ends s rest c h = (
  sum_ends s.first (joined (further sum) s.others ++ rest) (ends_before Stop sum comma_stops s.others rest h),
  furthers_end Stop sum SumGoes comma_stops sum_ends s.others rest c h,
)

-- ---- values that may be left out

abbrev pub ValuesGoes : Option Sums → List Word → Type 0
ValuesGoes None rest = starts_sum rest ≡ false
ValuesGoes (Some s) rest = SumsGoes s rest

values_heads : (v : Option Sums) (w : Word) (more after : List Word) → ValuesGoes v (w ∷ more) → ValuesGoes v (w ∷ after)
values_heads None w more after g = sym (sum_head w more after) ∙ g
values_heads (Some s) w more after g = sums_heads s w more after g

sums_start : (s : Sums) (rest : List Word) → starts_sum (sums s ++ rest) ≡ true
sums_start s rest = ap starts_sum (append_assoc (sum s.first) (joined (further sum) s.others) rest) ∙ sum_starts s.first
    (joined (further sum) s.others ++ rest)

pub values_exact : Exact CanFollow values All ValuesGoes values_at
unfolding values_at
values_exact =
    let there = made_exact sums_exact Some values ValuesGoes (λ a p. refl) (λ a rest g. g) (λ a rest p g. g) values_heads in
    trees_exact (maybe_exact there starts_sum sum_head None refl
    (λ t rest p g. subst (λ (z : Option Sums). starts_sum (values z ++ rest) ≡ true) p.2 (sums_start p.0 rest)) (λ rest h. h)
    (λ rest h. h)) (λ t p. tt) (λ t q. trees t)
  where
    trees : (v : Option Sums) → Or (Made Some All) (λ (u : Option Sums). None ≡ u) v
    trees None = inr refl
    trees (Some s) = inl (s, tt, refl)

pub values_end : (v : Option Sums) (rest : List Word) → comes sign.Comma rest ≡ false → starts_sum rest ≡ false → Stop rest →
    ValuesGoes v rest
values_end None rest c s h = s
values_end (Some x) rest c s h = sums_ends x rest c h

-- ---- rows and columns

pub place_exact : Exact CanFollow place All Free place_at
unfolding place_at
place_exact =
    let key = closed_exact sign.Close refl sums_exact (λ s rest. sums_ends s _ refl (record { times = refl; signed = refl })) in
    let whole = made_free (seq_exact name_exact (after_exact sign.Open refl key)) (λ p. record { table = p.0; key = p.1 }) place
    (λ a p. refl) (λ a rest. (tt, tt)) in
    trees_exact (same_exact (λ ws. simp bind_assoc) whole) (λ t p. tt) (λ t q. ((t.table, t.key), (tt, tt), refl))

pub cell_exact : Exact CanFollow cell All Free cell_at
unfolding cell_at
cell_exact =
    let whole = made_free (seq_exact place_exact (after_exact sign.Dot refl name_exact)) (λ p. record { place = p.0; column = p.1 }) cell
    (λ a p. refl) (λ a rest. (tt, tt)) in
    trees_exact (same_exact (λ ws. simp bind_assoc) whole) (λ t p. tt) (λ t q. ((t.place, t.column), (tt, tt), refl))
