-- The places of rows: their order, and that places which compare alike are one.
use Rattle.std.proofs.Common.{◌≡◌, ℕ, ◌<◌, true, List, [], ◌∷◌, ℤ, ◌<ℤ◌, refl}
use Rattle.std.specs.declared.cmp.Ordering.{Ordering}
use Rattle.std.specs.declared.cmp.Ordering.TheVariants.{Less, Equal, Greater}
use Rattle.std.specs.Ordering.{nat_cmp, int_cmp, is_eq, ordering_then, MatchOrdering}
use Rattle.std.specs.Cmp.{int_ranks, ranked, IsTotalOrder, on_total, nat_cmp_total, int_cmp_total}
use Rattle.std.specs.Cmp.Lexicographic.{slice_cmp, lists_total}
use Rattle.std.proofs.lemmas.Cmp.{then_total}
use Rattle.acc_base.specs.declared.tables.Row.{Row}
use Rattle.acc_base.specs.Tables.{Place, place_of, place_cmp, compared}

pub place_total : IsTotalOrder place_cmp
place_total = then_total (on_total (λ (p : Place). p.0) nat_cmp_total) (on_total (λ (p : Place). p.1) (lists_total int_cmp_total))

ints_equal : (xs ys : List ℤ) → slice_cmp int_cmp xs ys ≡ Equal → xs ≡ ys
ints_equal [] [] h = refl
ints_equal [] (y ∷ ys) h = cc
ints_equal (x ∷ xs) [] h = cc
ints_equal (x ∷ xs) (y ∷ ys) h = by (int_cmp x y) (int_ranks x y) h (ints_equal xs ys)
  where
    by : (o : Ordering) → MatchOrdering o (x <ℤ y) (x ≡ y) (y <ℤ x) → ordering_then o (slice_cmp int_cmp xs ys) ≡ Equal
        → (slice_cmp int_cmp xs ys ≡ Equal → xs ≡ ys) → x ∷ xs ≡ y ∷ ys
    by Less e g ih = cc
    by Equal e g ih = λ i. e i ∷ ih g i
    by Greater e g ih = cc

pub one_place : (p q : Place) → place_cmp p q ≡ Equal → p ≡ q
one_place p q h = by (nat_cmp p.0 q.0) (ranked p.0 q.0 (nat_cmp p.0 q.0) refl) h
  where
    by : (o : Ordering) → MatchOrdering o (p.0 < q.0) (p.0 ≡ q.0) (q.0 < p.0) → ordering_then o (slice_cmp int_cmp p.1 q.1) ≡ Equal → p ≡ q
    by Less e g = cc
    by Equal e g = let s = ints_equal p.1 q.1 g in λ i. (e i, s i)
    by Greater e g = cc

-- the row that a place compares alike with has its table and key
pub same_place : (t : ℕ) (k : List ℤ) (r : Row) → compared t k r ≡ Equal → (t ≡ r.table) × (k ≡ r.key.parts)
same_place t k r h = let e = one_place (t, k) (place_of r) h in (λ i. (e i).0, λ i. (e i).1)

pub is_equal : (o : Ordering) → is_eq o ≡ true → o ≡ Equal
is_equal Less h = cc
is_equal Equal h = refl
is_equal Greater h = cc
