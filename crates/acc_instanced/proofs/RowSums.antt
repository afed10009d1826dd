-- Sums over rows, and the counts and sums of the rows that pass a test.
use Rattle.std.proofs.Common.{◌≡◌, ◌+◌, Bool, true, false, cond, List, [], ◌∷◌, map, refl, ap, ◌∙◌, arith, Option, Some, None, ℤ, pos, ◌+ℤ◌}
use Rattle.std.proofs.Common.{if◌then◌else◌}
use Rattle.std.specs.Prelude.{filter, count_by}
use Rattle.std.proofs.lemmas.Int.{ints}
use Rattle.std.proofs.lemmas.List.Sums.{sum_by-cons}
use Rattle.acc_base.specs.declared.tables.Row.{Row}
use Rattle.acc_base.specs.Numbers.{total}

-- a row's number, and 0 where there is none
abbrev pub given : (Row → ℤ) → Option Row → ℤ
given f None = pos 0
given f (Some r) = f r

abbrev pub row_sum : (Row → ℤ) → List Row → ℤ
row_sum f [] = pos 0
row_sum f (r ∷ db) = f r +ℤ row_sum f db

-- ---- counts and sums of the rows that pass a test

-- a row's number where the row passes
abbrev pub where_passes : (Row → Bool) → (Row → ℤ) → Row → ℤ
where_passes test v r = if test r then v r else pos 0

abbrev pub one : Row → ℤ
one r = pos 1

pub count_is : (test : Row → Bool) (db : List Row) → pos (count_by test db) ≡ row_sum (where_passes test one) db
count_is test [] = refl
count_is test (r ∷ db) =
    ap pos (sum_by-cons (λ x. cond (test x) 1 0) r db) ∙ by (test r) (count_is test db)
  where
    by : (b : Bool) → pos (count_by test db) ≡ row_sum (where_passes test one) db →
        pos (cond b 1 0 + count_by test db) ≡ (if b then pos 1 else pos 0) +ℤ row_sum (where_passes test one) db
    by true ih = omega (arith, ints, ih)
    by false ih = omega (arith, ints, ih)

pub total_is : (test : Row → Bool) (v : Row → ℤ) (db : List Row) → total (map v (filter test db)) ≡ row_sum (where_passes test v) db
total_is test v [] = refl
total_is test v (r ∷ db) = by (test r) (total_is test v db)
  where
    by : (b : Bool) → total (map v (filter test db)) ≡ row_sum (where_passes test v) db →
        total (map v (cond b (r ∷ filter test db) (filter test db))) ≡ (if b then v r else pos 0) +ℤ row_sum (where_passes test v) db
    by true ih = ap (λ z. v r +ℤ z) ih
    by false ih = omega (arith, ints, ih)
