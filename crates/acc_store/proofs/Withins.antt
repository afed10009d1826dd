-- Values near 0, and their sums.
use Rattle.std.proofs.Common.{ℕ, zero, suc, ◌==◌, Bool, not, refl, ◌*◌, ◌≤◌, ◌^◌, List, [], ◌∷◌, length, arith, ℤ, pos}
use Rattle.std.specs.Prelude.{All, unsigned_abs, slice_index_or}
use Rattle.std.proofs.Math.Nat.{mul-le-mul_right}
use Rattle.std.proofs.lemmas.Int.{ints}
use Rattle.std.proofs.lemmas.List.Elements.{All-weaker, All-head, All-tail}
use Rattle.std.proofs.lemmas.List.Sums.{sum_by-le}
use Rattle.std.proofs.lemmas.List.Filters.{sum_by-filter_both}
use Rattle.acc_base.specs.declared.tables.Row.{Row}
use Rattle.acc_base.specs.Tables.{cell}
use Rattle.acc_store.specs.Bounds.{IsWithin, AreWithin}
use Rattle.acc_store.specs.Rows.{SumsFit}

-- a column that is there or 0 is within the bound
pub value_within : (m : ℕ) (cols : List ℤ) (c : ℕ) → All (λ v. unsigned_abs v ≤ m) cols → unsigned_abs (slice_index_or cols c (pos 0)) ≤ m
value_within m [] c h = omega (arith, ints)
value_within m (x ∷ cols) zero h = All-head (λ v. unsigned_abs v ≤ m) x cols h
value_within m (x ∷ cols) (suc c) h = value_within m cols c (All-tail (λ v. unsigned_abs v ≤ m) x cols h)

-- the columns of at most n rows whose values are within m add up
pub sums_fit : (n m : ℕ) (db : List Row) → length db ≤ n → AreWithin m db → n * m ≤ 2 ^ 120 → SumsFit db
sums_fit n m db few within room t c =
    let size : Row → ℕ = λ r. unsigned_abs (cell c r) in
    let here : Row → Bool = λ r. r.table == t in
    let each = All-weaker (IsWithin m) (λ r. size r ≤ m) (λ r h. value_within m r.cols c h) db within in
    let sum = sum_by-le size m db each in
    let part = sum_by-filter_both here (λ r. not (here r)) (λ r. refl) size db in
    let wide = mul-le-mul_right {m = length db} {n = n} m few in
    omega arith
