-- How sums over rows change when a row is put, dropped or changed.
use Rattle.std.proofs.Common.{◌≡◌, ℕ, Bool, true, false, cond, List, [], ◌∷◌, refl, ap, arith, Option, Some, ℤ, ◌+ℤ◌, ◌-ℤ◌}
use Rattle.std.proofs.Common.{if◌then◌else◌}
use Rattle.std.specs.Prelude.{find}
use Rattle.std.specs.declared.cmp.Ordering.{Ordering}
use Rattle.std.specs.declared.cmp.Ordering.TheVariants.{Less, Equal, Greater}
use Rattle.std.specs.Ordering.{is_eq}
use Rattle.std.proofs.lemmas.Int.{ints}
use Rattle.acc_base.specs.declared.tables.Row.{Row}
use Rattle.acc_base.specs.Tables.{place_of, compared, is_at, put, put_here, drop_row, change_row}
use Rattle.acc_base.proofs.RowOrder.{InOrder, past_both}
use Rattle.acc_instanced.proofs.RowSums.{given, row_sum}
use Rattle.acc_instanced.proofs.RowPlaces.{find_past}

module _ (f : Row → ℤ) where
  pub row_sum-put : (new : Row) (db : List Row) → InOrder db →
      row_sum f (put new db) ≡ (row_sum f db +ℤ f new) -ℤ given f (find (is_at new.table new.key.parts) db)
  row_sum-put new [] h = omega (arith, ints)
  row_sum-put new (r ∷ db) h = by (compared new.table new.key.parts r) refl (row_sum-put new db h.1)
    where
      rest : Option Row
      rest = find (is_at new.table new.key.parts) db

      by : (o : Ordering) → compared new.table new.key.parts r ≡ o → row_sum f (put new db) ≡ (row_sum f db +ℤ f new) -ℤ given f rest →
          row_sum f (put_here o new r db (put new db)) ≡ (row_sum f (r ∷ db) +ℤ f new) -ℤ given f (cond (is_eq o) (Some r) rest)
      by Less e ih =
          let none = ap (given f) (find_past (place_of new) db (past_both (place_of new) (place_of r) db e h.0)) in
          omega (arith, ints, none)
      by Equal e ih = omega (arith, ints)
      by Greater e ih = omega (arith, ints, ih)

  pub row_sum-drop : (t : ℕ) (k : List ℤ) (db : List Row) → row_sum f (drop_row t k db) ≡ row_sum f db -ℤ given f (find (is_at t k) db)
  row_sum-drop t k [] = omega (arith, ints)
  row_sum-drop t k (r ∷ db) = by (is_at t k r) (row_sum-drop t k db)
    where
      by : (b : Bool) → row_sum f (drop_row t k db) ≡ row_sum f db -ℤ given f (find (is_at t k) db) →
          row_sum f (if b then db else (r ∷ drop_row t k db)) ≡ row_sum f (r ∷ db) -ℤ given f (cond b (Some r) (find (is_at t k) db))
      by true ih = omega (arith, ints)
      by false ih = omega (arith, ints, ih)

  pub row_sum-change : (t : ℕ) (k : List ℤ) (g : Row → Row) (db : List Row) →
      row_sum f (change_row t k g db) ≡ (row_sum f db -ℤ given f (find (is_at t k) db)) +ℤ given (λ r. f (g r)) (find (is_at t k) db)
  row_sum-change t k g [] = omega (arith, ints)
  row_sum-change t k g (r ∷ db) = by (is_at t k r) (row_sum-change t k g db)
    where
      by : (b : Bool) → row_sum f (change_row t k g db) ≡ (row_sum f db -ℤ given f (find (is_at t k) db)) +ℤ given (λ x. f (g x))
          (find (is_at t k) db) → row_sum f (if b then (g r ∷ db) else (r ∷ change_row t k g db)) ≡
          (row_sum f (r ∷ db) -ℤ given f (cond b (Some r) (find (is_at t k) db))) +ℤ given (λ x. f (g x))
          (cond b (Some r) (find (is_at t k) db))
      by true ih = omega (arith, ints)
      by false ih = omega (arith, ints, ih)
