-- Facts about what rows give: each axiom's in words of rows.
use Rattle.std.proofs.Common.{◌≡◌, ℕ, zero, suc, ◌+◌, ◌≤◌, Bool, true, false, cond, List, [], ◌∷◌, length, map, take, refl, ap}
use Rattle.std.proofs.Common.{sym, ◌∙◌, arith, ℤ, pos, ◌+ℤ◌, if◌then◌else◌, Option, Some, None, ◌==◌, ◌||◌}
use Rattle.std.specs.Prelude.{◌≤ℤ◌, find, filter, count_by}
use Rattle.std.specs.List.{list_any, starts_with, AllByRecursion}
use Rattle.std.specs.Ordering.{int_eq}
use Rattle.std.proofs.lemmas.Int.{ints}
use Rattle.std.proofs.lemmas.List.Sums.{sum_by-cons}
use Rattle.std.proofs.lemmas.Bool.Decides.{Decides-eqb}
use Rattle.acc_base.specs.declared.tables.Row.{Row}
use Rattle.acc_base.specs.Numbers.{total}
use Rattle.acc_base.specs.Equality.{ints_decide}
use Rattle.acc_base.specs.Tables.{place_of, compared, is_at, is_under, cell, cell_of, has_row, column_of, count_of}
use Rattle.acc_base.specs.Tables.{sum_of}
use Rattle.acc_base.proofs.Places.{is_equal, same_place as row_place}
use Rattle.acc_base.proofs.RowOrder.{InOrder, past_same}
use Rattle.acc_base.proofs.Lookups.{any_none, any_some}
use Rattle.acc_instanced.proofs.RowSums.{given, row_sum, where_passes, one, count_is, total_is}
use Rattle.acc_instanced.proofs.RowPlaces.{find_past, same_place}
use Rattle.acc_axioms.proofs.Tests.{both_true}

module _ (db : List Row) where
  pub has_least : (t : ℕ) (k : List ℤ) → pos 0 ≤ℤ has_row db t k
  has_least t k = by (list_any (is_at t k) db)
    where
      by : (b : Bool) → pos 0 ≤ℤ (if b then pos 1 else pos 0)
      by true = omega (arith, ints)
      by false = omega (arith, ints)

  pub has_most : (t : ℕ) (k : List ℤ) → has_row db t k ≤ℤ pos 1
  has_most t k = by (list_any (is_at t k) db)
    where
      by : (b : Bool) → (if b then pos 1 else pos 0) ≤ℤ pos 1
      by true = omega (arith, ints)
      by false = omega (arith, ints)

  pub no_column : (t : ℕ) (k : List ℤ) (c : ℕ) → has_row db t k ≤ℤ pos 0 → column_of db t k c ≡ pos 0
  no_column t k c h = by (find (is_at t k) db) refl
    where
      by : (o : Option Row) → find (is_at t k) db ≡ o → cell_of c o ≡ pos 0
      by None e = refl
      by (Some r) e =
          let there = ap (λ b. if b then pos 1 else pos 0) (any_some (is_at t k) db r e) in
          absurd (omega (arith, ints, h, there))

-- ---- counts

none_counted : (test : Row → Bool) (db : List Row) → count_by test db ≡ 0 → filter test db ≡ []
none_counted test [] h = refl
none_counted test (r ∷ db) h =
    by (test r) (sym (sum_by-cons (λ x. cond (test x) 1 0) r db) ∙ h) (none_counted test db)
  where
    by : (b : Bool) → cond b 1 0 + count_by test db ≡ 0 → (count_by test db ≡ 0 → filter test db ≡ [])
        → cond b (r ∷ filter test db) (filter test db) ≡ []
    by true e ih = absurd (omega (arith, e))
    by false e ih = ih (omega (arith, e))

pub no_sum : (db : List Row) (t : ℕ) (p : List ℤ) (c : ℕ) → count_of db t p ≤ℤ pos 0 → sum_of db t p c ≡ pos 0
no_sum db t p c h = ap (λ rows. total (map (cell c) rows)) (none_counted (is_under t p) db (omega (arith, ints, h)))

one_counted : (first second : Row → Bool) (db : List Row) → ((r : Row) → first r ≡ true → second r ≡ true) → list_any first db ≡ true → 1
    ≤ count_by second db
one_counted first second [] f h = absurd (cc)
one_counted first second (r ∷ db) f h =
    let s = sum_by-cons (λ x. cond (second x) 1 0) r db in
    by (first r) refl h s (one_counted first second db f)
  where
    here : (b : Bool) → b ≡ true → count_by second (r ∷ db) ≡ cond b 1 0 + count_by second db → 1 ≤ count_by second (r ∷ db)
    here true e s = omega (arith, s)
    here false e s = absurd (cc)

    there : (b : Bool) → count_by second (r ∷ db) ≡ cond b 1 0 + count_by second db → 1 ≤ count_by second db → 1 ≤ count_by second (r ∷ db)
    there true s ih = omega (arith, s, ih)
    there false s ih = omega (arith, s, ih)

    by : (b : Bool) → first r ≡ b → (b || list_any first db) ≡ true → count_by second (r ∷ db) ≡ cond (second r) 1 0 + count_by second db
        → (list_any first db ≡ true → 1 ≤ count_by second db) → 1 ≤ count_by second (r ∷ db)
    by true e g s ih = here (second r) (f r e) s
    by false e g s ih = there (second r) s (ih g)

take_own : (n : ℕ) (k : List ℤ) → take (length (take n k)) k ≡ take n k
take_own zero k = refl
take_own (suc n) [] = refl
take_own (suc n) (x ∷ k) = ap (λ xs. x ∷ xs) (take_own n k)

pub front : (db : List Row) (t n : ℕ) (k : List ℤ) → has_row db t k ≤ℤ count_of db t (take n k)
front db t n k = by (list_any (is_at t k) db) refl
  where
    under : (r : Row) → is_at t k r ≡ true → is_under t (take n k) r ≡ true
    under r e =
        let same = row_place t k r (is_equal (compared t k r) e) in
        both_true (r.table == t) (starts_with int_eq r.key.parts (take n k)) ((Decides-eqb r.table t).1 (sym same.0))
        ((ints_decide (take n k) (take (length (take n k)) r.key.parts)).1 (sym (take_own n k) ∙ ap (take (length (take n k))) same.1))

    by : (b : Bool) → list_any (is_at t k) db ≡ b → (if b then pos 1 else pos 0) ≤ℤ count_of db t (take n k)
    by true e =
        let one_there : 1 ≤ count_by (is_under t (take n k)) db = one_counted (is_at t k) (is_under t (take n k)) db under e in
        omega (arith, ints, one_there)
    by false e = omega (arith, ints)

-- ---- whole keys

-- the rows of a table have keys of one length
abbrev pub HasLength : ℕ → ℕ → Row → Type 0
HasLength t n r = t ≡ r.table → n ≡ length r.key.parts

whole_sum : (v : Row → ℤ) (t : ℕ) (k : List ℤ) (db : List Row) → InOrder db → AllByRecursion (HasLength t (length k)) db
    → row_sum (where_passes (is_under t k) v) db ≡ given v (find (is_at t k) db)
whole_sum v t k [] order long = refl
whole_sum v t k (r ∷ db) order long =
    let same = same_place r.table t r.key.parts k (λ e. long.0 (sym e)) in
    ap (λ b. (if b then v r else pos 0) +ℤ row_sum (where_passes (is_under t k) v) db) (sym same)
    ∙ by (is_at t k r) refl (whole_sum v t k db order.1 long.1)
  where
    by : (b : Bool) → is_at t k r ≡ b → row_sum (where_passes (is_under t k) v) db ≡ given v (find (is_at t k) db)
        → (if b then v r else pos 0) +ℤ row_sum (where_passes (is_under t k) v) db ≡ given v (cond b (Some r) (find (is_at t k) db))
    by true e ih =
        let none = find_past (t, k) db (past_same (t, k) (place_of r) db (is_equal (compared t k r) e) order.0) in
        let nothing = ih ∙ ap (given v) none in
        omega (arith, ints, nothing)
    by false e ih = omega (arith, ints, ih)

pub whole_count : (db : List Row) (t : ℕ) (k : List ℤ) → InOrder db → AllByRecursion (HasLength t (length k)) db → count_of db t k
    ≡ has_row db t k
whole_count db t k order long =
    count_is (is_under t k) db ∙ (whole_sum one t k db order long ∙ by (find (is_at t k) db) refl)
  where
    by : (o : Option Row) → find (is_at t k) db ≡ o → given one o ≡ has_row db t k
    by None e = sym (ap (λ b. if b then pos 1 else pos 0) (any_none (is_at t k) db e))
    by (Some r) e = sym (ap (λ b. if b then pos 1 else pos 0) (any_some (is_at t k) db r e))

pub whole_sum_is : (db : List Row) (t : ℕ) (k : List ℤ) (c : ℕ) → InOrder db → AllByRecursion (HasLength t (length k)) db → sum_of db t k c
    ≡ column_of db t k c
whole_sum_is db t k c order long =
    total_is (is_under t k) (cell c) db ∙ (whole_sum (cell c) t k db order long ∙ by (find (is_at t k) db))
  where
    by : (o : Option Row) → given (cell c) o ≡ cell_of c o
    by None = refl
    by (Some r) = refl
