-- Totals as a row comes in and goes out.
use Rattle.std.proofs.Common.{◌≡◌, ℕ, ◌+◌, ◌-◌, ◌<◌, ◌≤◌, ◌^◌, ◌⊎◌, inl, inr, Bool, true, false, cond, List, refl, sym, subst}
use Rattle.std.proofs.Common.{Option, Some, None, arith, ℤ, pos, ◌+ℤ◌, if◌then◌else◌}
use Rattle.std.specs.Prelude.{filter, find, count_by, unsigned_abs, ◌==◌}
use Rattle.std.specs.Cmp.{unsigned_Decides}
use Rattle.std.proofs.lemmas.Bool.{cases_order}
use Rattle.std.proofs.lemmas.Bool.Decides.{nat_tests}
use Rattle.std.proofs.lemmas.Int.{ints}
use Rattle.acc_base.specs.declared.tables.Row.{Row}
use Rattle.acc_base.specs.Tables.{Place, is_at, is_under, cell, sum_of, IsInOrder}
use Rattle.acc_store.specs.Rows.{SumsFit}
use Rattle.acc_index_store.specs.declared.prefixes.Prefixes.{Prefixes}
use Rattle.acc_index_store.specs.declared.totals.Total.{Total}
use Rattle.acc_index_store.specs.declared.totals.Way.TheVariants.{In, Out}
use Rattle.acc_index_store.specs.Totals.{Counts, more, fewer, with_row, without_row, Entries, found}
use Rattle.acc_index_store.specs.Indexes.{share, IsTotal, AreTotals, Moves, CanMove}
use Rattle.acc_index_store.proofs.Counting.{worth_of, split, ones, part_fits}

-- ---- numbers of rows

pub more_counts : (m n l : ℕ) → Counts m n → l ≡ n + 1 → Counts (more m) l
more_counts m n l (inl e) h = by (cases_order (m + 1) 18446744073709551615)
  where
    by : (m + 1 ≡ 18446744073709551615) ⊎ ((m + 1 < 18446744073709551615) ⊎ (18446744073709551615 < m + 1)) → Counts (more m) l
    by (inl f) = inr (omega arith)
    by (inr (inl f)) = inl (omega arith)
    by (inr (inr f)) = inr (omega arith)
more_counts m n l (inr e) h = inr (omega arith)

pub fewer_counts : (m n l : ℕ) → Counts m n → n ≡ l + 1 → Counts (fewer m) l
fewer_counts m n l c h = by (m == 18446744073709551615) refl c
  where
    by : (b : Bool) → (m == 18446744073709551615) ≡ b → Counts m n → Counts (if b then m else m - 1) l
    by true e d = inr (grind (arith, nat_tests))
    by false e (inl d) = inl (omega arith)
    by false e (inr d) = let f : (m == 18446744073709551615) ≡ true = (unsigned_Decides m 18446744073709551615).1 d in cc

-- ---- one total

module _ (k : Prefixes) (p : List ℤ) where
  abbrev number_of : List Row → ℕ
  number_of rows = count_by (is_under k.table p) rows

  abbrev sum_at : List Row → ℤ
  sum_at rows = sum_of rows k.table p k.col

  -- what a row adds to a number and to a sum
  abbrev one_of : Option ℤ → ℕ
  one_of None = 0
  one_of (Some x) = 1

  abbrev value_of : Option ℤ → ℤ
  value_of None = pos 0
  value_of (Some x) = x

  with_share : (rows more_rows : List Row) (v : Total) (x : Option ℤ) → number_of more_rows ≡ number_of rows + one_of x →
      sum_at more_rows ≡ (value_of x +ℤ sum_at rows) → IsTotal k p rows v → IsTotal k p more_rows (with_row x v)
  with_share rows more_rows v None number sum h =
      let same : number_of more_rows ≡ number_of rows = omega arith in
      record { number = subst (Counts v.rows) (sym same) h.number; sum = omega (arith, ints, sum, h.sum) }
  with_share rows more_rows v (Some x) number sum h =
      record { number = more_counts v.rows (number_of rows) (number_of more_rows) h.number number; sum = omega (arith, ints, sum, h.sum) }

  without_share : (rows more_rows : List Row) (v : Total) (x : Option ℤ) → number_of more_rows ≡ number_of rows + one_of x →
      sum_at more_rows ≡ (value_of x +ℤ sum_at rows) → IsTotal k p more_rows v → IsTotal k p rows (without_row x v)
  without_share rows more_rows v None number sum h =
      let same : number_of more_rows ≡ number_of rows = omega arith in
      record { number = subst (Counts v.rows) same h.number; sum = omega (arith, ints, sum, h.sum) }
  without_share rows more_rows v (Some x) number sum h =
      record { number = fewer_counts v.rows (number_of more_rows) (number_of rows) h.number number; sum = omega (arith, ints, sum, h.sum) }

  value_is : (o : Option Row) → worth_of (is_under k.table p) (cell k.col) o ≡ value_of (share k p o)
  value_is None = refl
  value_is (Some r) = by (is_under k.table p r)
    where
      by : (b : Bool) → cond b (cell k.col r) (pos 0) ≡ value_of (if b then Some (cell k.col r) else None)
      by true = refl
      by false = refl

  one_is : (o : Option Row) → worth_of (is_under k.table p) (λ r. pos 1) o ≡ pos (one_of (share k p o))
  one_is None = refl
  one_is (Some r) = by (is_under k.table p r)
    where
      by : (b : Bool) → cond b (pos 1) (pos 0) ≡ pos (one_of (if b then Some (cell k.col r) else None))
      by true = refl
      by false = refl

-- rows that pass two tests, which differ at one place
pub record Differ (f g : Row → Bool) (q : Place) : Type 0 where
  pub same : (r : Row) → is_at q.0 q.1 r ≡ false → g r ≡ f r
  pub comes : (r : Row) → is_at q.0 q.1 r ≡ true → f r ≡ true
  pub goes : (r : Row) → is_at q.0 q.1 r ≡ true → g r ≡ false

module _ (k : Prefixes) (f g : Row → Bool) (q : Place) (differ : Differ f g q) (rows : List Row) (order : IsInOrder rows) where
  number_split : (p : List ℤ) → number_of k p (filter f rows) ≡ number_of k p (filter g rows) + one_of k p (share k p (find
      (is_at q.0 q.1) rows))
  number_split p =
      let u : Row → Bool = is_under k.table p in
      let e = split u (λ r. pos 1) f g q.0 q.1 differ.same differ.comes differ.goes rows order in
      let a = ones u (filter f rows) in
      let b = ones u (filter g rows) in
      let d = one_is k p (find (is_at q.0 q.1) rows) in
      omega (arith, ints, a, b, d, e)

  sum_split : (p : List ℤ) →
      sum_at k p (filter f rows) ≡ (value_of k p (share k p (find (is_at q.0 q.1) rows)) +ℤ sum_at k p (filter g rows))
  sum_split p =
      let e = split (is_under k.table p) (cell k.col) f g q.0 q.1 differ.same differ.comes differ.goes rows order in
      let d = value_is k p (find (is_at q.0 q.1) rows) in
      omega (arith, ints, d, e)

  pub comes_in : (es fs : Entries) → AreTotals k (filter g rows) es → Moves k In (find (is_at q.0 q.1) rows) es fs →
      AreTotals k (filter f rows) fs
  comes_in es fs h moves p long =
      subst (IsTotal k p (filter f rows)) (sym (moves p long))
      (with_share k p (filter g rows) (filter f rows) (found p es) (share k p (find (is_at q.0 q.1) rows)) (number_split p) (sum_split p)
      (h p long))

  pub goes_out : (es fs : Entries) → AreTotals k (filter f rows) es → Moves k Out (find (is_at q.0 q.1) rows) es fs →
      AreTotals k (filter g rows) fs
  goes_out es fs h moves p long =
      subst (IsTotal k p (filter g rows)) (sym (moves p long))
      (without_share k p (filter g rows) (filter f rows) (found p es) (share k p (find (is_at q.0 q.1) rows)) (number_split p) (sum_split p)
      (h p long))

  pub can_come : (es : Entries) → AreTotals k (filter g rows) es → SumsFit rows → CanMove k In (find (is_at q.0 q.1) rows) es
  can_come es h fit p long =
      let new = with_share k p (filter g rows) (filter f rows) (found p es) (share k p (find (is_at q.0 q.1) rows)) (number_split p)
      (sum_split p)
      (h p long) in
      subst (λ x. unsigned_abs x ≤ 2 ^ 120) (sym new.sum) (part_fits f k.table p k.col rows fit)

  pub can_go : (es : Entries) → AreTotals k (filter f rows) es → SumsFit rows → CanMove k Out (find (is_at q.0 q.1) rows) es
  can_go es h fit p long =
      let new = without_share k p (filter g rows) (filter f rows) (found p es) (share k p (find (is_at q.0 q.1) rows)) (number_split p)
      (sum_split p)
      (h p long) in
      subst (λ x. unsigned_abs x ≤ 2 ^ 120) (sym new.sum) (part_fits g k.table p k.col rows fit)
