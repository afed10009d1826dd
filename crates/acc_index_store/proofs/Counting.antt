-- What rows add up to with one of them and without it.
use Rattle.std.proofs.Common.{◌≡◌, ℕ, ◌+◌, ◌≤◌, ◌^◌, Bool, true, false, cond, List, [], ◌∷◌, map, refl, sym, ap, ◌∙◌, Option, Some}
use Rattle.std.proofs.Common.{None, arith}
use Rattle.std.proofs.Common.{ℤ, pos, ◌+ℤ◌}
use Rattle.std.specs.Prelude.{filter, find, count_by, unsigned_abs}
use Rattle.std.specs.List.{sum_by}
use Rattle.std.specs.declared.cmp.Ordering.{Ordering}
use Rattle.std.specs.declared.cmp.Ordering.TheVariants.{Less, Equal, Greater}
use Rattle.std.specs.Ordering.{is_eq}
use Rattle.std.proofs.lemmas.Int.{ints}
use Rattle.std.proofs.lemmas.List.Sums.{sum_by-cons}
use Rattle.acc_base.specs.declared.tables.Row.{Row}
use Rattle.acc_base.specs.Numbers.{total}
use Rattle.acc_base.specs.Tables.{place_of, compared, is_at, is_under, cell, sum_of, IsInOrder}
use Rattle.acc_base.proofs.RowOrder.{ArePast, InOrder, order_from, past_same}
use Rattle.acc_store.specs.Rows.{SumsFit}
use Rattle.acc_store.proofs.Unders.{under_sum}

-- ---- rows that pass two tests, which differ at one place

module _ (u : Row → Bool) (worth : Row → ℤ) where
  abbrev pub worth_of : Option Row → ℤ
  worth_of None = pos 0
  worth_of (Some r) = cond (u r) (worth r) (pos 0)

  abbrev pub adds_up : List Row → ℤ
  adds_up rows = total (map worth (filter u rows))

  with_first : (b : Bool) (r : Row) (rows : List Row) → adds_up (cond b (r ∷ rows) rows) ≡ (cond b (worth_of (Some r))
      (pos 0) +ℤ adds_up rows)
  with_first false r rows = omega (arith, ints)
  with_first true r rows = by (u r)
    where
      by : (c : Bool) → total (map worth (cond c (r ∷ filter u rows) (filter u rows))) ≡ (cond c (worth r) (pos 0) +ℤ adds_up rows)
      by true = refl
      by false = omega (arith, ints)

  module _ (f g : Row → Bool) (t : ℕ) (k : List ℤ) (same : (r : Row) → is_at t k r ≡ false → g r ≡ f r)
      (comes : (r : Row) → is_at t k r ≡ true → f r ≡ true) (goes : (r : Row) → is_at t k r ≡ true → g r ≡ false) where
    same_past : (rows : List Row) → ArePast (t, k) rows → filter g rows ≡ filter f rows
    same_past [] h = refl
    same_past (r ∷ rows) h =
        let e = same r (ap is_eq h.0) in
        let ih = same_past rows h.1 in
        λ i. cond (e i) (r ∷ ih i) (ih i)

    split_in : (rows : List Row) → InOrder rows →
        adds_up (filter f rows) ≡ (worth_of (find (is_at t k) rows) +ℤ adds_up (filter g rows))
    split_in [] up = refl
    split_in (r ∷ rows) up = by (compared t k r) refl (split_in rows up.1)
      where
        elsewhere : is_at t k r ≡ false → adds_up (filter f rows) ≡ (worth_of (find (is_at t k) rows) +ℤ adds_up (filter g rows)) →
            adds_up (filter f (r ∷ rows)) ≡ (worth_of (cond (is_at t k r) (Some r) (find (is_at t k) rows)) +ℤ adds_up (filter g
            (r ∷ rows)))
        elsewhere e ih =
            let with = with_first (f r) r (filter f rows) in
            let without = with_first (g r) r (filter g rows) in
            let alike : cond (g r) (worth_of (Some r)) (pos 0) ≡ cond (f r) (worth_of (Some r)) (pos 0) =
            ap (λ b. cond b (worth_of (Some r)) (pos 0)) (same r e) in
            let here : worth_of (cond (is_at t k r) (Some r) (find (is_at t k) rows)) ≡ worth_of (find (is_at t k) rows) =
            ap (λ b. worth_of (cond b (Some r) (find (is_at t k) rows))) e in
            omega (arith, ints, with, without, alike, here, ih)

        by : (o : Ordering) → compared t k r ≡ o → adds_up (filter f rows) ≡ (worth_of (find (is_at t k) rows) +ℤ adds_up (filter g rows)) →
            adds_up (filter f (r ∷ rows)) ≡ (worth_of (cond (is_at t k r) (Some r) (find (is_at t k) rows)) +ℤ adds_up (filter g
            (r ∷ rows)))
        by Less e ih = elsewhere (ap is_eq e) ih
        by Greater e ih = elsewhere (ap is_eq e) ih
        by Equal e ih =
            let with = with_first (f r) r (filter f rows) in
            let without = with_first (g r) r (filter g rows) in
            let came : cond (f r) (worth_of (Some r)) (pos 0) ≡ worth_of (Some r) =
            ap (λ b. cond b (worth_of (Some r)) (pos 0)) (comes r (ap is_eq e)) in
            let went : cond (g r) (worth_of (Some r)) (pos 0) ≡ pos 0 = ap (λ b. cond b (worth_of (Some r)) (pos 0)) (goes r
            (ap is_eq e)) in
            let here : worth_of (cond (is_at t k r) (Some r) (find (is_at t k) rows)) ≡ worth_of (Some r) =
            ap (λ b. worth_of (cond b (Some r) (find (is_at t k) rows))) (ap is_eq e) in
            let rest : adds_up (filter g rows) ≡ adds_up (filter f rows) = ap adds_up (same_past rows (past_same (t, k)
            (place_of r) rows e up.0)) in
            omega (arith, ints, with, without, came, went, here, rest)

    pub split : (rows : List Row) → IsInOrder rows → adds_up (filter f rows) ≡ (worth_of (find (is_at t k) rows) +ℤ adds_up (filter g rows))
    split rows order = split_in rows (order_from rows order)

-- a number of rows is a sum of ones
pub ones : (u : Row → Bool) (rows : List Row) → total (map (λ r. pos 1) (filter u rows)) ≡ pos (count_by u rows)
ones u [] = refl
ones u (r ∷ rows) = by (u r) (ones u rows) ∙ sym (ap pos (sum_by-cons (λ x. cond (u x) 1 0) r rows))
  where
    by : (c : Bool) → total (map (λ r. pos 1) (filter u rows)) ≡ pos (count_by u rows) →
        total (map (λ r. pos 1) (cond c (r ∷ filter u rows) (filter u rows))) ≡ pos (cond c 1 0 + count_by u rows)
    by true ih = omega (arith, ints, ih)
    by false ih = omega (arith, ints, ih)

-- ---- the sums of some of the rows fit where those of all do

total_within : (worth : Row → ℤ) (rows : List Row) → unsigned_abs (total (map worth rows)) ≤ sum_by (λ r. unsigned_abs (worth r)) rows
total_within worth [] = omega (arith, ints)
total_within worth (r ∷ rows) =
    let ih = total_within worth rows in
    let more = sum_by-cons (λ x. unsigned_abs (worth x)) r rows in
    omega (arith, ints, ih, more)

some_below : (u f : Row → Bool) (size : Row → ℕ) (rows : List Row) → sum_by size (filter u (filter f rows)) ≤ sum_by size (filter u rows)
some_below u f size [] = omega arith
some_below u f size (r ∷ rows) = by (f r) (u r) refl (some_below u f size rows)
  where
    by : (b c : Bool) → u r ≡ c → sum_by size (filter u (filter f rows)) ≤ sum_by size (filter u rows) →
        sum_by size (filter u (cond b (r ∷ filter f rows) (filter f rows))) ≤ sum_by size (cond c (r ∷ filter u rows) (filter u rows))
    by false true e ih = let more = sum_by-cons size r (filter u rows) in omega (arith, ih, more)
    by false false e ih = ih
    by true true e ih =
        let one : sum_by size (cond (u r) (r ∷ filter u (filter f rows)) (filter u (filter f rows))) ≡ sum_by size (r ∷ filter u
        (filter f rows)) =
        ap (λ c. sum_by size (cond c (r ∷ filter u (filter f rows)) (filter u (filter f rows)))) e in
        let more = sum_by-cons size r (filter u rows) in
        let less = sum_by-cons size r (filter u (filter f rows)) in
        omega (arith, ih, one, more, less)
    by true false e ih =
        let one : sum_by size (cond (u r) (r ∷ filter u (filter f rows)) (filter u (filter f rows))) ≡ sum_by size (filter u
        (filter f rows)) =
        ap (λ c. sum_by size (cond c (r ∷ filter u (filter f rows)) (filter u (filter f rows)))) e in
        omega (arith, ih, one)

pub part_fits : (f : Row → Bool) (t : ℕ) (p : List ℤ) (c : ℕ) (rows : List Row) → SumsFit rows → unsigned_abs (sum_of
    (filter f rows) t p c) ≤ 2 ^ 120
part_fits f t p c rows fit =
    let size : Row → ℕ = λ r. unsigned_abs (cell c r) in
    let a = total_within (cell c) (filter (is_under t p) (filter f rows)) in
    let b = some_below (is_under t p) f size rows in
    let d = under_sum t p size rows in
    let e = fit t c in
    omega (arith, a, b, d, e)
