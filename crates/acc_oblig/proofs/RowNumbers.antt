-- What rows that fit give is in range: whether a row is there, how many rows there are, the least and the greatest component.
use Rattle.std.proofs.Common.{◌≡◌, ◌⊎◌, inl, inr, ℕ, zero, suc, Bool, true, false, if◌then◌else◌, cond, List, [], ◌∷◌, length, refl, sym}
use Rattle.std.proofs.Common.{subst, arith, Option, Some, None, ℤ, pos}
use Rattle.std.specs.Prelude.{slice_get, filter, All}
use Rattle.std.specs.List.{list_any, AllByRecursion}
use Rattle.std.specs.Int.{int_min, int_max}
use Rattle.std.proofs.lemmas.Bool.{false≢true}
use Rattle.std.proofs.lemmas.List.Sums.{count_by-le-length}
use Rattle.std.proofs.lemmas.List.Elements.{recursion_from_All}
use Rattle.acc_base.specs.declared.tables.Row.{Row}
use Rattle.acc_base.specs.declared.steps.Read.{Read}
use Rattle.acc_base.specs.declared.steps.Read.TheVariants as read
use Rattle.acc_base.specs.declared.designs.Design.{Design}
use Rattle.acc_base.specs.Numbers.{IsSmall}
use Rattle.acc_base.specs.Tables.{is_at, is_under, count_of, with_part, parts_at, best}
use Rattle.acc_base.specs.Linear.{lin_values}
use Rattle.acc_base.specs.Reads.{read_value}
use Rattle.acc_base.specs.Fits.{RowsFit}
use Rattle.acc_oblig.specs.Ranges.{value_asked}
use Rattle.acc_oblig.proofs.Parts.{min_one_of, max_one_of}

has_small : (b : Bool) → IsSmall (if b then pos 1 else pos 0)
has_small true = omega arith
has_small false = omega arith

some_small : (xs : List ℤ) (n : ℕ) (y : ℤ) → AllByRecursion IsSmall xs → slice_get xs n ≡ Some y → IsSmall y
some_small [] n y h e = absurd (cc)
some_small (x ∷ xs) zero y h e = let s : x ≡ y = cc in subst IsSmall s h.0
some_small (x ∷ xs) (suc n) y h e = some_small xs n y h.1 e

abbrev KeySmall : Row → Type 0
KeySmall r = AllByRecursion IsSmall r.key.parts

parts_small :
    (n : ℕ) (test : Row → Bool) (db : List Row) → AllByRecursion KeySmall db → AllByRecursion IsSmall (parts_at n (filter test db))
parts_small n test [] h = tt
parts_small n test (r ∷ db) h = by (test r) (slice_get r.key.parts n) refl (parts_small n test db h.1)
  where
    by :
        (b : Bool) (o : Option ℤ) → slice_get r.key.parts n ≡ o → AllByRecursion IsSmall (parts_at n (filter test db))
        → AllByRecursion IsSmall (parts_at n (cond b (r ∷ filter test db) (filter test db)))
    by false o e ih = ih
    by true None e ih = subst (λ z. AllByRecursion IsSmall (with_part z (parts_at n (filter test db)))) (sym e) ih
    by true (Some y) e ih =
        subst (λ z. AllByRecursion IsSmall (with_part z (parts_at n (filter test db)))) (sym e) (some_small r.key.parts n y h.0 e, ih)

best_small :
    (pick : ℤ → ℤ → ℤ) → ((x y : ℤ) → (pick x y ≡ x) ⊎ (pick x y ≡ y)) → (xs : List ℤ) → AllByRecursion IsSmall xs → IsSmall (best pick xs)
best_small pick one_of [] h = omega arith
best_small pick one_of (x ∷ []) h = h.0
best_small pick one_of (x ∷ y ∷ rest) h = by (one_of x (best pick (y ∷ rest))) (best_small pick one_of (y ∷ rest) h.1)
  where
    by :
        (pick x (best pick (y ∷ rest)) ≡ x) ⊎ (pick x (best pick (y ∷ rest)) ≡ best pick (y ∷ rest)) → IsSmall (best pick (y ∷ rest))
        → IsSmall (pick x (best pick (y ∷ rest)))
    by (inl e) ih = subst IsSmall (sym e) h.0
    by (inr e) ih = subst IsSmall (sym e) ih

module _ (d : Design) (db : List Row) (fit : RowsFit d db) where
  keys : AllByRecursion KeySmall db
  keys = by db (recursion_from_All (λ (r : Row). All IsSmall r.key.parts) db fit.keys)
    where
      by : (rows : List Row) → AllByRecursion (λ (r : Row). All IsSmall r.key.parts) rows → AllByRecursion KeySmall rows
      by [] h = tt
      by (r ∷ rows) h = (recursion_from_All IsSmall r.key.parts h.0, by rows h.1)

  count_small : (t : ℕ) (p : List ℤ) → IsSmall (count_of db t p)
  count_small t p =
      let l = count_by-le-length (is_under t p) db in
      let m = fit.few in
      omega (arith, l, m)

  -- a value that has no obligation is small
  pub given_small : (tape : List ℤ) (at : ℕ) (env : List ℤ) (r : Read) → value_asked r ≡ false → IsSmall (read_value db tape at env r)
  given_small tape at env (read.Let y l) h = absurd (false≢true (sym h))
  given_small tape at env (read.Col y t k c) h = absurd (false≢true (sym h))
  given_small tape at env (read.Has y t k) h = has_small (list_any (is_at t (lin_values env k)) db)
  given_small tape at env (read.Count y t p) h = count_small t (lin_values env p)
  given_small tape at env (read.Sum y t p c) h = absurd (false≢true (sym h))
  given_small tape at env (read.Least y t p) h =
      best_small int_min min_one_of _ (parts_small (length (lin_values env p)) (is_under t (lin_values env p)) db keys)
  given_small tape at env (read.Greatest y t p) h =
      best_small int_max max_one_of _ (parts_small (length (lin_values env p)) (is_under t (lin_values env p)) db keys)
  given_small tape at env (read.Take y) h = absurd (false≢true (sym h))
  given_small tape at env (read.Mul y u v) h = absurd (false≢true (sym h))
  given_small tape at env (read.Div y u c) h = absurd (false≢true (sym h))
