-- In rows in order, those of a table whose keys begin with a prefix stand together.
use Rattle.std.proofs.Common.{◌≡◌, ℕ, zero, suc, ◌+◌, ◌-◌, ◌≤◌, ◌<◌, Bool, true, false, cond, List, [], ◌∷◌, length, refl, ap, sym, ◌∙◌}
use Rattle.std.proofs.Common.{subst, arith}
use Rattle.std.proofs.Common.{ℤ, ◌==◌, take, drop, length-drop}
use Rattle.std.specs.Prelude.{filter, ◌&&◌, slice_index_or}
use Rattle.std.specs.List.{starts_with, AllWithin}
use Rattle.std.specs.List.Sorted.{IsNonDecreasingBy, IsPartitionedBy, IsPartitionPoint}
use Rattle.std.specs.Ordering.{nat_cmp, int_cmp, is_eq, is_lt, is_gt, ordering_then, ordering_index}
use Rattle.std.specs.Cmp.Lexicographic.{slice_cmp}
use Rattle.std.specs.declared.cmp.Ordering.{Ordering}
use Rattle.std.specs.declared.cmp.Ordering.TheVariants.{Less, Equal, Greater}
use Rattle.acc_base.specs.declared.tables.Row.{Row}
use Rattle.acc_base.specs.Tables.{Place, place_of, place_cmp, is_under}
use Rattle.acc_base.proofs.Places.{place_total, one_place, is_equal}
use Rattle.acc_base.proofs.RowOrder.{InOrder, ArePast}
use Rattle.tpcc_tables.specs.Fronts.{front_cmp, is_before}
use Rattle.tpcc_tables.proofs.RowFacts.{equal_itself, under, under_is}

-- ---- fronts rise with the keys

take_rises : (n : ℕ) (xs ys : List ℤ) → slice_cmp int_cmp xs ys ≡ Less → is_gt (slice_cmp int_cmp (take n xs) (take n ys)) ≡ false
take_rises zero xs ys h = refl
take_rises (suc n) [] [] h = refl
take_rises (suc n) [] (y ∷ ys) h = refl
take_rises (suc n) (x ∷ xs) [] h = cc
take_rises (suc n) (x ∷ xs) (y ∷ ys) h = by (int_cmp x y) h (take_rises n xs ys)
  where
    by : (o : Ordering) → ordering_then o (slice_cmp int_cmp xs ys) ≡ Less
        → (slice_cmp int_cmp xs ys ≡ Less → is_gt (slice_cmp int_cmp (take n xs) (take n ys)) ≡ false)
        → is_gt (ordering_then o (slice_cmp int_cmp (take n xs) (take n ys))) ≡ false
    by Less g ih = refl
    by Equal g ih = ih g
    by Greater g ih = cc

front_rises : (n : ℕ) (a b : Row) → place_cmp (place_of a) (place_of b) ≡ Less
    → is_gt (place_cmp (a.table, take n a.key.parts) (b.table, take n b.key.parts)) ≡ false
front_rises n a b h = by (nat_cmp a.table b.table) h
  where
    by : (o : Ordering) → ordering_then o (slice_cmp int_cmp a.key.parts b.key.parts) ≡ Less
        → is_gt (ordering_then o (slice_cmp int_cmp (take n a.key.parts) (take n b.key.parts))) ≡ false
    by Less g = refl
    by Equal g = take_rises n a.key.parts b.key.parts g
    by Greater g = cc

index_most : (o : Ordering) → ordering_index o ≤ 2
index_most Less = omega arith
index_most Equal = omega arith
index_most Greater = omega arith

-- what isn't greater stands no further
no_further : (a b q : Place) → is_gt (place_cmp a b) ≡ false → ordering_index (place_cmp a q) ≤ ordering_index (place_cmp b q)
no_further a b q h = by (place_cmp a b) refl h
  where
    less : (o : Ordering) → place_cmp a b ≡ Less → place_cmp b q ≡ o → ordering_index (place_cmp a q) ≤ ordering_index o
    less Less e g = subst (λ x. ordering_index x ≤ 0) (sym (place_total.trans a b q e g)) (omega arith)
    less Equal e g =
        let f : place_cmp a q ≡ Less = subst (λ x. place_cmp a x ≡ Less) (one_place b q g) e in
        subst (λ x. ordering_index x ≤ 1) (sym f) (omega arith)
    less Greater e g = index_most (place_cmp a q)

    by : (o : Ordering) → place_cmp a b ≡ o → is_gt o ≡ false → ordering_index (place_cmp a q) ≤ ordering_index (place_cmp b q)
    by Less e g = less (place_cmp b q) e refl
    by Equal e g = subst (λ x. ordering_index (place_cmp a q) ≤ ordering_index (place_cmp x q)) (one_place a b e) (omega arith)
    by Greater e g = cc

past_at : (p : Place) (rows : List Row) (j : ℕ) (d : Row) → ArePast p rows → j < length rows
    → place_cmp p (place_of (slice_index_or rows j d)) ≡ Less
past_at p [] j d h l = absurd (omega (arith, l))
past_at p (r ∷ rows) zero d h l = h.0
past_at p (r ∷ rows) (suc j) d h l = past_at p rows j d h.1 (omega (arith, l))

module _ (t : ℕ) (p : List ℤ) where
  abbrev rank : Row → ℕ
  rank r = ordering_index (front_cmp t p r)

  ranks_rise : (rows : List Row) → InOrder rows → IsNonDecreasingBy rank rows
  ranks_rise [] h i j d le l = absurd (omega (arith, l))
  ranks_rise (r ∷ rows) h zero zero d le l = omega arith
  ranks_rise (r ∷ rows) h zero (suc j) d le l =
      let x = slice_index_or rows j d in
      no_further (r.table, take (length p) r.key.parts) (x.table, take (length p) x.key.parts) (t, p)
      (front_rises (length p) r x (past_at (place_of r) rows j d h.0 (omega (arith, l))))
  ranks_rise (r ∷ rows) h (suc i) zero d le l = absurd (omega (arith, le))
  ranks_rise (r ∷ rows) h (suc i) (suc j) d le l = ranks_rise rows h.1 i j d (omega (arith, le)) (omega (arith, l))

  -- ---- tests by rank

  before_rank : (o : Ordering) → is_lt o ≡ true → ordering_index o ≡ 0
  before_rank Less h = refl
  before_rank Equal h = cc
  before_rank Greater h = cc

  rank_before : (o : Ordering) → ordering_index o ≡ 0 → is_lt o ≡ true
  rank_before Less h = refl
  rank_before Equal h = absurd (omega (arith, h))
  rank_before Greater h = absurd (omega (arith, h))

  rank_equal : (o : Ordering) → ordering_index o ≤ 1 → is_lt o ≡ false → o ≡ Equal
  rank_equal Less h g = cc
  rank_equal Equal h g = refl
  rank_equal Greater h g = absurd (omega (arith, h))

  under_equal : (r : Row) → is_under t p r ≡ true → front_cmp t p r ≡ Equal
  under_equal r h =
      let u = under_is t p r h in
      let e : (r.table, take (length p) r.key.parts) ≡ (t, p) = λ i. (u.0 i, sym u.1 i) in
      subst (λ (q : Place). place_cmp q (t, p) ≡ Equal) (sym e) (equal_itself (t, p))

  equal_under : (r : Row) → front_cmp t p r ≡ Equal → is_under t p r ≡ true
  equal_under r h =
      let e = one_place (r.table, take (length p) r.key.parts) (t, p) h in
      under t p r (λ i. (e i).0) (sym (λ i. (e i).1))

  pub before_parts : (rows : List Row) → InOrder rows → IsPartitionedBy (is_before t p) rows
  before_parts rows h i j d le l b =
      let x = slice_index_or rows i d in
      let y = slice_index_or rows j d in
      let up = ranks_rise rows h i j d le l in
      let zero_there = before_rank (front_cmp t p y) b in
      rank_before (front_cmp t p x) (omega (arith, up, zero_there))

  drop_order : (n : ℕ) (rows : List Row) → InOrder rows → InOrder (drop n rows)
  drop_order zero rows h = h
  drop_order (suc n) [] h = h
  drop_order (suc n) (r ∷ rows) h = drop_order n rows h.1

  -- rows none of which stands before
  pub under_parts : (rows : List Row) → InOrder rows → AllWithin (λ r. is_before t p r ≡ false) rows 0 (length rows)
      → IsPartitionedBy (is_under t p) rows
  under_parts rows h none i j d le l u =
      let x = slice_index_or rows i d in
      let y = slice_index_or rows j d in
      let up = ranks_rise rows h i j d le l in
      let there : ordering_index (front_cmp t p y) ≡ 1 = ap ordering_index (under_equal y u) in
      equal_under x (rank_equal (front_cmp t p x) (omega (arith, up, there)) (none i d (omega arith) (omega (arith, le, l))))

  before_not_under : (r : Row) → is_before t p r ≡ true → is_under t p r ≡ false
  before_not_under r h = by (is_under t p r) refl
    where
      by : (b : Bool) → is_under t p r ≡ b → b ≡ false
      by true e =
          let q : is_lt (front_cmp t p r) ≡ false = ap is_lt (under_equal r e) in
          let f : true ≡ false = sym h ∙ q in cc
      by false e = refl

-- ---- what a filter keeps of parted rows

filter_front : (test : Row → Bool) (xs : List Row) (n : ℕ) → n ≤ length xs
    → IsPartitionPoint (λ r. test r ≡ true) (λ r. test r ≡ false) xs n
    → filter test xs ≡ take n xs
filter_front test [] zero l h = refl
filter_front test [] (suc n) l h = absurd (omega (arith, l))
filter_front test (x ∷ xs) zero l h =
    ap (λ b. cond b (x ∷ filter test xs) (filter test xs)) (h.1 0 x (omega arith) (omega arith))
    ∙ filter_front test xs zero (omega arith)
    ((λ k d a b. absurd (omega (arith, b))), (λ k d a b. h.1 (suc k) d (omega arith) (omega (arith, b))))
filter_front test (x ∷ xs) (suc n) l h =
    ap (λ b. cond b (x ∷ filter test xs) (filter test xs)) (h.0 0 x (omega arith) (omega arith))
    ∙ ap (λ ys. x ∷ ys) (filter_front test xs n (omega (arith, l))
    ((λ k d a b. h.0 (suc k) d (omega arith) (omega (arith, b))), (λ k d a b. h.1 (suc k) d (omega (arith, a)) (omega (arith, b)))))

filter_skip : (test : Row → Bool) (xs : List Row) (n : ℕ) → n ≤ length xs → AllWithin (λ r. test r ≡ false) xs 0 n
    → filter test xs ≡ filter test (drop n xs)
filter_skip test xs zero l h = refl
filter_skip test [] (suc n) l h = absurd (omega (arith, l))
filter_skip test (x ∷ xs) (suc n) l h =
    ap (λ b. cond b (x ∷ filter test xs) (filter test xs)) (h 0 x (omega arith) (omega arith))
    ∙ filter_skip test xs n (omega (arith, l)) (λ k d a b. h (suc k) d (omega arith) (omega (arith, b)))

drop_within : (P : Row → Type 0) (xs : List Row) (n : ℕ) → AllWithin P xs n (length xs) → AllWithin P (drop n xs) 0 (length (drop n xs))
drop_within P xs zero h = h
drop_within P [] (suc n) h = λ k d a b. absurd (omega (arith, b))
drop_within P (x ∷ xs) (suc n) h = drop_within P xs n (λ k d a b. h (suc k) d (omega (arith, a)) (omega (arith, b)))

module _ (t : ℕ) (p : List ℤ) where
  -- none of the rows from where no row stands before
  pub rest_parts : (rows : List Row) (n : ℕ) → InOrder rows
      → IsPartitionPoint (λ r. is_before t p r ≡ true) (λ r. is_before t p r ≡ false) rows n → IsPartitionedBy (is_under t p) (drop n rows)
  rest_parts rows n h at =
      under_parts t p (drop n rows) (drop_order t p n rows h) (drop_within (λ r. is_before t p r ≡ false) rows n at.1)

  pub parted : (rows : List Row) (n m : ℕ) → n ≤ length rows → m ≤ length (drop n rows)
      → IsPartitionPoint (λ r. is_before t p r ≡ true) (λ r. is_before t p r ≡ false) rows n
      → IsPartitionPoint (λ r. is_under t p r ≡ true) (λ r. is_under t p r ≡ false) (drop n rows) m
      → take m (drop n rows) ≡ filter (is_under t p) rows
  parted rows n m l k at to =
      sym (filter_skip (is_under t p) rows n l (λ i d a b. before_not_under t p (slice_index_or rows i d) (at.0 i d a b))
      ∙ filter_front (is_under t p) (drop n rows) m k to)

take_all : (xs : List Row) → take (length xs) xs ≡ xs
take_all [] = refl
take_all (x ∷ xs) = ap (λ ys. x ∷ ys) (take_all xs)

pub rest_whole : (n : ℕ) (xs : List Row) → take (length xs - n) (drop n xs) ≡ drop n xs
rest_whole n xs = ap (λ k. take k (drop n xs)) (sym (length-drop n xs)) ∙ take_all (drop n xs)
