-- Each condition, of a row that idle rows of the shipped design have.
use Rattle.std.proofs.Common.{◌≡◌, ◌⊎◌, inl, inr, ℕ, ◌≤◌, Bool, true, false, List, [], ◌∷◌, length, map, refl, ap, sym, ◌∙◌, subst, arith}
use Rattle.std.proofs.Common.{ℤ, pos, ◌+ℤ◌, ◌-ℤ◌, ◌<ℤ◌, ◌≤ℤ◌, ◌==◌, take, Some, if◌then◌else◌}
use Rattle.std.specs.Prelude.{slice_get, count_by, ◌&&◌, ◌||◌}
use Rattle.std.specs.List.{list_any, starts_with}
use Rattle.std.specs.Ordering.{int_eq}
use Rattle.std.specs.Cmp.Lexicographic.{pointwise}
use Rattle.std.proofs.lemmas.Int.{ints, by_lt_z}
use Rattle.std.proofs.lemmas.Bool.Decides.{Decides-int_eq, Decides-eqb}
use Rattle.acc_base.specs.declared.tables.Row.{Row}
use Rattle.acc_base.specs.Tables.{is_at, is_under, cell, has_row, column_of, count_of, sum_of, least_of, greatest_of}
use Rattle.tpcc_tables.specs.declared.tables.TableSet.{TableSet}
use Rattle.tpcc_tables.specs.Conditions.{order_key, same}
use Rattle.tpcc_tables.proofs.RowFacts.{both, Among, Passing, has_here, column_here, there, place_there, counted, some_counted, same_count}
use Rattle.tpcc_tables.proofs.RowFacts.{no_greatest, greatest_is, least_is, under, under_is, zero_or_one}
use Rattle.tpcc_steps.proofs.Facts as facts
use Rattle.tpcc_steps.proofs.Facts.{IsShippedIdle}

equal : (x y : ℤ) → x ≡ y → int_eq x y ≡ true
equal x y h = (Decides-int_eq x y).1 h

unequal : (x y : ℤ) → (x ≡ y → ⊥) → int_eq x y ≡ false
unequal x y h = by (int_eq x y) refl
  where
    by : (b : Bool) → int_eq x y ≡ b → b ≡ false
    by true e = absurd (h ((Decides-int_eq x y).0 e))
    by false e = refl

either : (a b : Bool) → (a ≡ false → b ≡ true) → (a || b) ≡ true
either true b h = refl
either false b h = h refl

-- numbers that are 0 both or neither
both_zero : (x y : ℤ) → x ≡ pos 0 → y ≡ pos 0 → same (int_eq x (pos 0)) (int_eq y (pos 0)) ≡ true
both_zero x y h g =
    ap (λ a. same a (int_eq y (pos 0))) (equal x (pos 0) h) ∙ equal y (pos 0) g

none_zero : (x y : ℤ) → pos 1 ≤ℤ x → pos 1 ≤ℤ y → same (int_eq x (pos 0)) (int_eq y (pos 0)) ≡ true
none_zero x y h g =
    ap (λ a. same a (int_eq y (pos 0))) (unequal x (pos 0) (λ e. omega (arith, ints, e, h)))
    ∙ ap (λ b. same false b) (unequal y (pos 0) (λ e. omega (arith, ints, e, g)))

module _ (db : List Row) (f : IsShippedIdle db) where
  -- ---- sums

  pub warehouse_districts : (k : List ℤ) → length k ≡ 1 → int_eq (column_of db 0 k 0) (sum_of db 1 k 0) ≡ true
  warehouse_districts [] h = absurd (omega (arith, h))
  warehouse_districts (w ∷ []) h = equal (column_of db 0 (w ∷ []) 0) (sum_of db 1 (w ∷ []) 0) (facts.warehouse_districts db f w)
  warehouse_districts (w ∷ x ∷ k) h = absurd (omega (arith, h))

  pub warehouse_payments : (k : List ℤ) → length k ≡ 1 → int_eq (column_of db 0 k 0) (sum_of db 3 k 0) ≡ true
  warehouse_payments [] h = absurd (omega (arith, h))
  warehouse_payments (w ∷ []) h = equal (column_of db 0 (w ∷ []) 0) (sum_of db 3 (w ∷ []) 0) (facts.warehouse_payments db f w)
  warehouse_payments (w ∷ x ∷ k) h = absurd (omega (arith, h))

  pub district_payments : (k : List ℤ) → length k ≡ 2 → int_eq (column_of db 1 k 0) (sum_of db 3 k 0) ≡ true
  district_payments [] h = absurd (omega (arith, h))
  district_payments (w ∷ []) h = absurd (omega (arith, h))
  district_payments (w ∷ d ∷ []) h = equal (column_of db 1 (w ∷ d ∷ []) 0) (sum_of db 3 (w ∷ d ∷ []) 0) (facts.district_payments db f w d)
  district_payments (w ∷ d ∷ x ∷ k) h = absurd (omega (arith, h))

  pub district_lines : (k : List ℤ) → length k ≡ 2 → int_eq (sum_of db 6 k 2) (count_of db 8 k) ≡ true
  district_lines [] h = absurd (omega (arith, h))
  district_lines (w ∷ []) h = absurd (omega (arith, h))
  district_lines (w ∷ d ∷ []) h = equal (sum_of db 6 (w ∷ d ∷ []) 2) (count_of db 8 (w ∷ d ∷ [])) (facts.district_lines db f w d)
  district_lines (w ∷ d ∷ x ∷ k) h = absurd (omega (arith, h))

  -- ---- the first and the last orders

  -- a row of three parts below two
  three : (w d x : ℤ) (k : List ℤ) → length k ≡ 3 → w ∷ d ∷ [] ≡ take 2 k → slice_get k 2 ≡ Some x → k ≡ w ∷ d ∷ x ∷ []
  three w d x [] h e s = absurd (omega (arith, h))
  three w d x (a ∷ []) h e s = absurd (omega (arith, h))
  three w d x (a ∷ b ∷ []) h e s = absurd (omega (arith, h))
  three w d x (a ∷ b ∷ c ∷ []) h e s = cc
  three w d x (a ∷ b ∷ c ∷ y ∷ k) h e s = absurd (omega (arith, h))

  -- a row of these is there
  is_there : (t : ℕ) (w d x : ℤ) (r : Row) → Among r db → ((r : Row) → Among r db → r.table ≡ t → length r.key.parts ≡ 3)
      → is_under t (w ∷ d ∷ []) r ≡ true → slice_get r.key.parts 2 ≡ Some x → has_row db t (w ∷ d ∷ x ∷ []) ≡ pos 1
  is_there t w d x r m long u s =
      let b = under_is t (w ∷ d ∷ []) r u in
      has_here db r t (w ∷ d ∷ x ∷ []) f.order m b.0 (three w d x r.key.parts (long r m b.0) b.1 s)

  of_three : (t : ℕ) (w d x : ℤ) (r : Row) → is_at t (w ∷ d ∷ x ∷ []) r ≡ true
      → (is_under t (w ∷ d ∷ []) r ≡ true) × (slice_get r.key.parts 2 ≡ Some x)
  of_three t w d x r h =
      let p = place_there t (w ∷ d ∷ x ∷ []) r h in
      (under t (w ∷ d ∷ []) r (sym p.0) (ap (take 2) p.1), ap (λ k. slice_get k 2) (sym p.1))

  -- the last one is the greatest
  greatest_there : (t : ℕ) (w d m : ℤ) → ((r : Row) → Among r db → r.table ≡ t → length r.key.parts ≡ 3)
      → has_row db t (w ∷ d ∷ m ∷ []) ≡ pos 1 → ((x : ℤ) → has_row db t (w ∷ d ∷ x ∷ []) ≡ pos 1 → x ≤ℤ m)
      → greatest_of db t (w ∷ d ∷ []) ≡ m
  greatest_there t w d m long h g =
      let p = there db t (w ∷ d ∷ m ∷ []) h in
      let o = of_three t w d m p.row p.passes in
      greatest_is db t (w ∷ d ∷ []) p.row m p.among o.0 o.1 (λ s x a u y. g x (is_there t w d x s a long u y))

  least_there : (t : ℕ) (w d m : ℤ) → ((r : Row) → Among r db → r.table ≡ t → length r.key.parts ≡ 3)
      → has_row db t (w ∷ d ∷ m ∷ []) ≡ pos 1 → ((x : ℤ) → has_row db t (w ∷ d ∷ x ∷ []) ≡ pos 1 → m ≤ℤ x)
      → least_of db t (w ∷ d ∷ []) ≡ m
  least_there t w d m long h g =
      let p = there db t (w ∷ d ∷ m ∷ []) h in
      let o = of_three t w d m p.row p.passes in
      least_is db t (w ∷ d ∷ []) p.row m p.among o.0 o.1 (λ s x a u y. g x (is_there t w d x s a long u y))

  waits_long : (r : Row) → Among r db → r.table ≡ 5 → length r.key.parts ≡ 3
  waits_long r m e = f.width r m 5 e

  orders_long : (r : Row) → Among r db → r.table ≡ 6 → length r.key.parts ≡ 3
  orders_long r m e = f.width r m 6 e

  -- no order is as late as the next
  below_next : (w d x : ℤ) → has_row db 6 (w ∷ d ∷ x ∷ []) ≡ pos 1 → x ≤ℤ (column_of db 1 (w ∷ d ∷ []) 2 -ℤ pos 1)
  below_next w d x h =
      by_lt_z x (column_of db 1 (w ∷ d ∷ []) 2) (λ l. omega (arith, ints, l))
      (λ l. let n = facts.no_later db f w d x l in absurd (omega (arith, ints, n, h)))

  waits_below_next : (w d x : ℤ) → has_row db 5 (w ∷ d ∷ x ∷ []) ≡ pos 1 → x ≤ℤ (column_of db 1 (w ∷ d ∷ []) 2 -ℤ pos 1)
  waits_below_next w d x h =
      by_lt_z x (column_of db 1 (w ∷ d ∷ []) 2) (λ l. omega (arith, ints, l))
      (λ l. let n = facts.no_later_waits db f w d x l in absurd (omega (arith, ints, n, h)))

  next_from_one : (w d : ℤ) → has_row db 1 (w ∷ d ∷ []) ≡ pos 1 → pos 1 ≤ℤ column_of db 1 (w ∷ d ∷ []) 2
  next_from_one w d h =
      let l = facts.low_number db f w d in
      let c = facts.waiting db f w d in
      let z : pos 0 ≤ℤ count_of db 5 (w ∷ d ∷ []) = omega (arith, ints) in
      omega (arith, ints, l, c, z, h)

  last_order : (w d : ℤ) → has_row db 1 (w ∷ d ∷ []) ≡ pos 1
      → column_of db 1 (w ∷ d ∷ []) 2 -ℤ pos 1 ≡ greatest_of db 6 (w ∷ d ∷ [])
  last_order w d h =
      let n = next_from_one w d h in
      by_lt_z (pos 1) (column_of db 1 (w ∷ d ∷ []) 2)
      (λ l. sym (greatest_there 6 w d (column_of db 1 (w ∷ d ∷ []) 2 -ℤ pos 1) orders_long
      (facts.each_between db f w d (column_of db 1 (w ∷ d ∷ []) 2 -ℤ pos 1) (omega (arith, ints, l)) (omega (arith, ints)))
      (below_next w d)))
      (λ l. let none = no_greatest db 6 (w ∷ d ∷ []) (λ r m u. no_row l r m u) in omega (arith, ints, l, n, none))
    where
      no_part : (k : List ℤ) → length k ≡ 3 → (x : ℤ) × (slice_get k 2 ≡ Some x)
      no_part [] h = absurd (omega (arith, h))
      no_part (a ∷ []) h = absurd (omega (arith, h))
      no_part (a ∷ b ∷ []) h = absurd (omega (arith, h))
      no_part (a ∷ b ∷ c ∷ k) h = (c, refl)

      no_row : column_of db 1 (w ∷ d ∷ []) 2 ≤ℤ pos 1 → (r : Row) → Among r db → is_under 6 (w ∷ d ∷ []) r ≡ true → ⊥
      no_row l r m u =
          let x = no_part r.key.parts (orders_long r m (under_is 6 (w ∷ d ∷ []) r u).0) in
          let here = is_there 6 w d x.0 r m orders_long u x.1 in
          let most = below_next w d x.0 here in
          let none = facts.no_earlier db f w d x.0 (omega (arith, ints, l, most)) in
          omega (arith, ints, here, none)

  last_waits : (w d : ℤ) → pos 1 ≤ℤ count_of db 5 (w ∷ d ∷ [])
      → column_of db 1 (w ∷ d ∷ []) 2 -ℤ pos 1 ≡ greatest_of db 5 (w ∷ d ∷ [])
  last_waits w d h =
      let c = facts.waiting db f w d in
      sym (greatest_there 5 w d (column_of db 1 (w ∷ d ∷ []) 2 -ℤ pos 1) waits_long
      (facts.each_waits db f w d (column_of db 1 (w ∷ d ∷ []) 2 -ℤ pos 1) (omega (arith, ints, c, h)) (omega (arith, ints)))
      (waits_below_next w d))

  first_waits : (w d : ℤ) → pos 1 ≤ℤ count_of db 5 (w ∷ d ∷ [])
      → column_of db 1 (w ∷ d ∷ []) 3 ≡ least_of db 5 (w ∷ d ∷ [])
  first_waits w d h =
      let c = facts.waiting db f w d in
      sym (least_there 5 w d (column_of db 1 (w ∷ d ∷ []) 3) waits_long
      (facts.each_waits db f w d (column_of db 1 (w ∷ d ∷ []) 3) (omega (arith, ints)) (omega (arith, ints, c, h)))
      (λ x g. facts.no_earlier_waits db f w d x g))

  -- what isn't 0 is at least 1
  some_of : (n : ℕ) → int_eq (pos n) (pos 0) ≡ false → pos 1 ≤ℤ pos n
  some_of n h = by_lt_z (pos 0) (pos n) (λ l. omega (arith, ints, l))
      (λ l. let e : int_eq (pos n) (pos 0) ≡ true = equal (pos n) (pos 0) (omega (arith, ints, l)) in
      let g : true ≡ false = sym e ∙ h in absurd (cc))

  pub last_orders : (k : List ℤ) → length k ≡ 2 → has_row db 1 k ≡ pos 1
      → (int_eq (column_of db 1 k 2 -ℤ pos 1) (greatest_of db 6 k)
      && (int_eq (count_of db 5 k) (pos 0) || int_eq (column_of db 1 k 2 -ℤ pos 1) (greatest_of db 5 k))) ≡ true
  last_orders [] h r = absurd (omega (arith, h))
  last_orders (w ∷ []) h r = absurd (omega (arith, h))
  last_orders (w ∷ d ∷ []) h r =
      both (int_eq (column_of db 1 (w ∷ d ∷ []) 2 -ℤ pos 1) (greatest_of db 6 (w ∷ d ∷ [])))
      (int_eq (count_of db 5 (w ∷ d ∷ [])) (pos 0) || int_eq (column_of db 1 (w ∷ d ∷ []) 2 -ℤ pos 1) (greatest_of db 5 (w ∷ d ∷ [])))
      (equal (column_of db 1 (w ∷ d ∷ []) 2 -ℤ pos 1) (greatest_of db 6 (w ∷ d ∷ [])) (last_order w d r))
      (either (int_eq (count_of db 5 (w ∷ d ∷ [])) (pos 0))
      (int_eq (column_of db 1 (w ∷ d ∷ []) 2 -ℤ pos 1) (greatest_of db 5 (w ∷ d ∷ [])))
      (λ n. equal (column_of db 1 (w ∷ d ∷ []) 2 -ℤ pos 1) (greatest_of db 5 (w ∷ d ∷ []))
      (last_waits w d (some_of (count_by (is_under 5 (w ∷ d ∷ [])) db) n))))
  last_orders (w ∷ d ∷ x ∷ k) h r = absurd (omega (arith, h))

  pub waiting_orders : (k : List ℤ) → length k ≡ 2
      → (int_eq (count_of db 5 k) (pos 0) || int_eq ((greatest_of db 5 k -ℤ least_of db 5 k) +ℤ pos 1) (count_of db 5 k)) ≡ true
  waiting_orders [] h = absurd (omega (arith, h))
  waiting_orders (w ∷ []) h = absurd (omega (arith, h))
  waiting_orders (w ∷ d ∷ []) h =
      either (int_eq (count_of db 5 (w ∷ d ∷ [])) (pos 0))
      (int_eq ((greatest_of db 5 (w ∷ d ∷ []) -ℤ least_of db 5 (w ∷ d ∷ [])) +ℤ pos 1) (count_of db 5 (w ∷ d ∷ [])))
      (λ n. let some = some_of (count_by (is_under 5 (w ∷ d ∷ [])) db) n in
      let g = last_waits w d some in
      let l = first_waits w d some in
      let c = facts.waiting db f w d in
      equal ((greatest_of db 5 (w ∷ d ∷ []) -ℤ least_of db 5 (w ∷ d ∷ [])) +ℤ pos 1) (count_of db 5 (w ∷ d ∷ []))
      (omega (arith, ints, g, l, c)))
  waiting_orders (w ∷ d ∷ x ∷ k) h = absurd (omega (arith, h))

  -- ---- orders and their lines

  pub carriers : (k : List ℤ) → length k ≡ 3 → has_row db 6 k ≡ pos 1
      → same (int_eq (column_of db 6 k 1) (pos 0)) (list_any (is_at 5 k) db) ≡ true
  carriers [] h r = absurd (omega (arith, h))
  carriers (w ∷ []) h r = absurd (omega (arith, h))
  carriers (w ∷ d ∷ []) h r = absurd (omega (arith, h))
  carriers (w ∷ d ∷ o ∷ []) h r = by (list_any (is_at 5 (w ∷ d ∷ o ∷ [])) db) refl
    where
      by : (b : Bool) → list_any (is_at 5 (w ∷ d ∷ o ∷ [])) db ≡ b
          → same (int_eq (column_of db 6 (w ∷ d ∷ o ∷ []) 1) (pos 0)) b ≡ true
      by true e =
          let n : has_row db 5 (w ∷ d ∷ o ∷ []) ≡ pos 1 = ap (λ b. if b then pos 1 else pos 0) e in
          let most = facts.no_carrier db f w d o n in
          let least = facts.carrier_least db f w d o in
          ap (λ a. same a true) (equal (column_of db 6 (w ∷ d ∷ o ∷ []) 1) (pos 0) (omega (arith, ints, most, least)))
      by false e =
          let n : has_row db 5 (w ∷ d ∷ o ∷ []) ≡ pos 0 = ap (λ b. if b then pos 1 else pos 0) e in
          let some = facts.some_carrier db f w d o r n in
          ap (λ a. same a false) (unequal (column_of db 6 (w ∷ d ∷ o ∷ []) 1) (pos 0) (λ z. omega (arith, ints, some, z)))
  carriers (w ∷ d ∷ o ∷ x ∷ k) h r = absurd (omega (arith, h))

  -- four tests, one of which follows from the others
  four : (a b c e : Bool) → (a ≡ true → b ≡ true → e ≡ true → c ≡ true)
      → (a && (b && (e && true))) ≡ (a && (b && (c && (e && true))))
  four false b c e h = refl
  four true false c e h = refl
  four true true true e h = refl
  four true true false true h = sym (h refl refl refl)
  four true true false false h = refl

  pub order_lines : (k : List ℤ) → length k ≡ 3
      → int_eq (column_of db 6 k 2) (pos (count_by (λ r. (r.table == 8) && pointwise int_eq k (order_key r.key.parts)) db)) ≡ true
  order_lines [] h = absurd (omega (arith, h))
  order_lines (w ∷ []) h = absurd (omega (arith, h))
  order_lines (w ∷ d ∷ []) h = absurd (omega (arith, h))
  order_lines (w ∷ d ∷ o ∷ []) h =
      equal (column_of db 6 (w ∷ d ∷ o ∷ []) 2)
      (pos (count_by (λ r. (r.table == 8) && pointwise int_eq (w ∷ d ∷ o ∷ []) (order_key r.key.parts)) db))
      (sym (facts.its_lines db f w d (column_of db 6 (w ∷ d ∷ o ∷ []) 0) o refl)
      ∙ ap pos (sym (same_count (λ r. (r.table == 8) && pointwise int_eq (w ∷ d ∷ o ∷ []) (order_key r.key.parts))
      (is_under 8 (w ∷ d ∷ column_of db 6 (w ∷ d ∷ o ∷ []) 0 ∷ o ∷ [])) db alike)))
    where
      -- a line of the order is of the order's customer
      customer : (r : Row) → Among r db → r.table ≡ 8 → (c x : ℤ) → r.key.parts ≡ w ∷ d ∷ c ∷ o ∷ x ∷ []
          → column_of db 6 (w ∷ d ∷ o ∷ []) 0 ≡ c
      customer r m t c x k =
          let some = counted (is_under 8 (w ∷ d ∷ c ∷ o ∷ [])) db r m (under 8 (w ∷ d ∷ c ∷ o ∷ []) r t (ap (take 4) (sym k))) in
          by_lt_z c (column_of db 6 (w ∷ d ∷ o ∷ []) 0)
          (λ l. let n = facts.no_lines_before db f w d c o (omega (arith, ints, l)) in absurd (omega (arith, ints, n, some)))
          (λ l. by_lt_z (column_of db 6 (w ∷ d ∷ o ∷ []) 0) c
          (λ g. let n = facts.no_lines_behind db f w d c o (omega (arith, ints, g)) in absurd (omega (arith, ints, n, some)))
          (λ g. omega (arith, ints, l, g)))

      parts : (r : Row) → Among r db → r.table ≡ 8 → (key : List ℤ) → r.key.parts ≡ key → length key ≡ 5
          → pointwise int_eq (w ∷ d ∷ o ∷ []) (order_key key)
          ≡ starts_with int_eq key (w ∷ d ∷ column_of db 6 (w ∷ d ∷ o ∷ []) 0 ∷ o ∷ [])
      parts r m t [] k n = absurd (omega (arith, n))
      parts r m t (a ∷ []) k n = absurd (omega (arith, n))
      parts r m t (a ∷ b ∷ []) k n = absurd (omega (arith, n))
      parts r m t (a ∷ b ∷ c ∷ []) k n = absurd (omega (arith, n))
      parts r m t (a ∷ b ∷ c ∷ e ∷ []) k n = absurd (omega (arith, n))
      parts r m t (a ∷ b ∷ c ∷ e ∷ x ∷ []) k n =
          four (int_eq w a) (int_eq d b) (int_eq (column_of db 6 (w ∷ d ∷ o ∷ []) 0) c) (int_eq o e)
          (λ p q s. equal (column_of db 6 (w ∷ d ∷ o ∷ []) 0) c
          (let wa = (Decides-int_eq w a).0 p in
          let db' = (Decides-int_eq d b).0 q in
          let oe = (Decides-int_eq o e).0 s in
          customer r m t c x (k ∙ (λ i. sym wa i ∷ sym db' i ∷ c ∷ sym oe i ∷ x ∷ []))))
      parts r m t (a ∷ b ∷ c ∷ e ∷ x ∷ y ∷ key) k n = absurd (omega (arith, n))

      alike : (r : Row) → Among r db
          → ((r.table == 8) && pointwise int_eq (w ∷ d ∷ o ∷ []) (order_key r.key.parts))
          ≡ is_under 8 (w ∷ d ∷ column_of db 6 (w ∷ d ∷ o ∷ []) 0 ∷ o ∷ []) r
      alike r m = by (r.table == 8) refl
        where
          by : (b : Bool) → (r.table == 8) ≡ b
              → (b && pointwise int_eq (w ∷ d ∷ o ∷ []) (order_key r.key.parts))
              ≡ (b && starts_with int_eq r.key.parts (w ∷ d ∷ column_of db 6 (w ∷ d ∷ o ∷ []) 0 ∷ o ∷ []))
          by true e = let t = (Decides-eqb r.table 8).0 e in parts r m t r.key.parts refl (f.width r m 8 t)
          by false e = refl
  order_lines (w ∷ d ∷ o ∷ x ∷ k) h = absurd (omega (arith, h))

  pub dates : (r : Row) → Among r db → r.table ≡ 8 → (k : List ℤ) → r.key.parts ≡ k → length k ≡ 5
      → same (int_eq (column_of db 8 k 4) (pos 0)) (int_eq (column_of db 6 (order_key k) 1) (pos 0)) ≡ true
  dates r m t [] e n = absurd (omega (arith, n))
  dates r m t (a ∷ []) e n = absurd (omega (arith, n))
  dates r m t (a ∷ b ∷ []) e n = absurd (omega (arith, n))
  dates r m t (a ∷ b ∷ c ∷ []) e n = absurd (omega (arith, n))
  dates r m t (a ∷ b ∷ c ∷ g ∷ []) e n = absurd (omega (arith, n))
  dates r m t (w ∷ d ∷ c ∷ o ∷ x ∷ []) e n = by (zero_or_one db 5 (w ∷ d ∷ o ∷ []))
    where
      here : has_row db 8 (w ∷ d ∷ c ∷ o ∷ x ∷ []) ≡ pos 1
      here = has_here db r 8 (w ∷ d ∷ c ∷ o ∷ x ∷ []) f.order m t e

      order : has_row db 6 (w ∷ d ∷ o ∷ []) ≡ pos 1
      order =
          let some = counted (is_under 8 (w ∷ d ∷ c ∷ o ∷ [])) db r m (under 8 (w ∷ d ∷ c ∷ o ∷ []) r t (ap (take 4) (sym e))) in
          facts.order_of_lines db f w d c o (omega (arith, ints, some))

      by : (has_row db 5 (w ∷ d ∷ o ∷ []) ≡ pos 0) ⊎ (has_row db 5 (w ∷ d ∷ o ∷ []) ≡ pos 1)
          → same (int_eq (column_of db 8 (w ∷ d ∷ c ∷ o ∷ x ∷ []) 4) (pos 0)) (int_eq (column_of db 6 (w ∷ d ∷ o ∷ []) 1) (pos 0)) ≡ true
      by (inl none) =
          none_zero (column_of db 8 (w ∷ d ∷ c ∷ o ∷ x ∷ []) 4) (column_of db 6 (w ∷ d ∷ o ∷ []) 1)
          (facts.some_date db f w d c o x here none) (facts.some_carrier db f w d o order none)
      by (inr waits) =
          let a = facts.date_least db f w d c o x in
          let b = facts.no_date db f w d c o x waits in
          let p = facts.carrier_least db f w d o in
          let q = facts.no_carrier db f w d o waits in
          both_zero (column_of db 8 (w ∷ d ∷ c ∷ o ∷ x ∷ []) 4) (column_of db 6 (w ∷ d ∷ o ∷ []) 1)
          (omega (arith, ints, a, b)) (omega (arith, ints, p, q))
  dates r m t (a ∷ b ∷ c ∷ g ∷ x ∷ y ∷ k) e n = absurd (omega (arith, n))
