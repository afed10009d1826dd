-- What idle rows of the shipped design give, in words of rows.
use Rattle.std.proofs.Common.{◌≡◌, ◌⊎◌, inl, inr, ℕ, ◌≤◌, Bool, true, false, List, [], ◌∷◌, length, map, refl, ap, sym, ◌∙◌, subst}
use Rattle.std.proofs.Common.{arith, All}
use Rattle.std.proofs.Common.{ℤ, pos, negsuc, ◌+ℤ◌, ◌-ℤ◌, ◌*ℤ◌, ◌≤ℤ◌, lit<}
use Rattle.std.specs.Prelude.{slice_get}
use Rattle.std.proofs.lemmas.Int.{ints}
use Rattle.std.proofs.lemmas.List.Elements.{All-contains}
use Rattle.acc_base.specs.declared.tables.Row.{Row}
use Rattle.acc_base.specs.declared.designs.Design.{Design}
use Rattle.acc_base.specs.Tables.{is_under, has_row, column_of, count_of, sum_of}
use Rattle.acc_base.specs.Truth.{ClauseTrue}
use Rattle.acc_base.specs.Shapes.{RowFits, IsFullKey}
use Rattle.acc_base.specs.Fits.{RowsFit}
use Rattle.acc_base.specs.PrivateRows.{is_own_table}
use Rattle.acc_base.specs.Annotated.{IsIdle}
use Rattle.acc_base.proofs.RowOrder.{InOrder, order_from}
use Rattle.tpcc_tables.proofs.RowFacts.{Among, contained, none_counted, no_sum, under_is, zero_or_one}
use Rattle.acc_shipped.specs.Amounts.{clause_of}
use Rattle.tpcc_steps.specs.Shipped
use Rattle.tpcc_steps.specs.Shipped.{HasShipped, shipped_tables, shipped_always}
use Rattle.acc_shipped.proofs.Worths.{says}

pub record IsShippedIdle (db : List Row) : Type 0 where
  pub order : InOrder db
  pub width : (r : Row) → Among r db → (t : ℕ) → r.table ≡ t → IsFullKey (slice_get shipped_tables t) (length r.key.parts)
  pub public : (r : Row) → Among r db → (t : ℕ) → r.table ≡ t → is_own_table (slice_get shipped_tables t) ≡ false
  pub always : All (ClauseTrue db []) (map clause_of shipped_always)

pub shipped_idle : (d : Design) (db : List Row) → HasShipped d → RowsFit d db → IsIdle d db → IsShippedIdle db
shipped_idle d db s fit idle = record {
  order = order_from db fit.order;
  width =
      λ r m t e. subst (λ u. IsFullKey (slice_get shipped_tables u) (length r.key.parts)) e
      (subst (λ ts. IsFullKey (slice_get ts r.table) (length r.key.parts)) s.tables
      (All-contains (RowFits d.tables) db r fit.shapes (contained r db m)).0);
  public =
      λ r m t e. subst (λ u. is_own_table (slice_get shipped_tables u) ≡ false) e
      (subst (λ ts. is_own_table (slice_get ts r.table) ≡ false) s.tables
      (All-contains (λ (x : Row). is_own_table (slice_get d.tables x.table) ≡ false) db r idle.no_private (contained r db m)));
  always = subst (All (ClauseTrue db [])) s.always idle.always;
}

module _ (db : List Row) (f : IsShippedIdle db) where
  none_under : (t : ℕ) (p : List ℤ) → is_own_table (slice_get shipped_tables t) ≡ true → (r : Row) → Among r db → is_under t p r ≡ true → ⊥
  none_under t p own r m u = let e = f.public r m t (under_is t p r u).0 in let g : true ≡ false = sym own ∙ e in cc

  no_due : (p : List ℤ) → sum_of db 11 p 0 ≡ pos 0
  no_due p = no_sum db 11 p 0 (none_under 11 p refl)

  none_taken : (p : List ℤ) → count_of db 12 p ≡ pos 0
  none_taken p = ap pos (none_counted (is_under 12 p) db (none_under 12 p refl))

  pub warehouse_districts : (w : ℤ) → column_of db 0 (w ∷ []) 0 ≡ sum_of db 1 (w ∷ []) 0
  warehouse_districts w =
      let h = says db Shipped.always_0 (w ∷ []) (f.always 0 (clause_of Shipped.always_0) (lit< tt)) refl tt in
      let n = no_due (w ∷ []) in
      omega (arith, ints, h, n)

  pub warehouse_payments : (w : ℤ) → column_of db 0 (w ∷ []) 0 ≡ sum_of db 3 (w ∷ []) 0
  warehouse_payments w =
      let h = says db Shipped.always_1 (w ∷ []) (f.always 1 (clause_of Shipped.always_0) (lit< tt)) refl tt in
      let n = no_due (w ∷ []) in
      omega (arith, ints, h, n)

  pub district_payments : (w d : ℤ) → column_of db 1 (w ∷ d ∷ []) 0 ≡ sum_of db 3 (w ∷ d ∷ []) 0
  district_payments w d =
      let h = says db Shipped.always_2 (w ∷ d ∷ []) (f.always 2 (clause_of Shipped.always_0) (lit< tt)) refl tt in
      omega (arith, ints, h)

  pub low_number : (w d : ℤ) → has_row db 1 (w ∷ d ∷ []) ≤ℤ column_of db 1 (w ∷ d ∷ []) 3
  low_number w d =
      let h = says db Shipped.always_3 (w ∷ d ∷ []) (f.always 3 (clause_of Shipped.always_0) (lit< tt)) refl tt in
      omega (arith, ints, h)

  pub waiting : (w d : ℤ) → count_of db 5 (w ∷ d ∷ []) ≡ column_of db 1 (w ∷ d ∷ []) 2 -ℤ column_of db 1 (w ∷ d ∷ []) 3
  waiting w d =
      let h = says db Shipped.always_4 (w ∷ d ∷ []) (f.always 4 (clause_of Shipped.always_0) (lit< tt)) refl tt in
      omega (arith, ints, h)

  pub no_later_waits : (w d o : ℤ) → column_of db 1 (w ∷ d ∷ []) 2 ≤ℤ o → has_row db 5 (w ∷ d ∷ o ∷ []) ≡ pos 0
  no_later_waits w d o g =
      let h = says db Shipped.always_6 (w ∷ d ∷ o ∷ []) (f.always 6 (clause_of Shipped.always_0) (lit< tt)) refl
      (omega (arith, ints, g), tt) in
      omega (arith, ints, h)

  pub no_later : (w d o : ℤ) → column_of db 1 (w ∷ d ∷ []) 2 ≤ℤ o → has_row db 6 (w ∷ d ∷ o ∷ []) ≡ pos 0
  no_later w d o g =
      let h = says db Shipped.always_8 (w ∷ d ∷ o ∷ []) (f.always 8 (clause_of Shipped.always_0) (lit< tt)) refl
      (omega (arith, ints, g), tt) in
      omega (arith, ints, h)

  pub no_earlier : (w d o : ℤ) → o ≤ℤ pos 0 → has_row db 6 (w ∷ d ∷ o ∷ []) ≡ pos 0
  no_earlier w d o g =
      let h = says db Shipped.always_9 (w ∷ d ∷ o ∷ []) (f.always 9 (clause_of Shipped.always_0) (lit< tt)) refl
      (omega (arith, ints, g), tt) in
      omega (arith, ints, h)

  pub each_between : (w d o : ℤ) → pos 1 ≤ℤ o → o ≤ℤ (column_of db 1 (w ∷ d ∷ []) 2 -ℤ pos 1) → has_row db 6 (w ∷ d ∷ o ∷ []) ≡ pos 1
  each_between w d o g k =
      let h = says db Shipped.always_10 (w ∷ d ∷ o ∷ []) (f.always 10 (clause_of Shipped.always_0) (lit< tt)) refl
      (omega (arith, ints, g), (omega (arith, ints, k), tt)) in
      omega (arith, ints, h)

  pub no_earlier_waits : (w d o : ℤ) → has_row db 5 (w ∷ d ∷ o ∷ []) ≡ pos 1 → column_of db 1 (w ∷ d ∷ []) 3 ≤ℤ o
  no_earlier_waits w d o g =
      let h = says db Shipped.always_11 (w ∷ d ∷ o ∷ []) (f.always 11 (clause_of Shipped.always_0) (lit< tt)) refl
      (omega (arith, ints, g), tt) in
      omega (arith, ints, h)

  pub each_waits : (w d o : ℤ) → column_of db 1 (w ∷ d ∷ []) 3 ≤ℤ o → o ≤ℤ (column_of db 1 (w ∷ d ∷ []) 2 -ℤ pos 1)
      → has_row db 5 (w ∷ d ∷ o ∷ []) ≡ pos 1
  each_waits w d o g k =
      let h = says db Shipped.always_12 (w ∷ d ∷ o ∷ []) (f.always 12 (clause_of Shipped.always_0) (lit< tt)) refl
      (omega (arith, ints, g), (omega (arith, ints, k), tt)) in
      omega (arith, ints, h)

  pub carrier_least : (w d o : ℤ) → pos 0 ≤ℤ column_of db 6 (w ∷ d ∷ o ∷ []) 1
  carrier_least w d o =
      let h = says db Shipped.always_13 (w ∷ d ∷ o ∷ []) (f.always 13 (clause_of Shipped.always_0) (lit< tt)) refl tt in
      omega (arith, ints, h)

  pub no_carrier : (w d o : ℤ) → has_row db 5 (w ∷ d ∷ o ∷ []) ≡ pos 1 → column_of db 6 (w ∷ d ∷ o ∷ []) 1 ≤ℤ pos 0
  no_carrier w d o g =
      let h = says db Shipped.always_14 (w ∷ d ∷ o ∷ []) (f.always 14 (clause_of Shipped.always_0) (lit< tt)) refl tt in
      let e : pos 10 *ℤ has_row db 5 (w ∷ d ∷ o ∷ []) ≡ pos 10 = ap (λ x. pos 10 *ℤ x) g in
      omega (arith, ints, h, e)

  pub some_carrier : (w d o : ℤ) → has_row db 6 (w ∷ d ∷ o ∷ []) ≡ pos 1 → has_row db 5 (w ∷ d ∷ o ∷ []) ≡ pos 0
      → pos 1 ≤ℤ column_of db 6 (w ∷ d ∷ o ∷ []) 1
  some_carrier w d o there g =
      let h = says db Shipped.always_15 (w ∷ d ∷ o ∷ []) (f.always 15 (clause_of Shipped.always_0) (lit< tt)) refl tt in
      omega (arith, ints, h, there, g)

  pub order_of_lines : (w d c o : ℤ) → pos 1 ≤ℤ count_of db 8 (w ∷ d ∷ c ∷ o ∷ []) → has_row db 6 (w ∷ d ∷ o ∷ []) ≡ pos 1
  order_of_lines w d c o some = by (zero_or_one db 6 (w ∷ d ∷ o ∷ []))
    where
      by : (has_row db 6 (w ∷ d ∷ o ∷ []) ≡ pos 0) ⊎ (has_row db 6 (w ∷ d ∷ o ∷ []) ≡ pos 1) → has_row db 6 (w ∷ d ∷ o ∷ []) ≡ pos 1
      by (inl none) =
          let h = says db Shipped.always_19 (w ∷ d ∷ c ∷ o ∷ []) (f.always 19 (clause_of Shipped.always_0) (lit< tt)) refl tt in
          let e : negsuc 14 *ℤ has_row db 6 (w ∷ d ∷ o ∷ []) ≡ pos 0 = ap (λ x. negsuc 14 *ℤ x) none in
          absurd (omega (arith, ints, h, e, some))
      by (inr e) = e

  pub no_lines_before : (w d c o : ℤ) → c ≤ℤ (column_of db 6 (w ∷ d ∷ o ∷ []) 0 -ℤ pos 1) → count_of db 8 (w ∷ d ∷ c ∷ o ∷ []) ≡ pos 0
  no_lines_before w d c o g =
      let h = says db Shipped.always_20 (w ∷ d ∷ c ∷ o ∷ []) (f.always 20 (clause_of Shipped.always_0) (lit< tt)) refl
      (omega (arith, ints, g), tt) in
      omega (arith, ints, h)

  pub no_lines_behind : (w d c o : ℤ) → (column_of db 6 (w ∷ d ∷ o ∷ []) 0 +ℤ pos 1) ≤ℤ c → count_of db 8 (w ∷ d ∷ c ∷ o ∷ []) ≡ pos 0
  no_lines_behind w d c o g =
      let h = says db Shipped.always_21 (w ∷ d ∷ c ∷ o ∷ []) (f.always 21 (clause_of Shipped.always_0) (lit< tt)) refl
      (omega (arith, ints, g), tt) in
      omega (arith, ints, h)

  pub its_lines : (w d c o : ℤ) → column_of db 6 (w ∷ d ∷ o ∷ []) 0 ≡ c → count_of db 8 (w ∷ d ∷ c ∷ o ∷ [])
      ≡ column_of db 6 (w ∷ d ∷ o ∷ []) 2
  its_lines w d c o g =
      let h = says db Shipped.always_22 (w ∷ d ∷ c ∷ o ∷ []) (f.always 22 (clause_of Shipped.always_0) (lit< tt)) refl
      (omega (arith, ints, g), tt) in
      omega (arith, ints, h)

  pub district_lines : (w d : ℤ) → sum_of db 6 (w ∷ d ∷ []) 2 ≡ count_of db 8 (w ∷ d ∷ [])
  district_lines w d =
      let h = says db Shipped.always_23 (w ∷ d ∷ []) (f.always 23 (clause_of Shipped.always_0) (lit< tt)) refl tt in
      omega (arith, ints, h)

  pub date_least : (w d c o x : ℤ) → pos 0 ≤ℤ column_of db 8 (w ∷ d ∷ c ∷ o ∷ x ∷ []) 4
  date_least w d c o x =
      let h = says db Shipped.always_27 (w ∷ d ∷ c ∷ o ∷ x ∷ []) (f.always 27 (clause_of Shipped.always_0) (lit< tt)) refl tt in
      omega (arith, ints, h)

  pub no_date : (w d c o x : ℤ) → has_row db 5 (w ∷ d ∷ o ∷ []) ≡ pos 1 → column_of db 8 (w ∷ d ∷ c ∷ o ∷ x ∷ []) 4 ≤ℤ pos 0
  no_date w d c o x g =
      let h = says db Shipped.always_28 (w ∷ d ∷ c ∷ o ∷ x ∷ []) (f.always 28 (clause_of Shipped.always_0) (lit< tt)) refl
      (omega (arith, ints, g), tt) in
      omega (arith, ints, h)

  pub some_date : (w d c o x : ℤ) → has_row db 8 (w ∷ d ∷ c ∷ o ∷ x ∷ []) ≡ pos 1 → has_row db 5 (w ∷ d ∷ o ∷ []) ≡ pos 0
      → pos 1 ≤ℤ column_of db 8 (w ∷ d ∷ c ∷ o ∷ x ∷ []) 4
  some_date w d c o x there g =
      let h = says db Shipped.always_29 (w ∷ d ∷ c ∷ o ∷ x ∷ []) (f.always 29 (clause_of Shipped.always_0) (lit< tt)) refl tt in
      let n = none_taken (w ∷ d ∷ o ∷ []) in
      omega (arith, ints, h, there, g, n)
