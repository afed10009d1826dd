-- What idle rows of the shipped booking design give, in words of rows.
use Rattle.std.proofs.Common.{◌≡◌, ℕ, ◌≤◌, true, false, List, [], ◌∷◌, length, map, refl, ap, sym, ◌∙◌, subst, arith, All}
use Rattle.std.proofs.Common.{ℤ, pos, ◌+ℤ◌, ◌-ℤ◌, ◌≤ℤ◌, lit<}
use Rattle.std.specs.Prelude.{slice_get}
use Rattle.std.proofs.lemmas.Int.{ints}
use Rattle.std.proofs.lemmas.List.Elements.{All-contains}
use Rattle.acc_base.specs.declared.tables.Row.{Row}
use Rattle.acc_base.specs.declared.designs.Design.{Design}
use Rattle.acc_base.specs.Tables.{is_under, column_of, sum_of}
use Rattle.acc_base.specs.Truth.{ClauseTrue}
use Rattle.acc_base.specs.Shapes.{RowFits, IsFullKey}
use Rattle.acc_base.specs.Fits.{RowsFit}
use Rattle.acc_base.specs.PrivateRows.{is_own_table}
use Rattle.acc_base.specs.Annotated.{IsIdle}
use Rattle.acc_base.proofs.RowOrder.{InOrder, order_from}
use Rattle.tpcc_tables.proofs.RowFacts.{Among, contained, no_sum, under_is}
use Rattle.acc_shipped.specs.Amounts.{clause_of}
use Rattle.acc_shipped.proofs.Worths.{says}
use Rattle.acc_booking.specs.Asserted.{HasBooking, booking_tables, booking_always, free_seats, free_rooms, all_seats, all_rooms}

pub record IsBookingIdle (db : List Row) : Type 0 where
  pub order : InOrder db
  pub width :
      (r : Row) → Among r db → (t : ℕ) → r.table ≡ t
      → IsFullKey (slice_get booking_tables t) (length r.key.parts)
  pub public :
      (r : Row) → Among r db → (t : ℕ) → r.table ≡ t
      → is_own_table (slice_get booking_tables t) ≡ false
  pub always : All (ClauseTrue db []) (map clause_of booking_always)

pub booking_idle : (d : Design) (db : List Row) → HasBooking d → RowsFit d db → IsIdle d db → IsBookingIdle db
booking_idle d db s fit idle = record {
  order = order_from db fit.order;
  width =
      λ r m t e. subst (λ u. IsFullKey (slice_get booking_tables u) (length r.key.parts)) e
      (subst (λ ts. IsFullKey (slice_get ts r.table) (length r.key.parts)) s.tables
      (All-contains (RowFits d.tables) db r fit.shapes (contained r db m)).0);
  public =
      λ r m t e. subst (λ u. is_own_table (slice_get booking_tables u) ≡ false) e
      (subst (λ ts. is_own_table (slice_get ts r.table) ≡ false) s.tables
      (All-contains (λ (x : Row). is_own_table (slice_get d.tables x.table) ≡ false) db r idle.no_private (contained r db m)));
  always = subst (All (ClauseTrue db [])) s.always idle.always;
}

module _ (db : List Row) (f : IsBookingIdle db) where
  none_held_under : (p : List ℤ) (r : Row) → Among r db → is_under 4 p r ≡ true → ⊥
  none_held_under p r m u = let e = f.public r m 4 (under_is 4 p r u).0 in let g : true ≡ false = e in cc

  none_held : (p : List ℤ) → sum_of db 4 p 0 ≡ pos 0
  none_held p = no_sum db 4 p 0 (none_held_under p)

  pub flight_free : (n : ℤ) → pos 0 ≤ℤ column_of db 0 (n ∷ []) 1
  flight_free n =
      let h = says db free_seats (n ∷ []) (f.always 0 (clause_of free_seats) (lit< tt)) refl tt in
      omega (arith, ints, h)

  pub rooms_free : (h g : ℤ) → pos 0 ≤ℤ column_of db 1 (h ∷ g ∷ []) 1
  rooms_free h g =
      let k = says db free_rooms (h ∷ g ∷ []) (f.always 1 (clause_of free_seats) (lit< tt)) refl tt in
      omega (arith, ints, k)

  pub flight_whole : (n : ℤ) → column_of db 0 (n ∷ []) 0 ≡ column_of db 0 (n ∷ []) 1 +ℤ sum_of db 2 (n ∷ []) 0
  flight_whole n =
      let h = says db all_seats (n ∷ []) (f.always 2 (clause_of free_seats) (lit< tt)) refl tt in
      let none = none_held (n ∷ []) in
      omega (arith, ints, h, none)

  pub rooms_whole : (h g : ℤ) → column_of db 1 (h ∷ g ∷ []) 0 ≡ column_of db 1 (h ∷ g ∷ []) 1 +ℤ sum_of db 3 (h ∷ g ∷ []) 0
  rooms_whole h g =
      let k = says db all_rooms (h ∷ g ∷ []) (f.always 3 (clause_of free_seats) (lit< tt)) refl tt in
      omega (arith, ints, k)
