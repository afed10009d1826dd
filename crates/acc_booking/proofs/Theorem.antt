-- Idle rows of the shipped booking design are nowhere oversold.
use Rattle.std.proofs.Common.{◌≡◌, ℕ, Bool, true, false, List, [], ◌∷◌, length, refl, ap, sym, ◌∙◌, subst, arith, All}
use Rattle.std.proofs.Common.{ℤ, pos, ◌+ℤ◌, ◌≤ℤ◌, ◌==◌}
use Rattle.std.specs.Prelude.{not, ◌&&◌, int_le}
use Rattle.std.specs.Ordering.{int_eq}
use Rattle.std.proofs.lemmas.Int.{ints}
use Rattle.std.proofs.lemmas.Bool.Decides.{Decides-int_eq, Decides-eqb, nat_tests}
use Rattle.acc_base.specs.declared.tables.Row.{Row}
use Rattle.acc_base.specs.declared.designs.Design.{Design}
use Rattle.acc_base.specs.Tables.{cell, column_of, sum_of}
use Rattle.tpcc_tables.proofs.RowFacts.{Among, all_among, both, column_here}
use Rattle.acc_booking.specs.Asserted.{HasBooking}
use Rattle.acc_booking.specs.Seats.{adds_up, is_oversold, AddUp, NothingOversold}
use Rattle.acc_booking.specs.Law.{NeverOversells}
use Rattle.acc_booking.proofs.Facts.{IsBookingIdle, booking_idle, flight_free, flight_whole, rooms_free, rooms_whole}

at_most : (x y : ℤ) → x ≤ℤ y → int_le x y ≡ true
at_most x y h = grind (arith, ints, nat_tests)

module _ (db : List Row) (f : IsBookingIdle db) where
  -- a row adds up where the columns at its key do
  by_columns : (t booked : ℕ) (r : Row) (k : List ℤ) → Among r db → r.table ≡ t → r.key.parts ≡ k
      → pos 0 ≤ℤ column_of db t k 1 → column_of db t k 0 ≡ column_of db t k 1 +ℤ sum_of db booked k 0 → adds_up db booked r ≡ true
  by_columns t booked r k m e g free whole =
      let its : (c : ℕ) → column_of db t k c ≡ cell c r = λ c. column_here db r t k c f.order m e g in
      let sums : sum_of db booked k 0 ≡ sum_of db booked r.key.parts 0 = ap (λ p. sum_of db booked p 0) (sym g) in
      both (int_le (pos 0) (cell 1 r)) (int_eq (cell 0 r) (cell 1 r +ℤ sum_of db booked r.key.parts 0))
      (at_most (pos 0) (cell 1 r) (subst (λ x. pos 0 ≤ℤ x) (its 1) free))
      ((Decides-int_eq (cell 0 r) (cell 1 r +ℤ sum_of db booked r.key.parts 0)).1
      (sym (its 0) ∙ whole ∙ (λ i. its 1 i +ℤ sums i)))

  flight : (r : Row) (k : List ℤ) → Among r db → r.table ≡ 0 → r.key.parts ≡ k → length k ≡ 1 → adds_up db 2 r ≡ true
  flight r [] m e g long = absurd (omega (arith, long))
  flight r (n ∷ []) m e g long = by_columns 0 2 r (n ∷ []) m e g (flight_free db f n) (flight_whole db f n)
  flight r (n ∷ x ∷ k) m e g long = absurd (omega (arith, long))

  rooms : (r : Row) (k : List ℤ) → Among r db → r.table ≡ 1 → r.key.parts ≡ k → length k ≡ 2 → adds_up db 3 r ≡ true
  rooms r [] m e g long = absurd (omega (arith, long))
  rooms r (h ∷ []) m e g long = absurd (omega (arith, long))
  rooms r (h ∷ n ∷ []) m e g long = by_columns 1 3 r (h ∷ n ∷ []) m e g (rooms_free db f h n) (rooms_whole db f h n)
  rooms r (h ∷ n ∷ x ∷ k) m e g long = absurd (omega (arith, long))

  each : (t booked : ℕ) → ((r : Row) → Among r db → r.table ≡ t → adds_up db booked r ≡ true) → AddUp db t booked
  each t booked so = all_among (λ (r : Row). is_oversold db t booked r ≡ false) db (λ r m. by r m (r.table == t) refl)
    where
      by : (r : Row) → Among r db → (b : Bool) → (r.table == t) ≡ b → (b && not (adds_up db booked r)) ≡ false
      by r m true e = ap not (so r m ((Decides-eqb r.table t).0 e))
      by r m false e = refl

  nothing_oversold : NothingOversold db
  nothing_oversold = record {
    seats = each 0 2 (λ r m e. flight r r.key.parts m e refl (f.width r m 0 e));
    rooms = each 1 3 (λ r m e. rooms r r.key.parts m e refl (f.width r m 1 e));
  }

pub keeps : (d : Design) → HasBooking d → NeverOversells d
keeps d has db fit idle = nothing_oversold db (booking_idle d db has fit idle)
