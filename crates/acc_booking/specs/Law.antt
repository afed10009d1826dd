-- The law: idle rows of the shipped booking design are nowhere oversold. And a flight that is.
use Rattle.std.specs.Prelude.{◌≡◌, List, [], ◌∷◌, Some, None, pos, negsuc}
use Rattle.acc_base.specs.declared.designs.Design.{Design}
use Rattle.acc_base.specs.declared.tables.Row.{Row}
use Rattle.acc_base.specs.Annotated.{IsIdle}
use Rattle.acc_base.specs.Fits.{RowsFit}
use Rattle.acc_base.specs.declared.tables.Key.{Key}
use Rattle.acc_booking.specs.Seats.{NothingOversold, first_oversold}
use Rattle.acc_booking.specs.BookingText.{booking_design}

-- idle rows of a design that fit it, as those of every state do where no transaction is unfinished, are nowhere oversold
abbrev pub NeverOversells : Design → Type 0
NeverOversells d = (db : List Row) → RowsFit d db → IsIdle d db → NothingOversold db

-- those of the shipped design are
abbrev pub ShippedNeverOversells : Type 0
ShippedNeverOversells = NeverOversells booking_design

-- the flight 1 of 3 seats, of which -1 are free
abbrev pub flight_1 : Key
flight_1 = record { parts = pos 1 ∷ [] }

abbrev pub oversold_flight : Row
oversold_flight = record { table = 0; key = flight_1; cols = pos 3 ∷ negsuc 0 ∷ [] }

-- it is told, and of no rows nothing is
pub record IsTold : Type 0 where
  pub flight : first_oversold (oversold_flight ∷ []) ≡ Some (1, flight_1)
  pub nothing : first_oversold [] ≡ None
