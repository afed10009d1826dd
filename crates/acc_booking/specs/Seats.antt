-- That no more is booked than there is: of each flight, and of the rooms of each hotel and night.
use Rattle.std.specs.Prelude.{◌≡◌, ℕ, ◌==◌, Bool, false, not, ◌&&◌, List, All, find, option_map, Option, Some, None, ℤ, pos, ◌+ℤ◌, int_le}
use Rattle.std.specs.Ordering.{int_eq}
use Rattle.acc_base.specs.declared.tables.Key.{Key}
use Rattle.acc_base.specs.declared.tables.Row.{Row}
use Rattle.acc_base.specs.Tables.{cell, sum_of}
use Rattle.acc_booking.specs.declared.columns.TheConstants.{FLIGHT, ROOM, BOOKED, STAY, WHOLE, FREE, TAKEN}

-- the first of two, and the second where that isn't there
abbrev pub first_there : Option (ℕ × Key) → Option (ℕ × Key) → Option (ℕ × Key)
first_there (Some found) second = Some found
first_there None second = second

-- a number, and the key of the row that was found
abbrev pub keyed : ℕ → Option Row → Option (ℕ × Key)
keyed n found = option_map (λ (r : Row). (n, r.key)) found

module _ (db : List Row) where
  -- at least 0 are free of a row, and these and what is booked of it, in the table with this number, is all that there is
  abbrev pub adds_up : ℕ → Row → Bool
  adds_up booked r = int_le (pos 0) (cell FREE r) && int_eq (cell WHOLE r) (cell FREE r +ℤ sum_of db booked r.key.parts TAKEN)

  -- whether a row of this table shows that it isn't so
  abbrev pub is_oversold : ℕ → ℕ → Row → Bool
  is_oversold table booked r = (r.table == table) && not (adds_up booked r)

  -- each row of a table adds up with what is booked of it
  abbrev pub AddUp : ℕ → ℕ → Type 0
  AddUp table booked = All (λ r. is_oversold table booked r ≡ false) db

  -- no flight is oversold, and no rooms are
  pub record NothingOversold : Type 0 where
    pub seats : AddUp FLIGHT BOOKED
    pub rooms : AddUp ROOM STAY

  -- 1 and the key of the first flight that is oversold, or else 2 and that of the first rooms
  abbrev pub first_oversold : Option (ℕ × Key)
  first_oversold = first_there (keyed 1 (find (is_oversold FLIGHT BOOKED) db)) (keyed 2 (find (is_oversold ROOM STAY) db))

  -- nothing is told exactly where nothing is oversold
  pub record TellsWhether (found : Option (ℕ × Key)) : Type 0 where
    pub none : found ≡ None → NothingOversold
    pub some : NothingOversold → found ≡ None
