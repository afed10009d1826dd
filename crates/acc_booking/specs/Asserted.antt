-- The tables of the shipped booking design, and what it asserts at all times.
use Rattle.std.specs.Prelude.{◌≡◌, true, false, List, [], ◌∷◌, ℕ, codes, map, pos}
use Rattle.acc_base.specs.declared.tables.Table.{Table}
use Rattle.acc_base.specs.declared.designs.Design.{Design}
use Rattle.acc_shipped.specs.Amounts.{Assertion, Col, Sum, plus, minus, none, most, for_all, clause_of}

abbrev pub booking_tables : List Table
booking_tables =
    record { name = codes "FLIGHT"; width = 1; cols = codes "seats" ∷ codes "free" ∷ []; own = false }
    ∷ record { name = codes "ROOM"; width = 2; cols = codes "rooms" ∷ codes "free" ∷ []; own = false }
    ∷ record { name = codes "BOOKED"; width = 2; cols = codes "n" ∷ []; own = false }
    ∷ record { name = codes "STAY"; width = 3; cols = codes "n" ∷ []; own = false }
    ∷ record { name = codes "HELD"; width = 2; cols = codes "n" ∷ []; own = true }
    ∷ []

-- forall f : FLIGHT[f].free >= 0
abbrev pub free_seats : Assertion
free_seats = for_all (codes "f" ∷ []) [] (most (minus (Col 0 (0 ∷ []) 1) ∷ []) (pos 0))

-- forall h g : ROOM[h, g].free >= 0
abbrev pub free_rooms : Assertion
free_rooms = for_all (codes "h" ∷ codes "g" ∷ []) [] (most (minus (Col 1 (0 ∷ 1 ∷ []) 1) ∷ []) (pos 0))

-- forall f : FLIGHT[f].seats = FLIGHT[f].free + sum HELD[f].n + sum BOOKED[f].n
abbrev pub all_seats : Assertion
all_seats =
    for_all (codes "f" ∷ []) []
    (none (plus (Col 0 (0 ∷ []) 0) ∷ minus (Col 0 (0 ∷ []) 1) ∷ minus (Sum 4 (0 ∷ []) 0) ∷ minus (Sum 2 (0 ∷ []) 0) ∷ []) (pos 0))

-- forall h g : ROOM[h, g].rooms = ROOM[h, g].free + sum STAY[h, g].n
abbrev pub all_rooms : Assertion
all_rooms =
    for_all (codes "h" ∷ codes "g" ∷ []) []
    (none (plus (Col 1 (0 ∷ 1 ∷ []) 0) ∷ minus (Col 1 (0 ∷ 1 ∷ []) 1) ∷ minus (Sum 3 (0 ∷ 1 ∷ []) 0) ∷ []) (pos 0))

abbrev pub booking_always : List Assertion
booking_always = free_seats ∷ free_rooms ∷ all_seats ∷ all_rooms ∷ []

-- a design has the tables of the shipped booking design, and asserts the same at all times
pub record HasBooking (d : Design) : Type 0 where
  pub tables : d.tables ≡ booking_tables
  pub always : d.always ≡ map clause_of booking_always
