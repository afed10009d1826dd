-- Items with room for more. Calls that promise to take no memory speak of it.
use Rattle.std.specs.Prelude.{ℕ, ◌-◌, List, length}

-- the items, and how many there is room for, those that are there among them
pub record Held (T : Type 0) : Type 0 where
  pub items : List T
  pub room : ℕ

-- how many more fit without memory
abbrev pub spare : {T : Type 0} → Held T → ℕ
spare h = h.room - length h.items
