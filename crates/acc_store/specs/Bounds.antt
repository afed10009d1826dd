-- How far from 0 the stored values lie.
use Rattle.std.specs.Prelude.{ℕ, ◌≤◌, List, All, unsigned_abs}
use Rattle.acc_base.specs.declared.tables.Row.{Row}

-- each column of a row is within m of 0
abbrev pub IsWithin : ℕ → Row → Type 0
IsWithin m r = All (λ v. unsigned_abs v ≤ m) r.cols

-- each value that is stored is within m of 0
abbrev pub AreWithin : ℕ → List Row → Type 0
AreWithin m db = All (IsWithin m) db
