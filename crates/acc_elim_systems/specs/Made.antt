-- What is known of the relations that an elimination makes: each is a sum of multiples of those that it began with.
use Rattle.std.specs.Prelude.{◌≡◌, ◌≤◌, ◌<◌, ℕ, suc, Bool, true, false, List, [], ◌∷◌, All, Err, ℤ, pos, ◌+ℤ◌, int_le, unsigned_abs}
use Rattle.acc_base.specs.Bounded.{IsBounded}
use Rattle.acc_base.specs.Collecting.{worth}
use Rattle.acc_rows.specs.declared.stops.Stop.TheVariants.{Refuted}
use Rattle.acc_rows.specs.declared.rows.Row.{Row}
use Rattle.acc_rows.specs.Sparse.{Sparse}
use Rattle.acc_elim_systems.specs.Systems.{is_false, eliminated}

-- a relation's form is worth what the multiples of the first ones are worth together: f of the unknowns, base of the first relations
abbrev pub Sums : (ℕ → ℤ) → (ℕ → ℤ) → Row → Type 0
Sums f base r = worth f r.terms +ℤ r.constant ≡ worth base r.by

-- the multiplier of an inequality isn't below 0
abbrev pub MayStand : (ℕ → Bool) → ℕ × ℤ → Type 0
MayStand is_equation m = (is_equation m.0 ≡ false) → int_le (pos 0) m.1 ≡ true

abbrev pub OfEquation : (ℕ → Bool) → ℕ × ℤ → Type 0
OfEquation is_equation m = is_equation m.0 ≡ true

-- and an equation is made of equations
pub record Signed (is_equation : ℕ → Bool) (r : Row) : Type 0 where
  pub may : All (MayStand is_equation) r.by
  pub equal : r.equal ≡ true → All (OfEquation is_equation) r.by

-- places rise, from a least one on
abbrev pub Rises : ℕ → Sparse → Type 0
Rises k [] = Unit {0}
Rises k (t ∷ ts) = (k ≤ t.0) × Rises (suc t.0) ts

pub record Ordered (r : Row) : Type 0 where
  pub terms : Rises 0 r.terms
  pub by : Rises 0 r.by

-- multipliers are of the first relations, of which there are n, and none is 0
abbrev pub IsProper : ℕ → ℕ × ℤ → Type 0
IsProper n m = (m.0 < n) × (0 < unsigned_abs m.1)

abbrev pub Proper : ℕ → Row → Type 0
Proper n r = All (IsProper n) r.by

-- multipliers are within 2^120 of 0
abbrev pub IsNear : ℕ × ℤ → Type 0
IsNear m = IsBounded m.1

abbrev pub Near : Row → Type 0
Near r = All IsNear r.by

-- ---- laws of the false constant that ends an elimination

-- it is the sum of its multiples, whatever the unknowns are worth, and it is false
abbrev pub FalseConstantIsASum : Type 0
FalseConstantIsASum =
    (f base : ℕ → ℤ) (unknowns : ℕ) (rows : List Row) (r : Row) → All (Sums f base) rows → eliminated unknowns rows ≡ Err (Refuted r)
    → (r.constant ≡ worth base r.by) × (is_false r ≡ true)

abbrev pub MultipliersAreSigned : Type 0
MultipliersAreSigned =
    (is_equation : ℕ → Bool) (unknowns : ℕ) (rows : List Row) (r : Row) → All (Signed is_equation) rows
    → eliminated unknowns rows ≡ Err (Refuted r) → Signed is_equation r

abbrev pub MultipliersRise : Type 0
MultipliersRise =
    (unknowns : ℕ) (rows : List Row) (r : Row) → All Ordered rows → eliminated unknowns rows ≡ Err (Refuted r) → Rises 0 r.by
