-- What a point shows: the values of relations there, and that they are met.
use Rattle.std.specs.Prelude.{◌≡◌, if◌then◌else◌, Bool, IsTrue, All, List, [], ◌∷◌, length, Ok, ℤ, pos, ◌+ℤ◌, ◌*ℤ◌, int_lt, unsigned_abs}
use Rattle.std.specs.Int.{IsGcd}
use Rattle.std.specs.Option.{option_map_or}
use Rattle.acc_base.specs.declared.forms.Unknown.{Unknown}
use Rattle.acc_base.specs.declared.forms.Rel.{Rel}
use Rattle.acc_base.specs.Linear.{meets}
use Rattle.acc_base.specs.Sums.{Term}
use Rattle.acc_base.specs.UnknownEquality.{is_bare_one}
use Rattle.acc_elim_points.specs.Fractions.{Fraction}
use Rattle.acc_elim_points.specs.Points.{Point, value}
use Rattle.acc_elim_readings.specs.Readings.{unknowns_of, place_of}
use Rattle.acc_elim_points.specs.Searches.{searched}

-- the value of an unknown at a point; the number 1 without condition is 1, and an unknown that isn't among the names 0
abbrev pub value_at : List Unknown → Point → Unknown → Fraction
value_at names point u =
    if is_bare_one u then (pos 1, pos 1) else option_map_or (value point) (place_of names u) (pos 0, pos 1)

-- x + c * y for fractions, not in lowest terms
abbrev pub plus_exactly : Fraction → ℤ → Fraction → Fraction
plus_exactly x c y = (x.0 *ℤ y.1 +ℤ (c *ℤ y.0) *ℤ x.1, x.1 *ℤ y.1)

abbrev pub sum_at : List Unknown → Point → Fraction → List Term → Fraction
sum_at names point x [] = x
sum_at names point x (t ∷ ts) = sum_at names point (plus_exactly x t.1 (value_at names point t.0)) ts

-- a form's value at a point, over a denominator above 0
abbrev pub form_at : List Unknown → Point → Rel → Fraction
form_at names point r = sum_at names point (r.form.constant, pos 1) r.form.terms

-- the value is 0 or at most 0, as the relation says
abbrev pub is_met : List Unknown → Point → Rel → Bool
is_met names point r = meets r.equal (form_at names point r).0

abbrev pub is_above : Fraction → Bool
is_above x = int_lt (pos 0) x.1

-- in lowest terms: 1 is the greatest common divisor of the numerator and the denominator
abbrev pub IsLowest : Fraction → Type 0
IsLowest x = IsGcd (unsigned_abs x.0) (unsigned_abs x.1) 1

-- a point has a value for each unknown of the relations, in the order of first appearance, each in lowest terms with a denominator
-- above 0, and each relation is met there
pub record Meets (rels : List Rel) (point : Point) : Type 0 where
  pub long : length point ≡ length (unknowns_of rels)
  pub above : All (λ x. IsTrue (is_above x)) point
  pub lowest : All IsLowest point
  pub met : All (λ r. IsTrue (is_met (unknowns_of rels) point r)) rels

-- so does the point with which a search ends
abbrev pub SearchedIsMet : Type 0
SearchedIsMet = (rels : List Rel) (point : Point) → searched rels ≡ Ok point → Meets rels point
