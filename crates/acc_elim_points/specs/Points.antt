-- The values of a system's unknowns, given backwards.
use Rattle.std.specs.Prelude.{◌==◌, ℕ, Bool, if◌then◌else◌, List, [], ◌∷◌, replicate, reverse, slice_index_or, slice_set, Ok, ℤ, pos}
use Rattle.acc_rows.specs.declared.rows.Row.{Row}
use Rattle.acc_base.specs.Computing.{chain, steps}
use Rattle.acc_rows.specs.Answers.{Computation}
use Rattle.acc_rows.specs.Sparse.{at}
use Rattle.acc_elim_points.specs.Fractions.{Fraction, plus_times, solved, is_less}
use Rattle.acc_elim_systems.specs.declared.systems.Eliminated.{Eliminated}
use Rattle.acc_elim_systems.specs.Systems.{is_lower}

-- a value for each unknown, by its number
abbrev pub Point : Type 0
Point = List Fraction

abbrev pub value : Point → ℕ → Fraction
value point u = slice_index_or point u (pos 0, pos 1)

-- one more term of a sum; that of the unknown itself is left out
abbrev pub summed : ℕ → Point → Fraction → ℕ × ℤ → Computation Fraction
summed u point x t = if t.0 == u then Ok x else plus_times x t.1 (value point t.0)

-- the value of the unknown at which the relation's form is 0
abbrev pub root : ℕ → Point → Row → Computation Fraction
root u point r = chain (steps (summed u point) (r.constant, pos 1) r.terms) (λ x. solved x (at u r.terms))

-- the greatest of the lower bounds, or the least of the upper bounds
abbrev pub tighter : Bool → Fraction → Fraction → Computation Fraction
tighter lower x y = chain (if lower then is_less x y else is_less y x) (λ b. Ok (if b then y else x))

abbrev pub tightest : ℕ → Point → Fraction → Row → Computation Fraction
tightest u point x r = chain (root u point r) (tighter (is_lower u r) x)

-- the value of an unknown by its bounds, and 0 where it has none
abbrev pub bounded_value : ℕ → Point → List Row → Computation Fraction
bounded_value u point [] = Ok (pos 0, pos 1)
bounded_value u point (r ∷ rs) = chain (root u point r) (λ x. steps (tightest u point) x rs)

abbrev pub placed : Point → ℕ × List Row → Computation Point
placed point b = chain (bounded_value b.0 point b.1) (λ x. Ok (slice_set point b.0 x))

abbrev pub placed_by : Point → ℕ × Row → Computation Point
placed_by point e = chain (root e.0 point e.1) (λ x. Ok (slice_set point e.0 x))

abbrev pub zeros : ℕ → Point
zeros n = replicate n (pos 0, pos 1)

-- the last unknown that was eliminated gets its value first
abbrev pub point_of : ℕ → Eliminated → Computation Point
point_of unknowns s = chain (steps placed (zeros unknowns) (reverse s.bounds)) (λ point. steps placed_by point (reverse s.aside))
