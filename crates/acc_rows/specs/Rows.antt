-- Relations of numbered unknowns: multiples of two, added, and divided by what divides them.
use Rattle.std.specs.Prelude.{ℕ, nat_lt, Bool, false, not, if◌then◌else◌, List, [], ◌∷◌, map, Ok, ℤ, pos, int_lt}
use Rattle.std.specs.Ordering.{int_eq}
use Rattle.acc_rows.specs.declared.rows.Row.{Row}
use Rattle.acc_base.specs.Computing.{chain}
use Rattle.acc_rows.specs.Answers.{Computation}
use Rattle.acc_rows.specs.Numbers.{opposite, size}
use Rattle.acc_rows.specs.Sparse.{Sparse, at, mixture, mixed}
use Rattle.acc_rows.specs.Divisors.{common, quotient}

-- ---- division by the greatest common divisor of a relation's numbers and multipliers

abbrev pub numbers : Sparse → List ℤ
numbers xs = map (λ t. t.1) xs

abbrev pub quotients : ℕ → Sparse → Sparse
quotients g xs = map (λ t. (t.0, quotient g t.1)) xs

abbrev pub divided : ℕ → Row → Row
divided g r =
    record { terms = quotients g r.terms; constant = quotient g r.constant; equal = r.equal; by = quotients g r.by }

abbrev pub divisor_of : Row → ℕ
divisor_of r = common (common (common 0 (r.constant ∷ [])) (numbers r.terms)) (numbers r.by)

abbrev pub lowest : Row → Row
lowest r = if nat_lt 1 (divisor_of r) then divided (divisor_of r) r else r

-- ---- p times a relation and q times another

abbrev pub made : ℤ → Row → ℤ → Row → Bool → Computation Row
made p r q e equal =
    chain (mixed p q r.terms e.terms) (λ terms. chain (mixture p r.constant q e.constant)
    (λ constant. chain (mixed p q r.by e.by) (λ by. Ok
    (lowest (record { terms = terms; constant = constant; equal = equal; by = by })))))

-- ---- an unknown in a relation

abbrev pub has : ℕ → Row → Bool
has u r = not (int_eq (at u r.terms) (pos 0))

-- the multiplier of an equation with coefficient a that takes an unknown away where it has coefficient b, besides |a| times the relation:
-- less s * b, where s is the sign of a
abbrev pub cancelling : ℤ → ℤ → Computation ℤ
cancelling a b = if int_lt a (pos 0) then Ok b else opposite b

-- the relation without the unknown, by an equation that has it. One that doesn't have it stays
abbrev pub cleared_by : ℤ → Row → ℤ → Row → Computation Row
cleared_by a e b r =
    chain (size a) (λ p. chain (cancelling a b) (λ q. made p r q e r.equal))

abbrev pub cleared : ℕ → Row → Row → Computation Row
cleared u e r = if has u r then cleared_by (at u e.terms) e (at u r.terms) r else Ok r

-- the relation without the unknown that an upper and a lower bound of it imply: a * low - b * up, where a is the unknown's
-- coefficient in the upper one, above 0, and b that in the lower one, below 0
abbrev pub crossing : ℕ → Row → Row → Computation Row
crossing u up low = chain (opposite (at u low.terms)) (λ q. made (at u up.terms) low q up false)
