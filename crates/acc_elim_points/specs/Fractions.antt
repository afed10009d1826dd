-- Fractions in lowest terms, with a denominator above 0.
use Rattle.std.specs.Prelude.{nat_lt, Bool, if◌then◌else◌, Ok, ℤ, pos, int_lt, unsigned_abs}
use Rattle.acc_base.specs.Computing.{chain}
use Rattle.acc_rows.specs.Answers.{Computation}
use Rattle.acc_rows.specs.Numbers.{product, sum, opposite}
use Rattle.acc_rows.specs.Divisors.{divisor, quotient}

-- a numerator and a denominator
abbrev pub Fraction : Type 0
Fraction = ℤ × ℤ

-- n / d divided by what divides both, for a d other than 0
abbrev pub reduced : ℤ → ℤ → Fraction
reduced n d =
    if nat_lt 1 (divisor (unsigned_abs n) (unsigned_abs d))
    then (quotient (divisor (unsigned_abs n) (unsigned_abs d)) n, quotient (divisor (unsigned_abs n) (unsigned_abs d)) d) else (n, d)

-- the same fraction with a denominator above 0
abbrev pub upright : Fraction → Computation Fraction
upright x =
    if int_lt x.1 (pos 0) then chain (opposite x.0) (λ n. chain (opposite x.1) (λ d. Ok (n, d))) else Ok x

abbrev pub fraction : ℤ → ℤ → Computation Fraction
fraction n d = upright (reduced n d)

-- x + c * y, where m is c times y's numerator
abbrev pub numerator : Fraction → ℤ → Fraction → Computation ℤ
numerator x m y = chain (product x.0 y.1) (λ a. chain (product m x.1) (λ b. sum a b))

abbrev pub over : ℤ → Fraction → Fraction → Computation Fraction
over n x y = chain (product x.1 y.1) (λ d. fraction n d)

abbrev pub plus_times : Fraction → ℤ → Fraction → Computation Fraction
plus_times x c y = chain (product c y.0) (λ m. chain (numerator x m y) (λ n. over n x y))

-- - x / a, for an a other than 0
abbrev pub solved : Fraction → ℤ → Computation Fraction
solved x a = chain (opposite x.0) (λ n. chain (product a x.1) (λ d. fraction n d))

abbrev pub is_less : Fraction → Fraction → Computation Bool
is_less x y = chain (product x.0 y.1) (λ a. chain (product y.0 x.1) (λ b. Ok (int_lt a b)))
