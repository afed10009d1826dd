-- Coefficients, collected: one a variable, in the order in which the variables first appear.
use Rattle.std.specs.Prelude.{◌==◌, ◌^◌, ℕ, Bool, not, if◌then◌else◌, List, [], ◌∷◌, nat_le, ℤ, pos, negsuc, ◌+ℤ◌}
use Rattle.std.specs.Ordering.{int_eq}

-- a variable with its coefficient
abbrev pub Coefficient : Type 0
Coefficient = ℕ × ℤ

-- one more coefficient: it is added to that of its variable, which comes last where it is new
abbrev pub with_coefficient : Coefficient → List Coefficient → List Coefficient
with_coefficient c [] = c ∷ []
with_coefficient c (s ∷ rest) = if s.0 == c.0 then ((s.0, s.1 +ℤ c.1) ∷ rest) else (s ∷ with_coefficient c rest)

-- the coefficient that its variable has then
abbrev pub enlarged : Coefficient → List Coefficient → ℤ
enlarged c [] = c.1
enlarged c (s ∷ rest) = if s.0 == c.0 then s.1 +ℤ c.1 else enlarged c rest

-- more coefficients, one after the other
abbrev pub with_coefficients : List Coefficient → List Coefficient → List Coefficient
with_coefficients sums [] = sums
with_coefficients sums (c ∷ cs) = with_coefficients (with_coefficient c sums) cs

-- a coefficient that isn't 0
abbrev pub counts : Coefficient → Bool
counts c = not (int_eq c.1 (pos 0))

-- whether a number needs more than 64 bits
abbrev pub is_long : ℤ → Bool
is_long (pos n) = nat_le (2 ^ 63) n
is_long (negsuc n) = nat_le (2 ^ 63) n
