-- The difference of linear values, written out: one coefficient a variable, in the order in which the variables first appear.
use Rattle.std.specs.Prelude.{Bool, List, [], ◌∷◌, ◌++◌, map, filter, ℤ, neg_ℤ, ◌-ℤ◌}
use Rattle.std.specs.List.{list_any}
use Rattle.acc_base.specs.declared.forms.Lin.{Lin}
use Rattle.acc_instanced.specs.Coefficients.{Coefficient, with_coefficient, enlarged, with_coefficients, counts, is_long}

-- the coefficients that they give one after the other
abbrev pub all_enlarged : List Coefficient → List Coefficient → List ℤ
all_enlarged sums [] = []
all_enlarged sums (c ∷ cs) = enlarged c sums ∷ all_enlarged (with_coefficient c sums) cs

-- the coefficient that takes away
abbrev pub negated : Coefficient → Coefficient
negated c = (c.0, neg_ℤ c.1)

-- the coefficients of a - b before they are collected
abbrev pub coefficients : Lin → Lin → List Coefficient
coefficients a b = a.coeffs ++ map negated b.coeffs

-- a - b: its coefficients collected, without those that are 0, and the difference of the constants
abbrev pub lin_minus : Lin → Lin → Lin
lin_minus a b =
    record { coeffs = filter counts (with_coefficients [] (coefficients a b)); constant = a.constant -ℤ b.constant }

-- ---- the numbers that the difference computes

-- the constant, and each coefficient as they are collected
abbrev pub minus_numbers : Lin → Lin → List ℤ
minus_numbers a b = (a.constant -ℤ b.constant) ∷ all_enlarged [] (coefficients a b)

-- whether one of them needs more than 64 bits
abbrev pub is_minus_long : Lin → Lin → Bool
is_minus_long a b = list_any is_long (minus_numbers a b)
