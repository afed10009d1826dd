-- Tuples of values, one of each of some ranges.
use Rattle.std.specs.Prelude.{ℕ, ◌+◌, ◌^◌, min, List, [], ◌∷◌, map, ℤ}
use Rattle.std.specs.List.{flat_map}

-- ordered by the first value first, where the ranges are
abbrev pub tuples : List (List ℤ) → List (List ℤ)
tuples [] = [] ∷ []
tuples (r ∷ rs) = flat_map (λ x. map (λ own. x ∷ own) (tuples rs)) r

-- numbers above 2^20 are cut
abbrev pub capped : ℕ → ℕ
capped n = min n (2 ^ 20 + 1)
