-- Terms, collected: one an unknown, in the order in which the unknowns first appear. E tells whether two unknowns are the same.
use Rattle.std.specs.Prelude.{Bool, not, List, [], ◌∷◌, map, filter, Option, ℤ}
use Rattle.std.specs.Prelude.{option_map}
use Rattle.std.specs.List.{filter_map}
use Rattle.acc_base.specs.Numbers.{total}
pub use Rattle.acc_base.specs.Collecting.{is_left}
use Rattle.acc_terms.specs.declared.parts.Part.{Part}

-- a term of an unknown: the unknown and the number
abbrev pub with_unknown : {K : Type 0} → Part K → Option (K × ℤ)
with_unknown p = option_map (λ x. (x, p.number)) p.of

-- each unknown once, in the order of first appearance
abbrev pub firsts : {K : Type 0} → (K → K → Bool) → List K → List K
firsts E [] = []
firsts E (x ∷ xs) = x ∷ filter (λ y. not (E y x)) (firsts E xs)

-- all that an unknown is multiplied with
abbrev pub coefficient : {K : Type 0} → (K → K → Bool) → List (K × ℤ) → K → ℤ
coefficient E terms x = total (map (λ t. t.1) (filter (λ t. E t.0 x) terms))

-- one term an unknown
abbrev pub totals : {K : Type 0} → (K → K → Bool) → List (K × ℤ) → List (K × ℤ)
totals E terms = map (λ x. (x, coefficient E terms x)) (firsts E (map (λ t. t.0) terms))

-- one term an unknown, without those that are zero
abbrev pub collected : {K : Type 0} → (K → K → Bool) → List (Part K) → List (K × ℤ)
collected E parts = filter is_left (totals E (filter_map with_unknown parts))
