-- Lists of what has no number of more than 64 bits.
use Rattle.std.proofs.Common.{◌≡◌, true, List, [], ◌∷◌, refl}
use Rattle.std.specs.List.{list_all}

pub none_wide : {A : Type 0} → (xs : List A) → list_all (λ (x : A). true) xs ≡ true
none_wide [] = refl
none_wide (x ∷ xs) = none_wide xs
