-- Bytes that are clones of others, one by one, are the same.
use Rattle.std.proofs.Common.{◌≡◌, ℕ, List, [], ◌∷◌, refl}
use Rattle.std.specs.List.{AllZip}

pub same_bytes : (xs ys : List ℕ) → AllZip (λ x y. y ≡ x) xs ys → ys ≡ xs
same_bytes [] [] h = refl
same_bytes [] (y ∷ ys) h = absurd h
same_bytes (x ∷ xs) [] h = absurd h
same_bytes (x ∷ xs) (y ∷ ys) h = let rest = same_bytes xs ys h.1 in λ i. h.0 i ∷ rest i
