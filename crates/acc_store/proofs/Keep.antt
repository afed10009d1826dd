-- An item that is set among the first of a list.
use Rattle.std.proofs.Common.{◌≡◌, ℕ, zero, suc, ◌<◌, List, [], ◌∷◌, take, set, ap, refl, arith}

pub set-take : {X : Type 0} (n : ℕ) (xs : List X) (i : ℕ) (x : X) → i < n → take n (set xs i x) ≡ set (take n xs) i x
set-take zero xs i x h = absurd (omega arith)
set-take (suc n) [] i x h = refl
set-take (suc n) (y ∷ ys) zero x h = refl
set-take (suc n) (y ∷ ys) (suc i) x h = ap (λ zs. y ∷ zs) (set-take n ys i x (omega arith))
