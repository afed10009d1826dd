-- Two lists, by the numbers of their items.
use Rattle.std.proofs.Common.{◌≡◌, ℕ, zero, suc, ◌<◌, List, [], ◌∷◌, length, get_or, arith}
use Rattle.std.specs.List.{AllZip}

-- where they are of one length and a relation holds at each number, it holds item by item
pub zipped : {A B : Type 0} (R : A → B → Type 0) (xs : List A) (ys : List B) → length ys ≡ length xs
    → ((i : ℕ) (d : A) (e : B) → i < length xs → R (get_or xs i d) (get_or ys i e)) → AllZip R xs ys
zipped R [] [] long each = tt
zipped R [] (y ∷ ys) long each = absurd (omega (arith, long))
zipped R (x ∷ xs) [] long each = absurd (omega (arith, long))
zipped R (x ∷ xs) (y ∷ ys) long each = (
  each zero x y (omega arith),
  zipped R xs ys (omega (arith, long)) (λ i d e within. each (suc i) d e (omega (arith, within))),
)
