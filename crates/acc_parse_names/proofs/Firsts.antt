-- The first that is marked has the least number.
use Rattle.std.proofs.Common.{◌≡◌, ℕ, ◌+◌, ◌≤◌, Bool, true, false, List, [], ◌∷◌, refl, sym, subst, ◌∙◌, arith}
use Rattle.std.specs.Prelude.{Option, All, position}
use Rattle.std.specs.List.{position_from}
use Rattle.std.proofs.lemmas.List.Elements.{All-cons}
use Rattle.std.proofs.lemmas.Iterator.Adapters.{position_from-zero}
use Rattle.acc_parse_names.specs.Least.{IsLeastOf, marked_from}

above : (n m : ℕ) (bs : List Bool) → n ≤ m → All (λ k. n ≤ k) (marked_from m bs)
above n m [] h = λ k d l. absurd (omega arith)
above n m (true ∷ bs) h = All-cons (λ k. n ≤ k) m (marked_from (m + 1) bs) h (above n (m + 1) bs (omega arith))
above n m (false ∷ bs) h = above n (m + 1) bs (omega arith)

least_from : (n : ℕ) (bs : List Bool) → IsLeastOf (position_from (λ b. b) n bs) (marked_from n bs)
least_from n [] = refl
least_from n (true ∷ bs) =
    ((0, omega arith, refl), All-cons (λ k. n ≤ k) n (marked_from (n + 1) bs) (omega arith) (above n (n + 1) bs (omega arith)))
least_from n (false ∷ bs) = least_from (n + 1) bs

pub least_is : (bs : List Bool) (o : Option ℕ) → o ≡ position (λ b. b) bs → IsLeastOf o (marked_from 0 bs)
least_is bs o e = let P : Option ℕ → Type 0 = λ z. IsLeastOf z (marked_from 0 bs) in
    subst P (sym (e ∙ position_from-zero (λ b. b) bs)) (least_from 0 bs)
