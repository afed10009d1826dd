-- Two keys that agree up to the end of one of them compare as their lengths do.
use Rattle.std.proofs.Common.{◌≡◌, ℕ, ◌+◌, ◌<◌, List, [], ◌∷◌, ℤ, length, length-drop, drop, min, refl, arith, suc}
use Rattle.std.specs.declared.cmp.Ordering.{Ordering}
use Rattle.std.specs.declared.cmp.Ordering.TheVariants.{Less, Equal, Greater}
use Rattle.std.specs.Ordering.{nat_cmp, int_cmp, MatchOrdering}
use Rattle.std.specs.Cmp.{ranked}
use Rattle.std.specs.Cmp.Lexicographic.{slice_cmp}

abbrev Ranks : Ordering → ℕ → ℕ → Type 0
Ranks r m n = MatchOrdering r (m < n) (m ≡ n) (n < m)

-- one of the two has ended
by_lengths : (xs ys : List ℤ) (r : Ordering) → min (length xs) (length ys) ≡ 0 → Ranks r (length xs) (length ys) → r ≡ slice_cmp int_cmp xs ys
by_lengths [] [] Less m h = absurd (omega arith)
by_lengths [] [] Equal m h = refl
by_lengths [] [] Greater m h = absurd (omega arith)
by_lengths [] (y ∷ ys) Less m h = refl
by_lengths [] (y ∷ ys) Equal m h = let e : 0 ≡ suc (length ys) = h in absurd (omega arith)
by_lengths [] (y ∷ ys) Greater m h = let l : suc (length ys) < 0 = h in absurd (omega arith)
by_lengths (x ∷ xs) [] Less m h = let l : suc (length xs) < 0 = h in absurd (omega arith)
by_lengths (x ∷ xs) [] Equal m h = let e : suc (length xs) ≡ 0 = h in absurd (omega arith)
by_lengths (x ∷ xs) [] Greater m h = refl
by_lengths (x ∷ xs) (y ∷ ys) r m h = let e : min (suc (length xs)) (suc (length ys)) ≡ 0 = m in absurd (omega arith)

shifted : (a b i c d : ℕ) (r : Ordering) → i ≡ min a b → c + i ≡ a → d + i ≡ b → Ranks r a b → Ranks r c d
shifted a b i c d Less m p q h = let l : a < b = h in omega arith
shifted a b i c d Equal m p q h = let e : a ≡ b = h in omega arith
shifted a b i c d Greater m p q h = let l : b < a = h in omega arith

pub rest_ended : (xs ys : List ℤ) (i : ℕ) (r : Ordering) → i ≡ min (length xs) (length ys) → r ≡ nat_cmp (length xs) (length ys)
    → r ≡ slice_cmp int_cmp (drop i xs) (drop i ys)
rest_ended xs ys i r m h =
    let p = length-drop i xs in
    let q = length-drop i ys in
    by_lengths (drop i xs) (drop i ys) r (omega arith)
    (shifted (length xs) (length ys) i (length (drop i xs)) (length (drop i ys)) r m (omega arith) (omega arith) (ranked _ _ r h))
