-- Items of a list that are replaced one after the other.
use Rattle.std.proofs.Common.{ℕ, ◌+◌, ◌<◌, ◌≤◌, List, [], ◌∷◌, ◌++◌, length, take, drop, set, get_or, refl, subst, arith}
use Rattle.std.specs.Prelude.{All}
use Rattle.std.proofs.lemmas.Grind.{take-set_at}
use Rattle.std.proofs.lemmas.List.{drop-set-lt, drop_more, take_all}
use Rattle.std.proofs.lemmas.List.Elements.{All-same, All-push, All-head, All-tail}

module _ {X : Type 0} (P : X → Type 0) (xs : List X) (i : ℕ) where
  pub done_more : (y : X) → i < length xs → All P (take i xs) → P y → All P (take (i + 1) (set xs i y))
  done_more y within h p =
      All-same P (take (i + 1) (set xs i y)) (take i xs ++ y ∷ []) (take-set_at xs i (i + 1) y refl within) (All-push P (take i xs) y h p)

  pub left_more : (y : X) → i < length xs → All P (drop i xs) → All P (drop (i + 1) (set xs i y))
  left_more y within h =
      All-same P (drop (i + 1) (set xs i y)) (drop (i + 1) xs) (drop-set-lt (i + 1) xs i y (omega arith))
      (All-tail P (get_or xs i y) (drop (i + 1) xs) (subst (All P) (drop_more xs i y within) h))

  pub left_first : (d : X) → i < length xs → All P (drop i xs) → P (get_or xs i d)
  left_first d within h = All-head P (get_or xs i d) (drop (i + 1) xs) (subst (All P) (drop_more xs i d within) h)

  pub all_done : length xs ≤ i → All P (take i xs) → All P xs
  all_done whole h = subst (All P) (take_all i xs whole) h
