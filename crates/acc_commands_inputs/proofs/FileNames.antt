-- The words that name files, and those that name points.
use Rattle.std.proofs.Common.{◌≡◌, ℕ, ◌+◌, ◌-◌, List, map, take, drop, sym, ap, ◌∙◌, arith}
use Rattle.std.proofs.lemmas.List.{take-map, drop-map}

-- so many words behind others, as bytes
pub slice_is :
    {X : Type 0} (f : X → List ℕ) (words : List X) (from count a n : ℕ) → a ≡ from → n ≡ count
    → map f (take (a + n - a) (drop a words)) ≡ take count (drop from (map f words))
slice_is f words from count a n first many =
    let all : a + n - a ≡ count = omega (arith, many) in
    (λ i. map f (take (all i) (drop (first i) words))) ∙ sym (take-map f count (drop from words)) ∙ ap (take count) (sym (drop-map f from words))
