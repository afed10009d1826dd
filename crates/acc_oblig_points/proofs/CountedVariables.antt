-- One more of what is made of variables that are counted, and of names.
use Rattle.std.proofs.Common.{◌≡◌, ℕ, zero, suc, ◌+◌, List, [], ◌∷◌, ◌++◌, map, refl, ap, ◌∙◌, arith}
use Rattle.std.specs.Prelude.{replicate}
use Rattle.std.proofs.lemmas.List.{map-append}
use Rattle.acc_oblig.specs.Relations.{is_nothing, alone}
use Rattle.acc_oblig.specs.PointRules.{zeros}
use Rattle.acc_oblig.proofs.Counting.{numbers_more}
use Rattle.acc_base.specs.Items.{numbers_from}

zeros_push : (xs : List ℕ) (y : ℕ) → zeros (xs ++ y ∷ []) ≡ zeros xs ++ is_nothing y ∷ []
zeros_push [] y = refl
zeros_push (x ∷ xs) y = ap (λ z. is_nothing x ∷ z) (zeros_push xs y)

pub zeros_more : (x n : ℕ) → zeros (numbers_from x (n + 1)) ≡ zeros (numbers_from x n) ++ is_nothing (x + n) ∷ []
zeros_more x n = ap zeros (numbers_more x n) ∙ zeros_push (numbers_from x n) (x + n)

pub alone_more : (x n : ℕ) → map alone (numbers_from x (n + 1)) ≡ map alone (numbers_from x n) ++ alone (x + n) ∷ []
alone_more x n = ap (map alone) (numbers_more x n) ∙ map-append alone (numbers_from x n) ((x + n) ∷ [])

pub one_more : {T : Type 0} (t : T) (n : ℕ) → replicate (n + 1) t ≡ replicate n t ++ t ∷ []
one_more t n = let e : n + 1 ≡ suc n = omega arith in ap (λ k. replicate k t) e ∙ by n
  where
    by : (n : ℕ) → replicate (suc n) t ≡ replicate n t ++ t ∷ []
    by zero = refl
    by (suc n) = ap (λ z. t ∷ z) (by n)
