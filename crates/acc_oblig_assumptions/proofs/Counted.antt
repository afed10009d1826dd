-- One more of the relations on variables that are counted.
use Rattle.std.proofs.Common.{◌≡◌, ℕ, ◌+◌, List, [], ◌∷◌, ◌++◌, refl, ap, sym, ◌∙◌, append_assoc}
use Rattle.acc_oblig.specs.Relations.{value_bounds}
use Rattle.acc_oblig.specs.Settings.{all_bounds}
use Rattle.acc_oblig.proofs.Counting.{numbers_more}
use Rattle.acc_base.specs.Items.{numbers_from}

bounds_push : (xs : List ℕ) (y : ℕ) → all_bounds (xs ++ y ∷ []) ≡ all_bounds xs ++ value_bounds y
bounds_push [] y = refl
bounds_push (x ∷ xs) y = ap (λ z. value_bounds x ++ z) (bounds_push xs y)

pub bounds_more : (x n : ℕ) → all_bounds (numbers_from x (n + 1)) ≡ all_bounds (numbers_from x n) ++ value_bounds (x + n)
bounds_more x n = ap all_bounds (numbers_more x n) ∙ bounds_push (numbers_from x n) (x + n)

-- a list that has grown twice
pub grown_by :
    {T : Type 0} (start before now xs ys both : List T) → before ≡ start ++ xs → now ≡ before ++ ys → both ≡ xs ++ ys → now ≡ start ++ both
grown_by start before now xs ys both e f g =
    f ∙ (ap (λ z. z ++ ys) e ∙ (append_assoc start xs ys ∙ ap (λ z. start ++ z) (sym g)))
