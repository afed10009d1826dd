-- Lists of numbers in range, by the test and by the fact.
use Rattle.std.proofs.Common.{◌≡◌, true, List, [], ◌∷◌, ◌++◌, refl, arith, ℤ}
use Rattle.std.specs.Prelude.{All}
use Rattle.std.specs.List.{list_all}
use Rattle.std.specs.Cmp.{first_so, second_so}
use Rattle.std.specs.Cmp.Derive.{both_true}
use Rattle.std.proofs.lemmas.Bool.Decides.{nat_tests}
use Rattle.std.proofs.lemmas.List.Elements.{All-nil, All-cons}
use Rattle.acc_base.specs.Numbers.{is_small, IsSmall}

pub small_is : (x : ℤ) → is_small x ≡ true → IsSmall x
small_is x h = grind (arith, nat_tests)

pub all_small : (xs : List ℤ) → list_all is_small xs ≡ true → All IsSmall xs
all_small [] h = All-nil IsSmall
all_small (x ∷ xs) h =
    All-cons IsSmall x xs (small_is x (first_so (is_small x) (list_all is_small xs) h))
    (all_small xs (second_so (is_small x) (list_all is_small xs) h))

pub small_front : (xs ys : List ℤ) → list_all is_small (xs ++ ys) ≡ true → list_all is_small xs ≡ true
small_front [] ys h = refl
small_front (x ∷ xs) ys h =
    both_true (first_so (is_small x) (list_all is_small (xs ++ ys)) h)
    (small_front xs ys (second_so (is_small x) (list_all is_small (xs ++ ys)) h))

pub small_back : (xs ys : List ℤ) → list_all is_small (xs ++ ys) ≡ true → list_all is_small ys ≡ true
small_back [] ys h = h
small_back (x ∷ xs) ys h = small_back xs ys (second_so (is_small x) (list_all is_small (xs ++ ys)) h)

pub small_last : (xs : List ℤ) (x : ℤ) → list_all is_small (xs ++ x ∷ []) ≡ true → IsSmall x
small_last xs x h = small_is x (first_so (is_small x) true (small_back xs (x ∷ []) h))
