-- Numbers one after the other, from the first on.
use Rattle.std.proofs.Common.{◌≡◌, ℕ, zero, suc, ◌+◌, ◌<◌, Bool, true, false, List, [], ◌∷◌, ◌++◌, map, refl, ap, sym, ◌∙◌, arith, add-one}
use Rattle.std.specs.Prelude.{◌&&◌}
use Rattle.std.specs.List.{list_all}
use Rattle.std.proofs.lemmas.List.{map-append}
use Rattle.std.proofs.lemmas.List.Folds.{list_all-append}
use Rattle.acc_base.specs.Items.{numbers_from}

one_more : (first n : ℕ) → numbers_from first (suc n) ≡ numbers_from first n ++ (first + n) ∷ []
one_more first zero = let e : first ≡ first + 0 = omega arith in ap (λ (x : ℕ). x ∷ []) e
one_more first (suc n) =
    let e : (first + 1) + n ≡ first + suc n = omega arith in
    ap (λ (xs : List ℕ). first ∷ xs) (one_more (first + 1) n)
    ∙ ap (λ (x : ℕ). first ∷ (numbers_from (first + 1) n ++ x ∷ [])) e

pub numbers_more : (first n : ℕ) → numbers_from first (n + 1) ≡ numbers_from first n ++ (first + n) ∷ []
numbers_more first n = ap (numbers_from first) (add-one n) ∙ one_more first n

-- one number more, in a map over them
pub map_more : {X : Type 0} (f : ℕ → X) (first n : ℕ) → map f (numbers_from first (n + 1)) ≡ map f (numbers_from first n) ++ f (first + n) ∷ []
map_more f first n = ap (map f) (numbers_more first n) ∙ map-append f (numbers_from first n) ((first + n) ∷ [])

-- and from 0 on
pub map_one_more : {X : Type 0} (f : ℕ → X) (n : ℕ) → map f (numbers_from 0 (n + 1)) ≡ map f (numbers_from 0 n) ++ f n ∷ []
map_one_more f n =
    let e : 0 + n ≡ n = omega arith in
    map_more f 0 n ∙ ap (λ (x : ℕ). map f (numbers_from 0 n) ++ f x ∷ []) e

pub all_one_more : (p : ℕ → Bool) (n : ℕ) → list_all p (numbers_from 0 (n + 1)) ≡ (list_all p (numbers_from 0 n) && p n)
all_one_more p n =
    let e : 0 + n ≡ n = omega arith in
    ap (list_all p) (numbers_more 0 n) ∙ (list_all-append p (numbers_from 0 n) ((0 + n) ∷ []) ∙ last (list_all p (numbers_from 0 n)) (p (0 + n))
    ∙ ap (λ (x : ℕ). list_all p (numbers_from 0 n) && p x) e)
  where
    last : (a b : Bool) → (a && (b && true)) ≡ (a && b)
    last true true = refl
    last true false = refl
    last false b = refl

-- some number fails the test
fails_from : (p : ℕ → Bool) (first n i : ℕ) → i < n → p (first + i) ≡ false → list_all p (numbers_from first n) ≡ false
fails_from p first zero i within h = absurd (omega arith)
fails_from p first (suc n) zero within h =
    let e : first + 0 ≡ first = omega arith in
    ap (λ b. b && list_all p (numbers_from (first + 1) n)) (ap p (sym e) ∙ h)
fails_from p first (suc n) (suc i) within h =
    let e : (first + 1) + i ≡ first + suc i = omega arith in
    ap (λ b. p first && b) (fails_from p (first + 1) n i (omega arith) (ap p e ∙ h)) ∙ never (p first)
  where
    never : (b : Bool) → (b && false) ≡ false
    never true = refl
    never false = refl

pub all_fails : (p : ℕ → Bool) (n i : ℕ) → i < n → p i ≡ false → list_all p (numbers_from 0 n) ≡ false
all_fails p n i within h = let e : 0 + i ≡ i = omega arith in fails_from p 0 n i within (ap p e ∙ h)
