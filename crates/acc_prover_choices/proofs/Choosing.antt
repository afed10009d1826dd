-- Choices of one item of each list, with one list more.
use Rattle.std.proofs.Common.{◌≡◌, Bool, true, false, if◌then◌else◌, List, [], ◌∷◌, ◌++◌, map, refl, ap, sym, ◌∙◌}
use Rattle.std.specs.Prelude.{filter, flat_map}
use Rattle.std.specs.List.{AllByRecursion}
use Rattle.std.proofs.lemmas.Simd.{map-map}
use Rattle.std.proofs.lemmas.List.{append-nil, map-append}
use Rattle.std.proofs.lemmas.List.Concat.{flat_map-append, flat_map_single}
use Rattle.std.proofs.lemmas.List.Folds.{flat_map-map}
use Rattle.acc_prover_choices.specs.Choices.{choices}

-- ---- lists of lists

pub flat_map-flat_map : {A B C : Type 0} (g : B → List C) (f : A → List B) (xs : List A)
    → flat_map g (flat_map f xs) ≡ flat_map (λ x. flat_map g (f x)) xs
flat_map-flat_map g f [] = refl
flat_map-flat_map g f (x ∷ xs) =
    flat_map-append g (f x) (flat_map f xs) ∙ ap (λ ys. flat_map g (f x) ++ ys) (flat_map-flat_map g f xs)

pub map-flat_map : {A B C : Type 0} (g : B → C) (f : A → List B) (xs : List A)
    → map g (flat_map f xs) ≡ flat_map (λ x. map g (f x)) xs
map-flat_map g f [] = refl
map-flat_map g f (x ∷ xs) =
    map-append g (f x) (flat_map f xs) ∙ ap (λ ys. map g (f x) ++ ys) (map-flat_map g f xs)

pub same_flat : {A B : Type 0} (P : A → Type 0) (f g : A → List B) → ((x : A) → P x → f x ≡ g x) → (xs : List A)
    → AllByRecursion P xs → flat_map f xs ≡ flat_map g xs
same_flat P f g same [] h = refl
same_flat P f g same (x ∷ xs) h = λ i. same x h.0 i ++ same_flat P f g same xs h.1 i

-- one item of each that passes a test
pub passing : {A B : Type 0} (test : A → Bool) (f : A → B) (xs : List A)
    → flat_map (λ x. if test x then f x ∷ [] else []) xs ≡ map f (filter test xs)
passing test f [] = refl
passing test f (x ∷ xs) = by (test x) (passing test f xs)
  where
    by : (b : Bool) → flat_map (λ x. if test x then f x ∷ [] else []) xs ≡ map f (filter test xs)
        → (if b then f x ∷ [] else []) ++ flat_map (λ x. if test x then f x ∷ [] else []) xs ≡ map f (if b then (x ∷ filter test xs) else
        filter test xs)
    by true h = ap (λ ys. f x ∷ ys) h
    by false h = h

-- ---- what holds of each item

all_append : {A : Type 0} (P : A → Type 0) (xs ys : List A) → AllByRecursion P xs → AllByRecursion P ys → AllByRecursion P (xs ++ ys)
all_append P [] ys h g = g
all_append P (x ∷ xs) ys h g = (h.0, all_append P xs ys h.1 g)

all_map : {A B : Type 0} (P : A → Type 0) (Q : B → Type 0) (f : A → B) → ((x : A) → P x → Q (f x)) → (xs : List A)
    → AllByRecursion P xs → AllByRecursion Q (map f xs)
all_map P Q f on [] h = tt
all_map P Q f on (x ∷ xs) h = (on x h.0, all_map P Q f on xs h.1)

all_flat : {A B : Type 0} (P : A → Type 0) (Q : B → Type 0) (f : A → List B) → ((x : A) → P x → AllByRecursion Q (f x)) → (xs : List A)
    → AllByRecursion P xs → AllByRecursion Q (flat_map f xs)
all_flat P Q f on [] h = tt
all_flat P Q f on (x ∷ xs) h = all_append Q (f x) (flat_map f xs) (on x h.0) (all_flat P Q f on xs h.1)

-- ---- choices

none : {Y : Type 0} (ys : List Y) → flat_map (λ y. map (λ (c : List Y). y ∷ c) []) ys ≡ []
none [] = refl
none (y ∷ ys) = none ys

module _ {X : Type 0} where
  -- of one list alone
  pub choices_one : (xs : List X) → choices (xs ∷ []) ≡ map (λ x. x ∷ []) xs
  choices_one xs = flat_map_single (λ x. x ∷ []) xs

  -- a last list
  pub choices_last : (lists : List (List X)) (xs : List X)
      → choices (lists ++ xs ∷ []) ≡ flat_map (λ c. map (λ x. c ++ x ∷ []) xs) (choices lists)
  choices_last [] xs = choices_one xs ∙ sym (append-nil (map (λ x. x ∷ []) xs))
  choices_last (ys ∷ lists) xs =
      ap (λ cs. flat_map (λ y. map (λ c. y ∷ c) cs) ys) (choices_last lists xs)
      ∙ ((λ i. flat_map (λ y. turn y i) ys)
      ∙ sym (flat_map-flat_map (λ c. map (λ x. c ++ x ∷ []) xs) (λ y. map (λ c. y ∷ c) (choices lists)) ys))
    where
      turn : (y : X) → map (λ c. y ∷ c) (flat_map (λ c. map (λ x. c ++ x ∷ []) xs) (choices lists))
          ≡ flat_map (λ c. map (λ x. c ++ x ∷ []) xs) (map (λ c. y ∷ c) (choices lists))
      turn y =
          map-flat_map (λ c. y ∷ c) (λ c. map (λ x. c ++ x ∷ []) xs) (choices lists)
          ∙ ((λ i. flat_map (λ c. map-map (λ d. y ∷ d) (λ x. c ++ x ∷ []) xs i) (choices lists))
          ∙ sym (flat_map-map (λ c. map (λ x. c ++ x ∷ []) xs) (λ c. y ∷ c) (choices lists)))

  -- where a list has no item there is no choice
  pub choices_none : (lists : List (List X)) → choices lists ≡ [] → (xs : List X) → choices (xs ∷ lists) ≡ []
  choices_none lists e xs = ap (λ cs. flat_map (λ x. map (λ c. x ∷ c) cs) xs) e ∙ none xs

module _ {X Y : Type 0} (key : X → Y) (of : Y → List X) (keyed : (y : Y) → AllByRecursion (λ x. key x ≡ y) (of y)) where
  -- each choice is of these, one after the other
  pub choices_of : (ys : List Y) → AllByRecursion (λ c. map key c ≡ ys) (choices (map of ys))
  choices_of [] = (refl, tt)
  choices_of (y ∷ ys) =
      all_flat (λ x. key x ≡ y) (λ c. map key c ≡ y ∷ ys) (λ x. map (λ c. x ∷ c) (choices (map of ys)))
      (λ x e. all_map (λ c. map key c ≡ ys) (λ c. map key c ≡ y ∷ ys) (λ c. x ∷ c) (λ c h. λ i. e i ∷ h i) (choices (map of ys))
      (choices_of ys)) (of y) (keyed y)
