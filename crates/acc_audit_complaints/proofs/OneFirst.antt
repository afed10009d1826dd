-- The first item of which something is found is one, with what is found.
use Rattle.std.proofs.Common.{◌≡◌, List, [], ◌∷◌, ◌++◌, Option, Some, None, refl, sym, ap, ◌∙◌, subst}
use Rattle.std.specs.List.{AllByRecursion}
use Rattle.std.proofs.lemmas.Option.{none-some}

-- the head of a list that has one, and the rest of a list
head_or : {X : Type 0} → X → List X → X
head_or x [] = x
head_or x (y ∷ ys) = y

rest_of : {X : Type 0} → List X → List X
rest_of [] = []
rest_of (y ∷ ys) = ys

pub head_same : {X : Type 0} (x y : X) (xs ys : List X) → x ∷ xs ≡ y ∷ ys → x ≡ y
unfolding head_or
head_same x y xs ys e = ap (head_or x) e

pub rest_same : {X : Type 0} (x y : X) (xs ys : List X) → x ∷ xs ≡ y ∷ ys → xs ≡ ys
unfolding rest_of
rest_same x y xs ys e = ap rest_of e

-- Of each item one thing is found at most, or nothing.
module _ {X F : Type 0} (Finds : X → Option F → Type 0) (once : (x : X) (f g : Option F) → Finds x f → Finds x g → f ≡ g) where
  -- where nothing is found of any, it isn't found of one of them
  pub none_of_all : (before behind : List X) (x : X) (f : F) → AllByRecursion (λ y. Finds y None) (before ++ x ∷ behind) → Finds x (Some f) → ⊥
  none_of_all [] behind x f a h = none-some f (once x None (Some f) a.0 h)
  none_of_all (y ∷ before) behind x f a h = none_of_all before behind x f a.1 h

  -- the items before the first, and it
  pub record IsOneFirst (before before' : List X) (x x' : X) : Type 0 where
    pub same_before : before ≡ before'
    pub same_first : x ≡ x'

  pub one_first : (before before' behind behind' : List X) (x x' : X) (f f' : F) → before ++ x ∷ behind ≡ before' ++ x' ∷ behind'
      → AllByRecursion (λ y. Finds y None) before → AllByRecursion (λ y. Finds y None) before' → Finds x (Some f) → Finds x' (Some f')
      → IsOneFirst before before' x x'
  one_first [] [] behind behind' x x' f f' e a b h k = record { same_before = refl; same_first = head_same x x' behind behind' e }
  one_first [] (y ∷ ys) behind behind' x x' f f' e a b h k =
      let same : x ≡ y = head_same x y behind (ys ++ x' ∷ behind') e in
      absurd (none-some f (once y None (Some f) b.0 (subst (λ z. Finds z (Some f)) same h)))
  one_first (y ∷ ys) [] behind behind' x x' f f' e a b h k =
      let same : y ≡ x' = head_same y x' (ys ++ x ∷ behind) behind' e in
      absurd (none-some f' (once y None (Some f') a.0 (subst (λ z. Finds z (Some f')) (sym same) k)))
  one_first (y ∷ ys) (z ∷ zs) behind behind' x x' f f' e a b h k =
      let rest =
      one_first ys zs behind behind' x x' f f' (rest_same y z (ys ++ x ∷ behind) (zs ++ x' ∷ behind') e) a.1 b.1 h k in
      record {
        same_before = ap (λ w. w ∷ ys) (head_same y z (ys ++ x ∷ behind) (zs ++ x' ∷ behind') e) ∙ ap (λ ws. z ∷ ws) rest.same_before;
        same_first = rest.same_first;
      }
