-- The places of names, after a name is put at the end.
use Rattle.std.proofs.Common.{◌≡◌, ℕ, suc, ◌<◌, Bool, true, false, cond, List, [], ◌∷◌, ◌++◌, length, Option, Some, None, refl, sym, ap}
use Rattle.std.proofs.Common.{◌∙◌, inl, inr, arith}
use Rattle.std.specs.Prelude.{option_map, is_some, IfSome, ◌||◌}
use Rattle.std.specs.Str.{bytes_eq}
use Rattle.std.proofs.lemmas.Bool.{cases_Bool}
use Rattle.std.proofs.lemmas.Slice.Eq.{bytes_eq-Decides}
use Rattle.acc_parse_names.specs.Names.{stands_in}
use Rattle.acc_parse_names.specs.Places.{place_of}

same_bytes : (x y : List ℕ) → bytes_eq x y ≡ true → x ≡ y
same_bytes x y h = (bytes_eq-Decides x y).0 h

bytes_same : (x y : List ℕ) → x ≡ y → bytes_eq x y ≡ true
bytes_same x y e = (bytes_eq-Decides x y).1 e

some_tail : (b : Bool) (o : Option ℕ) → is_some (cond b (Some 0) (option_map suc o)) ≡ (b || is_some o)
some_tail true o = refl
some_tail false None = refl
some_tail false (Some n) = refl

pub placed_stands : (x : List ℕ) (names : List (List ℕ)) → is_some (place_of x names) ≡ stands_in x names
placed_stands x [] = refl
placed_stands x (y ∷ ys) = some_tail (bytes_eq x y) (place_of x ys) ∙ ap (λ b. bytes_eq x y || b) (placed_stands x ys)

next_within : (n : ℕ) (b : Bool) (o : Option ℕ) → IfSome o (λ p. p < n) → IfSome (cond b (Some 0) (option_map suc o)) (λ p. p < suc n)
next_within n true o h = omega arith
next_within n false None h = tt
next_within n false (Some p) h = omega (arith, h)

-- a name's place is one of theirs
pub placed_within : (x : List ℕ) (names : List (List ℕ)) → IfSome (place_of x names) (λ p. p < length names)
placed_within x [] = tt
placed_within x (y ∷ ys) = next_within (length ys) (bytes_eq x y) (place_of x ys) (placed_within x ys)

-- the first of two
abbrev first_of : Option ℕ → Option ℕ → Option ℕ
first_of None q = q
first_of (Some n) q = Some n

-- a place where the test holds
abbrev at_if : Bool → ℕ → Option ℕ
at_if b n = cond b (Some n) None

later : (p : Option ℕ) (b : Bool) (n : ℕ) → option_map suc (first_of p (at_if b n)) ≡ first_of (option_map suc p) (at_if b (suc n))
later (Some k) b n = refl
later None true n = refl
later None false n = refl

pushed : (x y : List ℕ) (ys : List (List ℕ)) → place_of x (ys ++ y ∷ []) ≡ first_of (place_of x ys) (at_if (bytes_eq x y) (length ys))
pushed x y [] = refl
pushed x y (z ∷ zs) =
    elim (cases_Bool (bytes_eq x z)) [
      | inl h ↦ rw h refl
      | inr h ↦ rw h (ap (option_map suc) (pushed x y zs) ∙ later (place_of x zs) (bytes_eq x y) (length zs))
    ]

nothing_behind : (p : Option ℕ) → first_of p None ≡ p
nothing_behind None = refl
nothing_behind (Some n) = refl

some_first : (p q : Option ℕ) → is_some p ≡ true → first_of p q ≡ p
some_first None q h = absurd cc
some_first (Some n) q h = refl

none_first : (p q : Option ℕ) → is_some p ≡ false → first_of p q ≡ q
none_first None q h = refl
none_first (Some n) q h = absurd cc

-- a name that was there keeps its place
pub place_again : (x y : List ℕ) (ys : List (List ℕ)) → stands_in y ys ≡ true → place_of x (ys ++ y ∷ []) ≡ place_of x ys
place_again x y ys h =
    pushed x y ys ∙ elim (cases_Bool (bytes_eq x y)) [
      | inl e ↦ some_first (place_of x ys) _ (placed_stands x ys ∙ ap (λ z. stands_in z ys) (same_bytes x y e) ∙ h)
      | inr n ↦ rw n (nothing_behind (place_of x ys))
    ]

-- a new name stands behind the others
pub place_fresh : (x y : List ℕ) (ys : List (List ℕ)) → stands_in y ys ≡ false →
    place_of x (ys ++ y ∷ []) ≡ cond (bytes_eq y x) (Some (length ys)) (place_of x ys)
place_fresh x y ys h =
    pushed x y ys ∙ elim (cases_Bool (bytes_eq y x)) [
      | inl e ↦ (let same = same_bytes y x e in let back = bytes_same x y (sym same) in
          rw (e, back) (none_first (place_of x ys) _ (placed_stands x ys ∙ ap (λ z. stands_in z ys) (sym same) ∙ h)))
      | inr n ↦ elim (cases_Bool (bytes_eq x y)) [
        | inl e ↦ absurd (let wrong = bytes_same y x (sym (same_bytes x y e)) in cc)
        | inr m ↦ rw (n, m) (nothing_behind (place_of x ys))
      ]
    ]
