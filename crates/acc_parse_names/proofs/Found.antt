-- What is found by the place of its name is the first of that name.
use Rattle.std.proofs.Common.{◌≡◌, ℕ, suc, List, [], ◌∷◌, length, get_or, nat_lt, map, Option, Some, None, refl, ap, sym, ◌∙◌, inl, inr}
use Rattle.std.proofs.Common.{Bor, arith}
use Rattle.std.specs.Prelude.{option_map, option_and_then, option_copied, slice_get, is_some, IfSome}
use Rattle.std.specs.List.{find}
use Rattle.std.specs.Str.{bytes_eq}
use Rattle.std.proofs.lemmas.Bool.{cases_Bool}
use Rattle.std.proofs.lemmas.Bool.Decides.{nat_tests}
use Rattle.std.proofs.lemmas.Option.{slice_get_past, slice_get_read}
use Rattle.acc_parse_names.specs.Places.{place_of}

behind : {U : Type 0} (u : U) (us : List U) (p : Option ℕ) →
    option_and_then (slice_get (u ∷ us)) (option_map suc p) ≡ option_and_then (slice_get us) p
behind u us None = refl
behind u us (Some n) = refl

found : {T U : Type 0} (name : T → List ℕ) (part : T → U) (x : List ℕ) (ts : List T)
    → option_and_then (slice_get (map part ts)) (place_of x (map name ts)) ≡ option_map part (find (λ t. bytes_eq x (name t)) ts)
found name part x [] = refl
found name part x (t ∷ ts) =
    elim (cases_Bool (bytes_eq x (name t))) [
      | inl h ↦ rw h refl
      | inr h ↦ rw h (behind (part t) (map part ts) (place_of x (map name ts)) ∙ found name part x ts)
    ]

pub found_by : {T U : Type 0} (name : T → List ℕ) (part : T → U) (x : List ℕ) (ts : List T) (names : List (List ℕ)) (parts : List U)
    (place : Option ℕ)
    → names ≡ map name ts → parts ≡ map part ts → place ≡ place_of x names →
    option_and_then (slice_get parts) place ≡ option_map part (find (λ t. bytes_eq x (name t)) ts)
found_by name part x ts names parts place n p e =
    (λ k. option_and_then (slice_get (p k)) (e k)) ∙ ap (λ z. option_and_then (slice_get (map part ts)) (place_of x z)) n ∙ found name part
    x ts

-- an item that a look-up at a number gives, or none
pub got : {X : Type 0} (xs : List X) (i : ℕ) (r : Option (Bor X)) → is_some r ≡ nat_lt i (length xs) →
    IfSome r (λ x. x.now ≡ get_or xs i x.now) → option_copied r ≡ slice_get xs i
got xs i None h e = sym (slice_get_past xs i (grind (arith, nat_tests)))
got xs i (Some x) h e = sym (slice_get_read xs (length xs) i x.now refl (grind (arith, nat_tests)) e)
