-- Items with names of which none is defined twice are found by their names.
use Rattle.std.proofs.Common.{◌≡◌, ◌<◌, ◌≤◌, ◌^◌, ℕ, zero, suc, false, List, [], ◌∷◌, ◌++◌, length, map, Option, Some, refl, sym, ap, subst}
use Rattle.std.proofs.Common.{◌∙◌, arith}
use Rattle.std.specs.Prelude.{option_map, unwrap_or, slice_get}
use Rattle.std.specs.List.{find}
use Rattle.std.specs.Str.{bytes_eq}
use Rattle.std.proofs.lemmas.Bool.{or_parts}
use Rattle.std.proofs.lemmas.List.{length-map}
use Rattle.std.proofs.lemmas.List.Folds.{list_any-append}
use Rattle.std.proofs.lemmas.Option.{slice_get-map, slice_get_within}
use Rattle.std.proofs.lemmas.Slice.Eq.{bytes_eq-Decides}
use Rattle.acc_grammar.specs.Readers.{AllIn}
use Rattle.acc_parse_names.specs.Names.{stands_in, defines_again}
use Rattle.acc_parse_clauses.specs.Scopes.{fitted, number_of}
use Rattle.acc_print.specs.Names.{name_at}
use Rattle.acc_parse_readback.specs.Printable.{AreNew}
use Rattle.acc_parse_readback.proofs.NamePlaces.{new_apart, place_new, fitted_small}

-- what each has, one that is looked up has
pub looked_up : {X : Type 0} (P : X → Type 0) (xs : List X) (i : ℕ) (x : X) → AllIn P xs → slice_get xs i ≡ Some x → P x
looked_up P [] i x all e = absurd cc
looked_up P (y ∷ ys) zero x all e = subst P (let same : y ≡ x = cc in same) all.0
looked_up P (y ∷ ys) (suc i) x all e = looked_up P ys i x all.1 e

pub mapped_at : {X Y : Type 0} (f : X → Y) (xs : List X) (i : ℕ) (x : X) → slice_get xs i ≡ Some x → slice_get (map f xs) i ≡ Some (f x)
mapped_at f xs i x e = slice_get-map f xs i ∙ ap (option_map f) e

-- the names of trees
pub trees_named : {X Y : Type 0} (name : X → List ℕ) (tree : X → Y) (called : Y → List ℕ) → ((x : X) → called (tree x) ≡ name x) →
    (xs : List X) → map called (map tree xs) ≡ map name xs
trees_named name tree called same [] = refl
trees_named name tree called same (x ∷ xs) = λ i. same x i ∷ trees_named name tree called same xs i

name_of_item : {X : Type 0} (name : X → List ℕ) (xs : List X) (i : ℕ) (x : X) → slice_get xs i ≡ Some x → name_at (map name xs) i ≡ name x
name_of_item name xs i x e = ap (λ (o : Option (List ℕ)). unwrap_or o []) (mapped_at name xs i x e)

within : {X : Type 0} (name : X → List ℕ) (xs : List X) (i : ℕ) (x : X) → slice_get xs i ≡ Some x → i < length (map name xs)
within name xs i x e = omega (arith, length-map xs name, slice_get_within xs i x e)

-- its number is its name's
pub number_item : {X : Type 0} (name : X → List ℕ) (xs : List X) (names : List (List ℕ)) (i : ℕ) (x : X) → names ≡ map name xs →
    AreNew [] (map name xs) → length xs ≤ 2 ^ 32 → slice_get xs i ≡ Some x → number_of (name x) names ≡ i
number_item name xs names i x are new few e =
    let lt = within name xs i x e in
    ap (number_of (name x)) are ∙ (ap (λ (y : List ℕ). number_of y (map name xs)) (sym (name_of_item name xs i x e))
    ∙ (ap (λ (o : Option ℕ). fitted (unwrap_or o 0)) (place_new [] (map name xs) i new lt) ∙ fitted_small i
    (omega (arith, length-map xs name))))

-- and its tree is the first of that name
found_behind : {X Y : Type 0} (name : X → List ℕ) (tree : X → Y) (called : Y → List ℕ) → ((x : X) → called (tree x) ≡ name x)
    → (earlier : List (List ℕ)) (xs : List X) (i : ℕ) (x : X) → AreNew earlier (map name xs) → slice_get xs i ≡ Some x →
    find (λ y. bytes_eq (name x) (called y)) (map tree xs) ≡ Some (tree x)
found_behind name tree called same earlier [] i x new e = absurd cc
found_behind name tree called same earlier (u ∷ us) zero x new e =
    let here : x ≡ u = cc in
    rw ((bytes_eq-Decides (name x) (called (tree u))).1 (ap name here ∙ sym (same u))) (ap (λ y. Some (tree y)) (sym here))
found_behind name tree called same earlier (u ∷ us) (suc i) x new e =
    let rest = (or_parts (stands_in (name u) earlier) (defines_again (earlier ++ name u ∷ []) (map name us)) new).1 in
    let apart = ap (λ (y : List ℕ). stands_in y (earlier ++ name u ∷ [])) (sym (name_of_item name us i x e)) ∙ new_apart
    (earlier ++ name u ∷ []) (map name us) i rest (within name us i x e) in
    let last = (or_parts (stands_in (name x) earlier) (stands_in (name x) (name u ∷ []))
    (sym (list_any-append (bytes_eq (name x)) earlier (name u ∷ [])) ∙ apart)).1 in
    let other = ap (bytes_eq (name x)) (same u) ∙ (or_parts (bytes_eq (name x) (name u)) false last).0 in
    rw other (found_behind name tree called same (earlier ++ name u ∷ []) us i x rest e)

pub found_item : {X Y : Type 0} (name : X → List ℕ) (tree : X → Y) (called : Y → List ℕ) → ((x : X) → called (tree x) ≡ name x)
    → (xs : List X) (i : ℕ) (x : X) → AreNew [] (map name xs) → slice_get xs i ≡ Some x →
    find (λ y. bytes_eq (name x) (called y)) (map tree xs) ≡ Some (tree x)
found_item name tree called same xs i x new e = found_behind name tree called same [] xs i x new e
