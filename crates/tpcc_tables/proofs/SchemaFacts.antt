-- What a walk over the schema has found.
use Rattle.std.proofs.Common.{◌≡◌, ℕ, ◌+◌, ◌<◌, suc, List, [], ◌∷◌, ◌++◌, length, map, take, drop, get_or, refl, ap, sym, ◌∙◌, subst}
use Rattle.std.proofs.Common.{arith, All}
use Rattle.std.proofs.Common.{Option, Some, None}
use Rattle.std.specs.Prelude.{IsSome, is_some, unwrap_or}
use Rattle.std.proofs.Math.Seq.{drop-cons}
use Rattle.std.proofs.lemmas.List.{take-append-drop, length-take-le, take_more, map_push}
use Rattle.std.proofs.lemmas.List.Elements.{All-nil, All-cons}
use Rattle.acc_base.specs.declared.tables.Table.{Table}
use Rattle.tpcc_tables.specs.declared.tables.SchemaTable.{SchemaTable}
use Rattle.tpcc_tables.specs.Schema.{number_in, IsFirstLacking}

heads : {X : Type 0} (d : X) → List X → X
heads d [] = d
heads d (x ∷ xs) = x

tails : {X : Type 0} → List X → List X
tails [] = []
tails (x ∷ xs) = xs

-- lists of numbers that are found alike are one
pub same_numbers : (ns ms : List ℕ) → map Some ns ≡ map Some ms → ns ≡ ms
unfolding heads tails
same_numbers [] [] e = refl
same_numbers [] (m ∷ ms) e = cc
same_numbers (n ∷ ns) [] e = cc
same_numbers (n ∷ ns) (m ∷ ms) e =
    let first : n ≡ m = ap (λ os. unwrap_or (heads None os) 0) e in
    let rest = same_numbers ns ms (ap (λ os. tails os) e) in
    λ i. first i ∷ rest i

-- each of the tables for which a number was found is there
pub all_found : {T : Type 0} (f : T → Option ℕ) (ns : List ℕ) (ts : List T) → map Some ns ≡ map f ts → All (λ t. IsSome (f t)) ts
unfolding heads tails
all_found f ns [] e = All-nil (λ t. IsSome (f t))
all_found f [] (t ∷ ts) e = cc
all_found f (n ∷ ns) (t ∷ ts) e =
    let first : Some n ≡ f t = ap (λ os. heads None os) e in
    All-cons (λ x. IsSome (f x)) t ts (ap is_some (sym first)) (all_found f ns ts (ap (λ os. tails os) e))

-- an item with what stands before it and behind it
split_at : {T : Type 0} (xs : List T) (i : ℕ) (d : T) → i < length xs → xs ≡ take i xs ++ get_or xs i d ∷ drop (i + 1) xs
split_at xs i d l =
    let more : suc i ≡ i + 1 = omega arith in
    sym (take-append-drop i xs) ∙ ap (λ ys. take i xs ++ ys) (drop-cons xs i d l ∙ ap (λ k. get_or xs i d ∷ drop k xs) more)

-- the first table that isn't found, behind so many that are
pub first_lacking : (tables : List Table) (schema : List SchemaTable) (ns : List ℕ) (i : ℕ) (d : SchemaTable) → i < length schema
    → map Some ns ≡ map (number_in tables) (take i schema) → length ns ≡ i → number_in tables (get_or schema i d) ≡ None
    → IsFirstLacking tables schema (length ns + 1)
first_lacking tables schema ns i d l found many none = record {
  before = take i schema;
  wanted = get_or schema i d;
  behind = drop (i + 1) schema;
  split = split_at schema i d l;
  nth = let long = length-take-le i schema (omega (arith, l)) in omega (arith, many, long);
  lacks = none;
  there = all_found (number_in tables) ns (take i schema) found;
}

-- one table more that is found
pub found_next : {T : Type 0} (f : T → Option ℕ) (ns : List ℕ) (ts : List T) (i : ℕ) (d : T) (n : ℕ) → i < length ts
    → map Some ns ≡ map f (take i ts) → Some n ≡ f (get_or ts i d) → map Some (ns ++ n ∷ []) ≡ map f (take (i + 1) ts)
found_next f ns ts i d n l found its =
    map_push Some ns n ∙ (λ j. found j ++ its j ∷ [])
    ∙ sym (ap (map f) (take_more ts i d l) ∙ map_push f (take i ts) (get_or ts i d))
