-- Names of which none is defined twice stand at the places that they are looked up at.
use Rattle.std.proofs.Common.{◌≡◌, ◌<◌, ◌≤◌, ◌^◌, ℕ, zero, suc, true, false, List, [], ◌∷◌, ◌++◌, length, Option, Some, None, refl, sym, ap}
use Rattle.std.proofs.Common.{◌∙◌, arith}
use Rattle.std.specs.Prelude.{nat_lt, option_map, unwrap_or, is_some}
use Rattle.std.specs.Str.{bytes_eq}
use Rattle.std.proofs.lemmas.Bool.{or_parts}
use Rattle.std.proofs.lemmas.Bool.Decides.{nat_tests}
use Rattle.std.proofs.lemmas.List.Folds.{list_any-append}
use Rattle.std.proofs.lemmas.Slice.Eq.{bytes_eq-Decides}
use Rattle.acc_parse_names.specs.Names.{stands_in, defines_again}
use Rattle.acc_parse_names.specs.Places.{place_of}
use Rattle.acc_parse_names.proofs.Placed.{placed_stands}
use Rattle.acc_parse_clauses.specs.Scopes.{fitted, number_of}
use Rattle.acc_print.specs.Names.{name_at}
use Rattle.acc_parse_readback.specs.Printable.{IsName, AreNew}

-- a name that can be spelled is there
pub there : (names : List (List ℕ)) (i : ℕ) → IsName (name_at names i) → i < length names
there [] i h = absurd h.0
there (x ∷ xs) zero h = omega arith
there (x ∷ xs) (suc i) h = let e = there xs i h in omega arith

-- behind earlier names: it is none of these
pub new_apart : (earlier names : List (List ℕ)) (i : ℕ) → AreNew earlier names → i < length names →
    stands_in (name_at names i) earlier ≡ false
new_apart earlier [] i new lt = absurd (omega arith)
new_apart earlier (x ∷ xs) zero new lt = (or_parts (stands_in x earlier) (defines_again (earlier ++ x ∷ []) xs) new).0
new_apart earlier (x ∷ xs) (suc i) new lt =
    let h = new_apart (earlier ++ x ∷ []) xs i (or_parts (stands_in x earlier) (defines_again (earlier ++ x ∷ []) xs) new).1
    (omega arith) in
    (or_parts (stands_in (name_at xs i) earlier) (stands_in (name_at xs i) (x ∷ []))
    (sym (list_any-append (bytes_eq (name_at xs i)) earlier (x ∷ [])) ∙ h)).0

-- a new name stands at its own place
pub place_new : (earlier names : List (List ℕ)) (i : ℕ) → AreNew earlier names → i < length names →
    place_of (name_at names i) names ≡ Some i
place_new earlier [] i new lt = absurd (omega arith)
place_new earlier (x ∷ xs) zero new lt = rw ((bytes_eq-Decides x x).1 refl) refl
place_new earlier (x ∷ xs) (suc i) new lt =
    let rest = (or_parts (stands_in x earlier) (defines_again (earlier ++ x ∷ []) xs) new).1 in
    let apart = new_apart (earlier ++ x ∷ []) xs i rest (omega arith) in
    let last = (or_parts (stands_in (name_at xs i) earlier) (stands_in (name_at xs i) (x ∷ []))
    (sym (list_any-append (bytes_eq (name_at xs i)) earlier (x ∷ [])) ∙ apart)).1 in
    rw (or_parts (bytes_eq (name_at xs i) x) false last).0 (ap (option_map suc) (place_new (earlier ++ x ∷ []) xs i rest (omega arith)))

none_of : (o : Option ℕ) → is_some o ≡ false → o ≡ None
none_of None h = refl
none_of (Some n) h = absurd cc

-- what is none of the names has no place
pub place_none : (x : List ℕ) (names : List (List ℕ)) → stands_in x names ≡ false → place_of x names ≡ None
place_none x names h = none_of (place_of x names) (placed_stands x names ∙ h)

-- a number of 32 bits stays as it is
pub fitted_small : (n : ℕ) → n < 2 ^ 32 → fitted n ≡ n
fitted_small n h = let e : nat_lt n (2 ^ 32) ≡ true = grind (arith, nat_tests) in rw e refl

-- the number of a new name, where there are few
pub number_new : (names : List (List ℕ)) (i : ℕ) → AreNew [] names → length names ≤ 2 ^ 32 → IsName (name_at names i) →
    number_of (name_at names i) names ≡ i
number_new names i new few h =
    let lt = there names i h in ap (λ (o : Option ℕ). fitted (unwrap_or o 0)) (place_new [] names i new lt) ∙ fitted_small i (omega arith)
