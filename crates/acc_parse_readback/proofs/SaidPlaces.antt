-- What stands at the number of a name is what has the name.
use Rattle.std.proofs.Common.{◌≡◌, ℕ, zero, suc, ◌^◌, ◌<◌, ◌≤◌, Bool, true, false, cond, List, [], ◌∷◌, length, map, Option, Some, None}
use Rattle.std.proofs.Common.{refl, ap, sym, ◌∙◌, subst, inl, inr, arith, if◌then◌else◌}
use Rattle.std.specs.Prelude.{option_map, slice_get, nat_lt, is_some, is_none, unwrap_or}
use Rattle.std.specs.List.{find}
use Rattle.std.specs.Str.{bytes_eq}
use Rattle.std.proofs.lemmas.Bool.{cases_Bool}
use Rattle.std.proofs.lemmas.Bool.Decides.{nat_tests}
use Rattle.std.proofs.lemmas.Slice.Eq.{bytes_eq-Decides}
use Rattle.std.proofs.lemmas.Option.{slice_get_within}
use Rattle.acc_grammar.specs.Readers.{AllIn}
use Rattle.acc_parse_names.specs.Names.{stands_in}
use Rattle.acc_parse_names.specs.Places.{place_of}
use Rattle.acc_parse_names.proofs.Placed.{placed_stands}
use Rattle.acc_parse_clauses.specs.Scopes.{fitted, number_of}

-- a small number is itself
pub fitted_same : (n : ℕ) → n < 2 ^ 32 → fitted n ≡ n
fitted_same n h = let less : nat_lt n (2 ^ 32) ≡ true = grind (arith, nat_tests) in ap (λ (b : Bool). if b then n else 0) less

next_at : (b : Bool) (o : Option ℕ) (i : ℕ) → cond b (Some 0) (option_map suc o) ≡ Some (suc i) → (b ≡ false) × (o ≡ Some i)
next_at true o i e = absurd (cc)
next_at false None i e = absurd (cc)
next_at false (Some j) i e = (refl, cc)

first_at : (b : Bool) (o : Option ℕ) → cond b (Some 0) (option_map suc o) ≡ Some zero → b ≡ true
first_at true o e = refl
first_at false None e = absurd (cc)
first_at false (Some j) e = absurd (cc)

-- a name stands at its place
pub placed_there : (x : List ℕ) (names : List (List ℕ)) (i : ℕ) → place_of x names ≡ Some i → slice_get names i ≡ Some x
placed_there x [] i e = absurd (cc)
placed_there x (y ∷ ys) zero e = ap Some (sym ((bytes_eq-Decides x y).0 (first_at (bytes_eq x y) (place_of x ys) e)))
placed_there x (y ∷ ys) (suc i) e = placed_there x ys i (next_at (bytes_eq x y) (place_of x ys) i e).1

-- what has a place
pub record IsPlacedAt (x : List ℕ) (names : List (List ℕ)) : Type 0 where
  pub number : ℕ
  pub is : place_of x names ≡ Some number
  pub there : slice_get names number ≡ Some x
  pub within : number < length names

some_there : (o : Option ℕ) → is_some o ≡ true → (n : ℕ) × (o ≡ Some n)
some_there None h = absurd cc
some_there (Some n) h = (n, refl)

pub stands_there : (x : List ℕ) (names : List (List ℕ)) → stands_in x names ≡ true → IsPlacedAt x names
stands_there x names h =
    let found = some_there (place_of x names) (placed_stands x names ∙ h) in
    let there = placed_there x names found.0 found.1 in
    record { number = found.0; is = found.1; there = there; within = slice_get_within names found.0 x there }

pub number_at : (x : List ℕ) (names : List (List ℕ)) (i : ℕ) → place_of x names ≡ Some i → i < 2 ^ 32 → number_of x names ≡ i
number_at x names i e h = ap (λ o. fitted (unwrap_or o 0)) e ∙ fitted_same i h

-- at the number of a name that stands among some stands the name
pub named_there : (x : List ℕ) (names : List (List ℕ)) → stands_in x names ≡ true → length names ≤ 2 ^ 32 →
    slice_get names (number_of x names) ≡ Some x
named_there x names h few =
    let p = stands_there x names h in
    let small : p.number < 2 ^ 32 = let within = p.within in omega (arith, within, few) in
    ap (slice_get names) (number_at x names p.number p.is small) ∙ p.there

some_place : (b : Bool) (o : Option ℕ) (k : ℕ) → b ≡ false → o ≡ Some k → cond b (Some 0) (option_map suc o) ≡ Some (suc k)
some_place b o k e f = ap (λ (c : Bool). cond c (Some 0) (option_map suc o)) e ∙ ap (option_map suc) f

-- the first item of a name, and its place
pub record IsFoundAt {T : Type 0} (name : T → List ℕ) (x : List ℕ) (ts : List T) (t : T) : Type 0 where
  pub number : ℕ
  pub is : place_of x (map name ts) ≡ Some number
  pub there : slice_get ts number ≡ Some t

pub found_there : {T : Type 0} (name : T → List ℕ) (x : List ℕ) (ts : List T) (t : T) → find (λ u. bytes_eq x (name u)) ts ≡ Some t →
    IsFoundAt name x ts t
found_there name x [] t e = absurd cc
found_there {T} name x (u ∷ us) t e =
    elim (cases_Bool (bytes_eq x (name u))) [
      | inl h ↦ record {
        number = 0;
        is = ap (λ (b : Bool). cond b (Some 0) (option_map suc (place_of x (map name us)))) h;
        there =
            sym (ap (λ (b : Bool). cond b (Some u) (find (λ v. bytes_eq x (name v)) us)) h) ∙ e;
      }
      | inr h ↦
          let later = found_there name x us t (sym (ap (λ (b : Bool). cond b (Some u) (find (λ v. bytes_eq x (name v)) us)) h) ∙ e) in
          record {
            number = suc later.number;
            is = some_place (bytes_eq x (name u)) (place_of x (map name us)) later.number h later.is;
            there = later.there;
          }
    ]

-- at the number of the name stands what is found by the name
pub found_numbered : {T : Type 0} (name : T → List ℕ) (x : List ℕ) (ts : List T) (t : T) → find (λ u. bytes_eq x (name u)) ts ≡ Some t →
    length ts ≤ 2 ^ 32 → slice_get ts (number_of x (map name ts)) ≡ Some t
found_numbered name x ts t e few =
    let p = found_there name x ts t e in
    let within = slice_get_within ts p.number t p.there in
    let small : p.number < 2 ^ 32 = omega (arith, within, few) in
    ap (slice_get ts) (number_at x (map name ts) p.number p.is small) ∙ p.there

-- what is found by a name has it
pub found_has : {T : Type 0} (name : T → List ℕ) (x : List ℕ) (ts : List T) (t : T) → find (λ u. bytes_eq x (name u)) ts ≡ Some t →
    name t ≡ x
found_has name x [] t e = absurd cc
found_has name x (u ∷ us) t e =
    elim (cases_Bool (bytes_eq x (name u))) [
      | inl h ↦ let same : u ≡ t = let one = sym (ap (λ (b : Bool). cond b (Some u) (find (λ v. bytes_eq x (name v)) us)) h) ∙ e in cc in
          ap name (sym same) ∙ sym ((bytes_eq-Decides x (name u)).0 h)
      | inr h ↦ found_has name x us t (sym (ap (λ (b : Bool). cond b (Some u) (find (λ v. bytes_eq x (name v)) us)) h) ∙ e)
    ]

-- what holds of each holds of what is found
pub found_all : {T : Type 0} (P : T → Type 0) (test : T → Bool) (ts : List T) (t : T) → find test ts ≡ Some t → AllIn P ts → P t
found_all P test [] t e h = absurd cc
found_all P test (u ∷ us) t e h =
    elim (cases_Bool (test u)) [
      | inl g ↦ let same : u ≡ t = let one = sym (ap (λ (b : Bool). cond b (Some u) (find test us)) g) ∙ e in cc in subst P same h.0
      | inr g ↦ found_all P test us t (sym (ap (λ (b : Bool). cond b (Some u) (find test us)) g) ∙ e) h.1
    ]

-- what is found, where something is
pub some_found : {T U : Type 0} (f : T → U) (o : Option T) → is_none (option_map f o) ≡ false → (t : T) × (o ≡ Some t)
some_found f None h = absurd cc
some_found f (Some t) h = (t, refl)
