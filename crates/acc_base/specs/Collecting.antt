-- Terms, collected: a sum an unknown, in the order in which the unknowns first appear. E tells whether two unknowns are the same.
use Rattle.std.specs.Prelude.{◌≡◌, ℕ, suc, Bool, not, if◌then◌else◌, List, [], ◌∷◌, map, Option, Some, None, option_map, ℤ, pos, ◌+ℤ◌, ◌*ℤ◌}
use Rattle.std.specs.Ordering.{int_eq}
use Rattle.std.specs.declared.cmp.Ordering.{Ordering}
use Rattle.std.specs.BTreeMap.{BTreeMap, get_by}
use Rattle.std.specs.Borrow.{Bor}
use Rattle.acc_base.specs.Numbers.{total}

-- ---- the sum of one unknown

-- 0 where it has none
abbrev pub sum_of : {K : Type 0} → (K → K → Bool) → K → List (K × ℤ) → ℤ
sum_of E x [] = pos 0
sum_of E x (t ∷ rest) = if E t.0 x then t.1 else sum_of E x rest

-- its place, from 0
abbrev pub place_of : {K : Type 0} → (K → K → Bool) → K → List (K × ℤ) → Option ℕ
place_of E x [] = None
place_of E x (t ∷ rest) = if E t.0 x then Some 0 else option_map suc (place_of E x rest)

-- the sums when n is its sum, which comes last where it is new
abbrev pub with_sum : {K : Type 0} → (K → K → Bool) → K → ℤ → List (K × ℤ) → List (K × ℤ)
with_sum E x n [] = (x, n) ∷ []
with_sum E x n (t ∷ rest) = if E t.0 x then ((t.0, n) ∷ rest) else (t ∷ with_sum E x n rest)

-- ---- terms, one after the other

-- one more term: its number is added to the sum of its unknown, which comes last where it is new
abbrev pub with_term : {K : Type 0} → (K → K → Bool) → K → ℤ → List (K × ℤ) → List (K × ℤ)
with_term E x n [] = (x, n) ∷ []
with_term E x n (t ∷ rest) = if E t.0 x then ((t.0, t.1 +ℤ n) ∷ rest) else (t ∷ with_term E x n rest)

abbrev pub with_terms : {K : Type 0} → (K → K → Bool) → List (K × ℤ) → List (K × ℤ) → List (K × ℤ)
with_terms E sums [] = sums
with_terms E sums (t ∷ ts) = with_terms E (with_term E t.0 t.1 sums) ts

abbrev pub multiple : {K : Type 0} → ℤ → K × ℤ → K × ℤ
multiple by t = (t.0, by *ℤ t.1)

-- a term that is not zero
abbrev pub is_left : {K : Type 0} → K × ℤ → Bool
is_left t = not (int_eq t.1 (pos 0))

-- ---- what terms are worth, where each unknown is worth what v gives

abbrev pub term_worth : {K : Type 0} → (K → ℤ) → K × ℤ → ℤ
term_worth v t = t.1 *ℤ v t.0

abbrev pub worth : {K : Type 0} → (K → ℤ) → List (K × ℤ) → ℤ
worth v terms = total (map (term_worth v) terms)

-- ---- how the code keeps them: unknowns that are borrowed, and a map that has the place of each

abbrev pub sums_in : {K : Type 0} → List (Bor K × ℤ) → List (K × ℤ)
sums_in sums = map (λ t. (t.0.now, t.1)) sums

abbrev pub Tracks : {K : Type 0} → (K → K → Bool) → (K → K → Ordering) → List (K × ℤ) → BTreeMap (Bor K) ℕ → Type 0
Tracks {K} E cmp sums places = (x : K) → get_by (λ k. cmp x k.now) places ≡ place_of E x sums
