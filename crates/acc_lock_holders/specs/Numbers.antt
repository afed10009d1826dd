-- Numbers of which none stands twice, with the room that they have.
use Rattle.std.specs.Prelude.{◌≢◌, ◌<◌, ℕ, Bool, not, ◌==◌, List, [], ◌∷◌, ◌++◌, length, filter, Option, Some, None, MatchOption, nat_lt}
use Rattle.std.specs.Prelude.{if◌then◌else◌, Contains}
use Rattle.std.specs.List.{list_any}

-- the numbers, and for how many there is room
pub record Numbers : Type 0 where
  pub items : List ℕ
  pub room : ℕ

abbrev pub is_among : ℕ → List ℕ → Bool
is_among t ts = list_any (λ u. u == t) ts

-- with this number, last where it wasn't among them
abbrev pub with_number : ℕ → List ℕ → List ℕ
with_number t ts = if is_among t ts then ts else ts ++ t ∷ []

abbrev pub without_number : ℕ → List ℕ → List ℕ
without_number t ts = filter (λ u. not (u == t)) ts

-- the lower of a number and one that may be there
abbrev pub lower_of : Option ℕ → ℕ → ℕ
lower_of None u = u
lower_of (Some m) u = if nat_lt m u then m else u

-- the lowest of a number, which may be there, and of numbers but one
abbrev pub least_but : ℕ → Option ℕ → List ℕ → Option ℕ
least_but t best [] = best
least_but t best (u ∷ us) = least_but t (if u == t then best else Some (lower_of best u)) us

-- there is room for one more
abbrev pub has_room : Numbers → Bool
has_room n = nat_lt (length n.items) n.room

-- the lowest number with P, none where there is none
abbrev pub TellsLeast : (ℕ → Type 0) → Option ℕ → Type 0
TellsLeast P result = MatchOption result ((n : ℕ) → ¬ P n) (λ n. P n × ((m : ℕ) → m < n → ¬ P m))

-- among the numbers, and not this one
abbrev pub IsOther : List ℕ → ℕ → ℕ → Type 0
IsOther ts t u = Contains ts u × (u ≢ t)
