-- Histories of events as plain lists, and places in them.
use Rattle.std.specs.Prelude.{◌≡◌, ◌≢◌, ℕ, ◌+◌, ◌==◌, cond, ltb, List, [], ◌∷◌, length, take, slice_get, Option, Some, None}
use Rattle.std.specs.List.{Contains, count_by}
use Rattle.acc_base.specs.declared.machines.Event.{Event}
use Rattle.acc_plain.specs.Taken.{number_in}

abbrev pub one_for_none : Option ℕ → ℕ
one_for_none None = 1
one_for_none (Some t) = 0

-- how many transactions were begun
abbrev pub begins : List Event → ℕ
begins [] = 0
begins (e ∷ es) = one_for_none (number_in e) + begins es

-- how often the place stands in `mine`
abbrev pub times : ℕ → List (ℕ × Event) → ℕ
times k mine = count_by (λ x. k == x.0) mine

-- the begin of transaction t stands in `mine`
pub record Owns (seen : List Event) (mine : List (ℕ × Event)) (t : ℕ) : Type 0 where
  pub place : ℕ
  pub event : Event
  pub stands : Contains mine (place, event)
  pub is_begin : number_in event ≡ None
  pub number : begins (take place seen) + 1 ≡ t

-- where the begin of a transaction stands in `mine`, all its events stand there
abbrev pub Closed : List Event → List (ℕ × Event) → Type 0
Closed log mine = (t j : ℕ) (e : Event) → Owns log mine t → slice_get log j ≡ Some e → number_in e ≡ Some t → Contains mine (j, e)

-- each place in `mine` lies within `seen`, with its event
abbrev pub Placed : List Event → List (ℕ × Event) → Type 0
Placed seen mine = (k : ℕ) (e : Event) → Contains mine (k, e) → slice_get seen k ≡ Some e

-- the next event may be one of this `mine`: a begin that is the first event of its number, or an event of an owned transaction
abbrev pub MayAppendBy : List Event → List (ℕ × Event) → Option ℕ → Type 0
MayAppendBy seen mine None = (j : ℕ) (e : Event) → slice_get seen j ≡ Some e → number_in e ≢ Some (begins seen + 1)
MayAppendBy seen mine (Some t) = Owns seen mine t

abbrev pub MayAppend : List Event → List (ℕ × Event) → Event → Type 0
MayAppend seen mine e = MayAppendBy seen mine (number_in e)

-- the longer of two lists, the first where they are as long
abbrev pub longer : {A : Type 0} → List A → List A → List A
longer xs ys = cond (ltb (length xs) (length ys)) ys xs
