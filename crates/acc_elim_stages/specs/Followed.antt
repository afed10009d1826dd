-- What is left of a relation that comes behind others, in their stage of equations.
-- For instance: the first system is x - y = 0 and x - 3 <= 0, and its one step sets the equation aside for x, which makes y - 3 <= 0. Of
-- one more relation, 2 - x <= 0, all is left in the first system, since it repeats none there; the step takes x out of it, so 2 - y <= 0
-- is left behind the steps. Of x - 3 <= 0 once more nothing is left: it repeats one of the first system.
use Rattle.std.specs.Prelude.{ℕ, nat_le, Bool, ◌&&◌, ◌||◌, if◌then◌else◌, List, [], ◌∷◌, length, Option, Some, None, Ok, Err}
use Rattle.std.specs.List.{list_any}
use Rattle.acc_rows.specs.declared.stops.Stop.TheVariants.{Refuted, Many}
use Rattle.acc_rows.specs.declared.rows.Row.{Row}
use Rattle.acc_base.specs.Computing.{chain, steps}
use Rattle.acc_rows.specs.Answers.{Computation}
use Rattle.acc_rows.specs.Rows.{cleared}
use Rattle.acc_elim_systems.specs.declared.systems.TheConstants.{MOST_RELATIONS}
use Rattle.acc_elim_systems.specs.Systems.{is_false, repeats, is_constant, is_without}
use Rattle.acc_elim_stages.specs.declared.stages.Step.{Step}
use Rattle.acc_elim_stages.specs.declared.stages.Path.{Path}

abbrev pub listed : Option Row → List Row
listed None = []
listed (Some r) = r ∷ []

-- what is left of one more relation of a system of so many, where it is known whether it repeats one
abbrev pub left_of : Bool → ℕ → Row → Computation (Option Row)
left_of is_repeated count r =
    if is_constant r then (if is_false r then Err (Refuted r) else Ok None)
    else (if is_repeated then Ok None else (if nat_le MOST_RELATIONS count then Err Many else Ok (Some r)))

-- whether a relation repeats one of the system behind steps, of which the last comes first: it repeats one that was made there, or
-- lacks the unknown and repeats one of the system before
abbrev pub told : List Row → List Step → Row → Bool
told first [] r = list_any (repeats r) first
told first (s ∷ earlier) r = list_any (repeats r) s.made || (is_without s.aside.0 r && told first earlier r)

-- what is left behind a step
abbrev pub followed_at : List Row → List Step → Step → Option Row → Computation (Option Row)
followed_at first earlier s None = Ok None
followed_at first earlier s (Some r) =
    chain (cleared s.aside.0 s.aside.1 r) (λ m. left_of (told first (s ∷ earlier) m) s.count m)

-- the steps so far, the last first, and what is left behind them
abbrev pub Following : Type 0
Following = List Step × Option Row

abbrev pub followed : List Row → Following → Step → Computation Following
followed first x s = chain (followed_at first x.0 s x.1) (λ o. Ok (s ∷ x.0, o))

-- what is left behind all steps
abbrev pub followed_all : Path → Option Row → Computation (Option Row)
followed_all p o = chain (steps (followed p.first) ([], o) p.steps) (λ x. Ok x.1)

-- what is left of one more relation of the first system
abbrev pub left_first : List Row → Row → Computation (Option Row)
left_first first r = left_of (list_any (repeats r) first) (length first) r

-- and what is left of it behind all steps
abbrev pub through : Path → Row → Computation (Option Row)
through p r = chain (left_first p.first r) (followed_all p)
