-- A relation that is carried along behind others: what the path of their stage notes of it.
-- For instance: the path is that of x - y = 0 and x - 3 <= 0, whose one step sets the equation aside for x. The relation 2 - x <= 0 is
-- left in the first system; the step changes it, so its note is that it made 2 - y <= 0, which is left. The path with it has 2 - x <= 0
-- behind its first system's relations, 2 - y <= 0 behind those that its step made, and one relation more in that step's count.
use Rattle.std.specs.Prelude.{◌≡◌, ℕ, suc, nat_lt, Bool, true, false, ◌&&◌, if◌then◌else◌, List, [], ◌∷◌, ◌++◌, reverse}
use Rattle.std.specs.Prelude.{Option, Some, None, Ok}
use Rattle.acc_rows.specs.declared.rows.Row.{Row}
use Rattle.acc_base.specs.Computing.{chain}
use Rattle.acc_rows.specs.Answers.{Computation}
use Rattle.acc_rows.specs.Rows.{has}
use Rattle.acc_elim_systems.specs.declared.systems.TheConstants.{MOST_RELATIONS}
use Rattle.acc_elim_stages.specs.declared.stages.Step.{Step}
use Rattle.acc_elim_stages.specs.declared.stages.Path.{Path}
use Rattle.acc_elim_stages.specs.declared.stages.Stage.{Stage}
use Rattle.acc_elim_stages.specs.declared.carrying.Note.{Note}
use Rattle.acc_elim_stages.specs.Followed.{listed, left_first, followed_at}
use Rattle.acc_elim_stages.specs.Stages.{row_form}

abbrev pub has_unknown : ℕ → Option Row → Bool
has_unknown u None = false
has_unknown u (Some r) = has u r

-- what a step notes of what is left of a relation there, where it is known whether the step changed it
abbrev pub note_of : Bool → Option Row → Note
note_of is_changed None = record { made = None; is_left = false }
note_of is_changed (Some m) = record { made = if is_changed then Some (row_form m) else None; is_left = true }

-- how many relations a system has with one more, where one is left
abbrev pub count_with : Bool → ℕ → ℕ
count_with is_left count = if is_left && nat_lt count MOST_RELATIONS then suc count else count

abbrev pub noted : Step → Note → Step
noted s n = record { aside = s.aside; made = s.made ++ listed n.made; count = count_with n.is_left s.count }

abbrev pub noted_once : Step → Option Note → Step
noted_once s None = s
noted_once s (Some n) = noted s n

-- steps with their notes
abbrev pub all_noted : List Step → List Note → List Step
all_noted [] ns = []
all_noted (s ∷ ss) [] = s ∷ all_noted ss []
all_noted (s ∷ ss) (n ∷ ns) = noted s n ∷ all_noted ss ns

-- the notes of steps, and what is left of a relation behind them; the last comes first
abbrev pub Noticed : Type 0
Noticed = List Note × Option Row

abbrev pub noticed_at : List Row → List Step → Step → Noticed → Computation Noticed
noticed_at first earlier s x =
    chain (followed_at first earlier s x.1) (λ p. Ok (note_of (has_unknown s.aside.0 x.1) p ∷ x.0, p))

abbrev pub noticed : List Row → List Step → Option Row → Computation Noticed
noticed first [] o = Ok ([], o)
noticed first (s ∷ earlier) o = chain (noticed first earlier o) (noticed_at first earlier s)

-- the path with a relation of which this is left before its first step, and these are the notes
abbrev pub path_with : Path → Option Row → List Note → Path
path_with p o ns = record { first = p.first ++ listed (note_of true o).made; steps = reverse (all_noted (reverse p.steps) ns) }

-- the stage with that relation, of which this is left behind the steps
abbrev pub stage_with : Stage → Option Row → Noticed → Stage
stage_with g o x = record { path = path_with g.path o x.0; rows = g.rows ++ listed x.1; left = g.left }

-- the second path is the first with this relation, of which that is left behind the steps
pub record IsCarriedAlong (p : Path) (r : Row) (q : Path) (left : Option Row) : Type 0 where
  pub rest : Option Row
  pub notes : List Note
  pub first : left_first p.first r ≡ Ok rest
  pub trail : noticed p.first (reverse p.steps) rest ≡ Ok (notes, left)
  pub path : q ≡ path_with p rest notes
