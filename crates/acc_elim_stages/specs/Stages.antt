-- The stage of equations of a system, kept step by step.
use Rattle.std.specs.Prelude.{◌≡◌, ℕ, zero, suc, List, [], ◌∷◌, ◌++◌, map, length, Option, Some, None, Ok}
use Rattle.acc_rows.specs.declared.rows.Row.{Row}
use Rattle.acc_elim_systems.specs.declared.systems.Reduced.{Reduced}
use Rattle.acc_elim_systems.specs.declared.systems.Replaced.{Replaced}
use Rattle.acc_base.specs.Computing.{chain, steps}
use Rattle.acc_rows.specs.Answers.{Computation}
use Rattle.acc_base.specs.Items.{numbers_from}
use Rattle.acc_elim_systems.specs.Systems.{admitted, taken, replaced, whole, set_aside}
use Rattle.acc_elim_systems.specs.Repetitions.{TellBehind}
use Rattle.acc_elim_stages.specs.declared.stages.Step.{Step}
use Rattle.acc_elim_stages.specs.declared.stages.Stage.{Stage}
use Rattle.acc_elim_stages.specs.Followed.{listed}

-- a relation without its multipliers: its form, and whether it is an equation
abbrev pub row_form : Row → Row
row_form r = record r { by = [] }

-- the stage of equations of the first unknowns
abbrev pub begun : List Row → ℕ → Computation Reduced
begun rows unknowns = chain (steps admitted [] rows) (λ system. steps set_aside (whole system) (numbers_from 0 unknowns))

abbrev pub aside_of : List Step → List (ℕ × Row)
aside_of ss = map (λ s. s.aside) ss

abbrev pub reduced : Stage → Reduced
reduced g = record { rows = g.rows; aside = aside_of g.path.steps; left = g.left }

-- with one more relation behind the others, where one is left
abbrev pub with_last : Reduced → Option Row → Reduced
with_last s o = record { rows = s.rows ++ listed o; aside = s.aside; left = s.left }

-- the stage before its first step
abbrev pub first_stage : List Row → Stage
first_stage system = record { path = record { first = map row_form system; steps = [] }; rows = system; left = [] }

-- an unknown is left
abbrev pub with_left : Stage → ℕ → Stage
with_left g u = record { path = g.path; rows = g.rows; left = g.left ++ u ∷ [] }

-- an equation is set aside for its unknown, and this is the system without the unknown
abbrev pub with_aside : Stage → ℕ → Row → Replaced → Stage
with_aside g u e s = record {
  path = record {
    first = g.path.first;
    steps = g.path.steps ++ (record { aside = (u, e); made = s.made; count = length s.rows }) ∷ [];
  };
  rows = s.rows;
  left = g.left;
}

-- this is the stage of these relations before its first step
pub record IsFirst (rows : List Row) (g : Stage) : Type 0 where
  pub system : List Row
  pub admitted : steps admitted [] rows ≡ Ok system
  pub stage : g ≡ first_stage system

-- the second stage is the first behind an equation, the others being these
pub record SetsAside (g : Stage) (u : ℕ) (e : Row) (others : List Row) (h : Stage) : Type 0 where
  pub system : Replaced
  pub rows : steps (replaced u e) [] others ≡ Ok system.rows
  pub tells : TellBehind u others system
  pub stage : h ≡ with_aside g u e system

-- the second stage is the first where one unknown more was looked at, and this equation was taken for it, or none
abbrev pub FollowsBy : Stage → ℕ → Stage → Option (Row × List Row) → Type 0
FollowsBy g u h None = h ≡ with_left g u
FollowsBy g u h (Some t) = SetsAside g u t.0 t.1 h

abbrev pub Follows : Stage → ℕ → Stage → Type 0
Follows g u h = FollowsBy g u h (taken u g.rows)

-- this is the stage of equations of the first unknowns of these relations
abbrev pub IsStage : List Row → ℕ → Stage → Type 0
IsStage rows zero g = IsFirst rows g
IsStage rows (suc n) h = (g : Stage) × IsStage rows n g × Follows g n h
