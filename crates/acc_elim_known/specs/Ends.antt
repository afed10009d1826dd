-- What an elimination ends with, from its stage of equations on, and what is kept of relations.
-- For instance: of x - y = 0 and x - 3 <= 0 the stage sets the equation aside for x, and y is left with y - 3 <= 0. No lower bound of y
-- is there, so it gets the upper one, 3, and by the equation x is 3 too: the point is 3, 3.
use Rattle.std.specs.Prelude.{◌≡◌, ◌≤◌, ◌-◌, ℕ, suc, Bool, List, ◌∷◌, [], ◌++◌, Option, None, Ok, Err, IfSome}
use Rattle.acc_rows.specs.declared.rows.Row.{Row}
use Rattle.acc_base.specs.Computing.{Answers, chain, steps}
use Rattle.acc_rows.specs.Answers.{tells, Computation}
use Rattle.acc_base.specs.Items.{numbers_from}
use Rattle.acc_elim_systems.specs.Systems.{admitted, set_aside, unbounded, crossed}
use Rattle.acc_elim_points.specs.Points.{Point, placed_by, point_of}
use Rattle.acc_elim_points.specs.Searches.{found_by}
use Rattle.acc_elim_stages.specs.declared.stages.Step.{Step}
use Rattle.acc_elim_stages.specs.declared.stages.Stage.{Stage}
use Rattle.acc_elim_known.specs.declared.known.Whole.{Whole}
use Rattle.acc_elim_known.specs.declared.known.Stopped.{Stopped}
use Rattle.acc_elim_known.specs.declared.known.Known.{Known}
use Rattle.acc_elim_known.specs.declared.known.Known.TheVariants as known
use Rattle.acc_elim_stages.specs.Followed.{listed}
use Rattle.acc_elim_stages.specs.Stages.{aside_of, reduced, IsStage}

-- a value for the unknown of a step, by its equation
abbrev pub placed_at : Point → Step → Computation Point
placed_at point s = placed_by point s.aside

-- the point, from the equations set aside and the unknowns left on
abbrev pub found_from : ℕ → List Row → List (ℕ × Row) → List ℕ → Computation Point
found_from unknowns rows aside left =
    chain (steps crossed (unbounded rows) left) (λ b. point_of unknowns (record { aside = aside; bounds = b.bounds }))

-- the same behind a stage of so many unknowns, with one more relation and more unknowns
abbrev pub found_behind : Stage → ℕ → Option Row → ℕ → Computation Point
found_behind g known o unknowns =
    found_from unknowns (g.rows ++ listed o) (aside_of g.path.steps) (g.left ++ numbers_from known (unknowns - known))

abbrev pub is_equation : Row → Bool
is_equation r = r.equal

-- ---- what is kept of relations, with so many unknowns

-- the point that is kept is that of the relations alone
abbrev pub KeepsPoint : Whole → Type 0
KeepsPoint w = IfSome w.point (λ p. found_behind w.stage w.unknowns None w.unknowns ≡ Ok p)

-- their stage of equations
pub record IsWhole (rows : List Row) (n : ℕ) (w : Whole) : Type 0 where
  pub unknowns : w.unknowns ≡ n
  pub stage : IsStage rows n w.stage
  pub point : KeepsPoint w

-- a stage that stops at one of the unknowns
pub record IsStopped (rows : List Row) (n : ℕ) (s : Stopped) : Type 0 where
  pub stage : Stage
  pub unknown : ℕ
  pub within : suc unknown ≤ n
  pub is_stage : IsStage rows unknown stage
  pub path : stage.path ≡ s.path
  pub stops : set_aside (reduced stage) unknown ≡ Err s.stop

abbrev pub IsKnown : List Row → ℕ → Known → Type 0
IsKnown rows n (known.Whole w) = IsWhole rows n w
IsKnown rows n (known.Stopped s) = IsStopped rows n s
IsKnown rows n (known.Unbegun e) = steps admitted [] rows ≡ Err e

abbrev pub HasPoint : Known → Type 0
HasPoint (known.Whole w) = KeepsPoint w
HasPoint (known.Stopped s) = Unit {0}
HasPoint (known.Unbegun e) = Unit {0}

-- this is kept of these relations, with so many unknowns at most
abbrev pub IsKnownWithin : List Row → ℕ → Known → Type 0
IsKnownWithin rows m k = (n : ℕ) × (n ≤ m) × IsKnown rows n k

-- what one is kept of the other is kept of too
abbrev pub StaysKnown : Known → Known → Type 0
StaysKnown k l = (rows : List Row) (n : ℕ) → IsKnown rows n k → IsKnown rows n l

-- an answer is the point of the relations of which this is kept
abbrev pub AnswersKnown : Known → Computation Point → Type 0
AnswersKnown k result = (rows : List Row) (n : ℕ) → IsKnown rows n k → Answers tells result (found_by n rows)

-- the second is kept of the relations of which the first is kept with more unknowns
abbrev pub IsExtended : Known → ℕ → Known → Type 0
IsExtended k m l = (rows : List Row) (n : ℕ) → n ≤ m → IsKnown rows n k → IsKnown rows m l

-- and with one more relation behind them
abbrev pub IsCarried : Known → Row → Known → Type 0
IsCarried k r l = (rows : List Row) (n : ℕ) → IsKnown rows n k → IsKnown (rows ++ r ∷ []) n l

-- and with more of both
abbrev pub IsCarriedOn : Known → ℕ → List Row → Known → Type 0
IsCarriedOn k m more l = (rows : List Row) (n : ℕ) → n ≤ m → IsKnown rows n k → IsKnown (rows ++ more) m l
