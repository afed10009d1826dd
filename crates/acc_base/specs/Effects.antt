-- What a step does with the rows and its frame.
use Rattle.std.specs.Prelude.{ℕ, ◌+◌, Bool, if◌then◌else◌, List, [], ◌∷◌, Option, Some, None, option_and_then, slice_get, ℤ}
use Rattle.std.specs.List.{list_all}
use Rattle.acc_base.specs.declared.tables.Row.{Row}
use Rattle.acc_base.specs.declared.steps.Target.{Target}
use Rattle.acc_base.specs.declared.steps.Target.TheVariants.{Point as ToPoint, Commit, Undone, Refuse}
use Rattle.acc_base.specs.declared.steps.Path.{Path}
use Rattle.acc_base.specs.declared.steps.Step.{Step}
use Rattle.acc_base.specs.declared.designs.Point.{Point}
use Rattle.acc_base.specs.declared.designs.Design.{Design}
use Rattle.acc_base.specs.declared.designs.Side.{Side}
use Rattle.acc_base.specs.declared.designs.Side.TheVariants.{Next, Undo}
use Rattle.acc_base.specs.declared.machines.Frame.{Frame}
use Rattle.acc_base.specs.Linear.{variables, lin_rel_true}
use Rattle.acc_base.specs.Reads.{Reading, unread, after_reads}
use Rattle.acc_base.specs.Actions.{after_actions}

-- ---- the step of a frame

abbrev pub point_of : Design → ℕ → ℕ → Option Point
point_of d ty p = option_and_then (λ x. slice_get x.points p) (slice_get d.types ty)

abbrev pub step_at : Side → Point → Step
step_at Next p = p.next
step_at Undo p = p.undo

abbrev pub step_of : Design → ℕ → ℕ → Side → Option Step
step_of d ty p side = option_and_then (λ x. Some (step_at side x)) (point_of d ty p)

-- ---- the effect

-- what a step does: it leaves rows, locals and a place on the tape, and leads on or ends; or it refuses; or a number leaves the range
pub data Effect : Type 0 where
  Goes : (rows : List Row) (reading : Reading) (path : ℕ) (to : Target) → Effect
  Refuses : (reading : Reading) (n : ℕ) → Effect
  OutOfRange : Effect

-- the place of the first item that passes, where the first of the list has place i
abbrev pub first_from : {X : Type 0} → (X → Bool) → ℕ → List X → Option ℕ
first_from test i [] = None
first_from test i (x ∷ xs) = if test x then Some i else first_from test (i + 1) xs

-- the first path whose guard is true
abbrev pub taken_path : List ℤ → List Path → Option ℕ
taken_path env paths = first_from (λ p. list_all (lin_rel_true env) p.guard) 0 paths

-- where a path leads whose actions left these rows
abbrev pub leads : Target → List Row → Reading → ℕ → Effect
leads (ToPoint p) db s i = Goes db s i (ToPoint p)
leads Commit db s i = Goes db s i Commit
leads Undone db s i = Goes db s i Undone
leads (Refuse n) db s i = Refuses s n

abbrev pub path_end : Target → Reading → ℕ → Option (List Row) → Effect
path_end to s i None = OutOfRange
path_end to s i (Some db) = leads to db s i

-- the path with number i; the form rules see to it that there is one
abbrev pub path_effect : List Row → Side → ℕ → Reading → ℕ → Option Path → Effect
path_effect db side t s i None = OutOfRange
path_effect db side t s i (Some p) =
    path_end p.target s i (after_actions side (variables t s.locals) p.actions db)

abbrev pub choice : List Row → Side → ℕ → List Path → Reading → Option ℕ → Effect
choice db side t paths s None = OutOfRange
choice db side t paths s (Some i) = path_effect db side t s i (slice_get paths i)

abbrev pub reads_end : List Row → Side → ℕ → List Path → Option Reading → Effect
reads_end db side t paths None = OutOfRange
reads_end db side t paths (Some s) = choice db side t paths s (taken_path (variables t s.locals) paths)

-- the reads, the first path whose guard is true, and its actions; a point without a step is barred by the form rules
abbrev pub step_effect : List Row → Frame → Side → Option Step → Effect
step_effect db f side None = OutOfRange
step_effect db f side (Some step) = reads_end db side f.t step.paths (after_reads db f step.reads (unread f))

-- the effect of the step of frame f on this side
abbrev pub effect_of : Design → List Row → Frame → Side → Effect
effect_of d db f side = step_effect db f side (step_of d f.ty f.point side)
