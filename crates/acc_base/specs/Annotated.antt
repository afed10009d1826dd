-- Annotated runs, and idle states: what is promised of every run by the rules of locks.
use Rattle.std.specs.Prelude.{◌≡◌, ⊤, ℕ, IsFalse, List, ◌∷◌, ◌++◌, All, Some, slice_get}
use Rattle.acc_base.specs.declared.tables.Row.{Row}
use Rattle.acc_base.specs.declared.designs.Design.{Design}
use Rattle.acc_base.specs.declared.designs.Side.{Side}
use Rattle.acc_base.specs.declared.designs.Side.TheVariants.{Next, Undo as UndoSide}
use Rattle.acc_base.specs.declared.machines.Frame.{Frame}
use Rattle.acc_base.specs.declared.machines.Event.{Event}
use Rattle.acc_base.specs.declared.machines.Event.TheVariants.{Begin, Step, Abort, Undo}
use Rattle.acc_base.specs.Assertions.{Holds, Always}
use Rattle.acc_base.specs.Effects.{effect_of}
use Rattle.acc_base.specs.Machine.{World, world}
use Rattle.acc_base.specs.Soundness.{MeetsAt, WhereGoes}
use Rattle.acc_base.specs.PrivateRows.{is_own_table}
use Rattle.acc_base.specs.Locks.{frame_at}

-- each unfinished transaction's assertion is true
abbrev pub AllHold : Design → World → Type 0
AllHold d w = (t : ℕ) (f : Frame) → frame_at t w ≡ Some f → Holds d w.rows f

-- the step of transaction t leaves what is promised where it leads
abbrev pub IsStepMet : Design → World → ℕ → Side → Type 0
IsStepMet d w t side =
    (f : Frame) → frame_at t w ≡ Some f
    → WhereGoes (λ after s i to. MeetsAt d f side after s to) (effect_of d w.rows f side)

-- a step or an undo step does: it leaves the next point's assertion, or at an end what the type ensures or repairs
abbrev pub IsEventMet : Design → World → Event → Type 0
IsEventMet d w (Begin call) = ⊤
IsEventMet d w (Step t) = IsStepMet d w t Next
IsEventMet d w (Abort t c) = ⊤
IsEventMet d w (Undo t) = IsStepMet d w t UndoSide

-- the events are a run; where some of them have come, the assertion of each unfinished transaction is true,
-- and the next step leaves what is promised
pub record IsAnnotated (d : Design) (events : List Event) : Type 0 where
  pub last : World
  pub run : world d events ≡ Some last
  pub holds :
      (past rest : List Event) (w : World) → events ≡ past ++ rest → world d past ≡ Some w
      → AllHold d w
  pub met :
      (past rest : List Event) (e : Event) (w : World) → events ≡ past ++ e ∷ rest → world d past ≡ Some w
      → IsEventMet d w e

-- what is asserted for all times, with no row in a private table
pub record IsIdle (d : Design) (db : List Row) : Type 0 where
  pub always : Always d db
  pub no_private : All (λ r. IsFalse (is_own_table (slice_get d.tables r.table))) db
