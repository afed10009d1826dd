-- What lies ahead of a transaction: why it turns, or what its step does.
use Rattle.std.specs.Prelude.{◌≡◌, ◌<◌, ◌+◌, ◌^◌, List, None, Some, All, IsSome}
use Rattle.acc_base.specs.declared.tables.Row.{Row}
use Rattle.acc_base.specs.declared.designs.Design.{Design}
use Rattle.acc_base.specs.declared.designs.Side.TheVariants.{Next}
use Rattle.acc_base.specs.declared.machines.Frame.{Frame}
use Rattle.acc_base.specs.declared.machines.Cause.TheVariants.{Refused}
use Rattle.acc_base.specs.declared.steps.Target.{Target}
use Rattle.acc_base.specs.declared.steps.Target.TheVariants.{Point as ToPoint, Commit, Undone, Refuse}
use Rattle.acc_base.specs.Reads.{Reading}
use Rattle.acc_base.specs.Effects.{effect_of}
use Rattle.acc_base.specs.Machine.{stop_of, forward_to}
use Rattle.acc_store.specs.Rows.{IsNarrow}
use Rattle.acc_step.specs.Seen.{seen}
use Rattle.acc_step.specs.declared.effects.StepEffect.{StepEffect}
use Rattle.acc_plain.specs.declared.changes.Ahead.{Ahead}
use Rattle.acc_plain.specs.declared.changes.Ahead.TheVariants.{Stops, Goes}

-- the locals and the place on the tape that a step leaves
abbrev pub reading_of : StepEffect → Reading
reading_of e = record { locals = e.locals; at = e.pos }

-- a step, or its refusal
abbrev pub ahead_of : StepEffect → Target → Ahead
ahead_of e (ToPoint p) = Goes e
ahead_of e Commit = Goes e
ahead_of e Undone = Goes e
ahead_of e (Refuse n) = Stops (Refused n)

-- the effect of a forward step that leads on or commits
pub record IsStepAhead (d : Design) (db : List Row) (f : Frame) (e : StepEffect) : Type 0 where
  pub free : stop_of d db f ≡ None
  pub effect : seen db e ≡ effect_of d db f Next
  pub narrow : All IsNarrow e.writes
  pub ends : IsSome (forward_to d f (reading_of e) e.target)
  pub room : f.steps + 1 < 2 ^ 32

abbrev pub IsAhead : Design → List Row → Frame → Ahead → Type 0
IsAhead d db f (Stops c) = stop_of d db f ≡ Some c
IsAhead d db f (Goes e) = IsStepAhead d db f e
