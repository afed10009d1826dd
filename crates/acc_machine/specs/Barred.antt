-- Who bars a forward step, as an index is asked for it.
use Rattle.std.specs.Prelude.{◌≡◌, ℕ, List, Option, None, Some, IsSome}
use Rattle.acc_base.specs.declared.tables.Row.{Row}
use Rattle.acc_base.specs.declared.steps.Target.{Target}
use Rattle.acc_base.specs.declared.steps.Target.TheVariants.{Point as ToPoint, Commit, Undone, Refuse}
use Rattle.acc_base.specs.declared.designs.At.{At}
use Rattle.acc_base.specs.declared.designs.Design.{Design}
use Rattle.acc_base.specs.declared.designs.Side.TheVariants.{Next}
use Rattle.acc_base.specs.declared.machines.Frame.{Frame}
use Rattle.acc_base.specs.Effects.{effect_of}
use Rattle.acc_base.specs.Entries.{at_of}
use Rattle.acc_base.specs.Locks.{point_at}
use Rattle.acc_base.specs.Machine.{stop_of}
use Rattle.acc_plain.specs.Outlook.{Outlook}
use Rattle.acc_plain.specs.Outlook.TheVariants.{Range, Refused, Goes as Leads}
use Rattle.acc_plain.specs.Outlooks.{outlook_of}
use Rattle.acc_lock_index.specs.Asks.{TellsFirst}
use Rattle.acc_lock_index.specs.Indexed.{Bars}
use Rattle.acc_machine.specs.HeldUp.{locals_of}

-- the point of a type to which a target leads, none where it is an end
abbrev pub led_to : ℕ → Target → Option At
led_to ty (ToPoint p) = Some (point_at ty p)
led_to ty Commit = None
led_to ty Undone = None
led_to ty (Refuse m) = None

-- and to which a step that looks so leads
abbrev pub led_by : ℕ → Outlook → Option At
led_by ty Range = None
led_by ty (Refused m) = None
led_by ty (Leads to) = led_to ty to

-- one of the frames, with number h, bars f's step through entry n
abbrev pub BarsFrame : Design → List Row → List Frame → Frame → ℕ → ℕ → Type 0
BarsFrame d db frames f =
    Bars d frames f.t (at_of f) (locals_of (effect_of d db f Next)) (led_by f.ty (outlook_of (effect_of d db f Next)))
    (locals_of (effect_of d db f Next))

-- the lowest that bars f's step where nothing stops it, with its lowest entry; nobody where something does
pub record TellsBarred (d : Design) (db : List Row) (frames : List Frame) (f : Frame) (result : Option (ℕ × ℕ)) : Type 0 where
  pub free : IsSome result → stop_of d db f ≡ None
  pub first : stop_of d db f ≡ None → TellsFirst (BarsFrame d db frames f) result
