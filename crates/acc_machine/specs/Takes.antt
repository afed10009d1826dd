-- Which events a state takes.
use Rattle.std.specs.Prelude.{◌≡◌, Bool, true, false, Result, Ok, Err, Some}
use Rattle.acc_base.specs.declared.designs.Design.{Design}
use Rattle.acc_base.specs.declared.machines.Event.{Event}
use Rattle.acc_base.specs.Machine.{World, after_event}
use Rattle.acc_base.specs.Lawful.{HasLeave, IsLawful}
use Rattle.acc_machine.specs.declared.errors.TakeError.{TakeError}
use Rattle.acc_machine.specs.declared.errors.TakeError.TheVariants.{Unlawful, Memory}

-- the event is lawful in this state
pub record CanCome (d : Design) (w : World) (e : Event) : Type 0 where
  pub after : World
  pub lawful : IsLawful d w e after

-- there is leave for the event, if the plain machine allows it; or it isn't lawful
abbrev pub GivesLeave : Design → World → Event → Bool → Type 0
GivesLeave d w e true = (after : World) → after_event d w e ≡ Some after → HasLeave d w e
GivesLeave d w e false = ¬ CanCome d w e

-- a lawful event is taken, and this is the state after it; another is not; or memory ran out, and then too nothing has changed
abbrev pub Takes : {A : Type 0} → Design → World → World → Event → Result A TakeError → Type 0
Takes d old new e (Ok done) = IsLawful d old e new
Takes d old new e (Err Unlawful) = (new ≡ old) × ¬ CanCome d old e
Takes d old new e (Err Memory) = new ≡ old
