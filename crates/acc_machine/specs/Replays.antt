-- What comes of a list of events that is done again.
use Rattle.std.specs.Prelude.{◌≡◌, ℕ, List, take, Some, slice_get}
use Rattle.acc_base.specs.declared.tables.Row.{Row}
use Rattle.acc_base.specs.declared.designs.Design.{Design}
use Rattle.acc_base.specs.declared.machines.Event.{Event}
use Rattle.acc_base.specs.Machine.{World, start}
use Rattle.acc_base.specs.Lawful.{LeadLawfully}
use Rattle.acc_machine.specs.declared.errors.ReplayError.{ReplayError}
use Rattle.acc_machine.specs.declared.errors.ReplayError.TheVariants.{Unlawful, Memory}
use Rattle.acc_machine.specs.Takes.{CanCome}

-- from this state the event with so many before it is the first that isn't lawful, and those before it lead here
pub record IsFirstUnlawful (d : Design) (from : World) (events : List Event) (at : ℕ) (here : World) : Type 0 where
  pub event : Event
  pub is_event : slice_get events at ≡ Some event
  pub before : LeadLawfully d from (take at events) here
  pub unlawful : ¬ CanCome d here event

-- the first so many of the events lead here
pub record HasCome (d : Design) (from : World) (events : List Event) (here : World) : Type 0 where
  pub count : ℕ
  pub came : LeadLawfully d from (take count events) here

-- why not all of the events have come, and where those that have lead
abbrev pub StopsReplay : Design → World → List Event → World → ReplayError → Type 0
StopsReplay d from events here (Unlawful at) = IsFirstUnlawful d from events at here
StopsReplay d from events here Memory = HasCome d from events here

-- the rows are those of the state in which a history stops
abbrev pub IsRefusedSo : Design → List Event → ReplayError → List Row → Type 0
IsRefusedSo d events e rows = (w : World) × StopsReplay d start events w e × (rows ≡ w.rows)
