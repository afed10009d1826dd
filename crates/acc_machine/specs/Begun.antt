-- What a call that is to begin is answered.
use Rattle.std.specs.Prelude.{◌≡◌, ◌<◌, ◌≤◌, ℕ, length, Result, Ok, Err, Some}
use Rattle.acc_base.specs.declared.bounds.TheConstants.{MOST_EVENTS, MOST_UNFINISHED}
use Rattle.acc_base.specs.declared.designs.Design.{Design}
use Rattle.acc_base.specs.declared.machines.Call.{Call}
use Rattle.acc_base.specs.declared.machines.Event.TheVariants.{Begin}
use Rattle.acc_base.specs.Machine.{World, next_number, unfinished, after_event}
use Rattle.acc_machine.specs.declared.errors.BeginError.{BeginError}
use Rattle.acc_machine.specs.declared.errors.BeginError.TheVariants.{Full, Crowd, Memory}

-- there may be one more event, and one more unfinished transaction
abbrev pub HasRoom : World → Type 0
HasRoom w = (length w.events < MOST_EVENTS) × (length (unfinished w) < MOST_UNFINISHED)

-- whether a call can begin now; and where none can, whether the history is full, or else that there are too many unfinished
abbrev pub TellsRoom : {A : Type 0} → World → Result A BeginError → Type 0
TellsRoom w (Ok done) = HasRoom w
TellsRoom w (Err Full) = MOST_EVENTS ≤ length w.events
TellsRoom w (Err Crowd) = (length w.events < MOST_EVENTS) × (MOST_UNFINISHED ≤ length (unfinished w))
TellsRoom w (Err Memory) = ⊥

-- a call begins as the next number; or nothing has changed: the history is full, or there are too many unfinished, or there is room and
-- memory ran out
abbrev pub Begins : Design → World → World → Call → Result ℕ BeginError → Type 0
Begins d old new call (Ok t) = (t ≡ next_number old) × (after_event d old (Begin call) ≡ Some new) × HasRoom old
Begins d old new call (Err Full) = (new ≡ old) × (MOST_EVENTS ≤ length old.events)
Begins d old new call (Err Crowd) = (new ≡ old) × (length old.events < MOST_EVENTS) × (MOST_UNFINISHED ≤ length (unfinished old))
Begins d old new call (Err Memory) = (new ≡ old) × HasRoom old
