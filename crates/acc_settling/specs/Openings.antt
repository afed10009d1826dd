-- Where a schedule over an engine begins.
use Rattle.std.specs.Prelude.{◌≡◌, ℕ, Bool, true, false, List, [], length, replicate, None}
use Rattle.acc_base.specs.declared.machines.Call.{Call}
use Rattle.acc_base.specs.declared.machines.Event.{Event}
use Rattle.acc_base.specs.declared.machines.Event.TheVariants.{Begin, Step, Abort, Undo}
use Rattle.acc_base.specs.Machine.{World}
use Rattle.acc_base.specs.Plays.{Play}
use Rattle.acc_engine.specs.Keeping.{Journalled, is_begun}

-- no place has begun; the transactions that were there before have none
abbrev pub opening_at : World → List Call → Play
opening_at w calls = record { world = w; numbers = replicate (length calls) None; places = replicate (length w.transactions) 0 }

-- an engine as it is made: no place has begun, it hasn't failed, all its events are durable, and no state of the rows waits
pub record IsFresh {D : Type 0} (e : Journalled D) : Type 0 where
  pub begun : e.begun ≡ []
  pub unfailed : e.failed ≡ false
  pub settled : e.settled ≡ length e.state.events
  pub waiting : e.waiting ≡ []

-- the engine hasn't begun the place with so many before it
abbrev pub CanBegin : {D : Type 0} → Journalled D → ℕ → Type 0
CanBegin e at = is_begun e.begun at ≡ false

abbrev pub is_begin : Event → Bool
is_begin (Begin call) = true
is_begin (Step t) = false
is_begin (Abort t c) = false
is_begin (Undo t) = false
