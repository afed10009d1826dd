-- Calls have one schedule in an order.
use Rattle.std.specs.Prelude.{◌≡◌, ℕ, Bool, List, length, All}
use Rattle.acc_base.specs.declared.designs.Design.{Design}
use Rattle.acc_base.specs.declared.machines.Call.{Call}
use Rattle.acc_base.specs.declared.machines.Event.{Event}
use Rattle.acc_base.specs.Plays.{Play}
use Rattle.acc_script.specs.OrderLines.{IsPlace}
use Rattle.acc_lock_rules.specs.Kept.{IsKept}
use Rattle.acc_player.specs.Playing.{AllFit}
use Rattle.acc_player.specs.Schedules.{IsAfterSchedule}
use Rattle.acc_lock_rules.specs.LockRules.{with_locks}
use Rattle.acc_schedule.specs.Schedules.{TellsSchedule}

-- one text and one history are told of it, and one answer to whether each place has begun
abbrev pub SchedulesOnce : Type 0
SchedulesOnce =
    (d : Design) (calls : List Call) (order t u : List ℕ) (h k : List Event) (a b : Bool) → TellsSchedule d calls order t h a
    → TellsSchedule d calls order u k b → (t ≡ u) × (h ≡ k) × (a ≡ b)

-- Calls that fit have a whole schedule in each order of their places, from each play whose state is kept. So what is said of each whole
-- schedule from there is said of one.
abbrev pub WholeSchedulesAre : Type 0
WholeSchedulesAre =
    (d : Design) (calls : List Call) (order : List ℕ) (first : Play) → IsKept d first.world → AllFit d calls
    → All (IsPlace (length calls)) order → (ended : Play) × IsAfterSchedule (with_locks d) calls order first ended
