-- Whole schedules, which are what calls give in an order where nothing fails, and what one that stops has of them.
use Rattle.std.specs.Prelude.{◌≡◌, ℕ, List, length, take, Some}
use Rattle.std.specs.List.{flat_map, range_with_len}
use Rattle.acc_base.specs.declared.designs.Design.{Design}
use Rattle.acc_base.specs.declared.machines.Call.{Call}
use Rattle.acc_base.specs.declared.machines.Event.{Event}
use Rattle.acc_base.specs.declared.machines.Reply.{Reply}
use Rattle.acc_base.specs.Lines.{settled_line}
use Rattle.acc_base.specs.Machine.{World, world, reply_at}
use Rattle.acc_base.specs.Plays.{Play}
use Rattle.acc_player.specs.Schedules as whole
use Rattle.acc_lock_rules.specs.LockRules.{with_locks}

-- the play after a whole schedule of the calls in this order, from the first play on
abbrev pub IsAfterSchedule : Design → List Call → List ℕ → Play → Play → Type 0
IsAfterSchedule d = whole.IsAfterSchedule (with_locks d)

-- the events are the first of those of each whole schedule, of which there is one at most
abbrev pub IsFrontOfSchedule : Design → List Call → List ℕ → Play → List Event → Type 0
IsFrontOfSchedule d = whole.IsFrontOfSchedule (with_locks d)

-- The lines are those of the whole schedule's places after the durable events alone: a place's reply, which is the whole schedule's too,
-- or that it is unsettled.
pub record TellsDurablePart (d : Design) (calls : List Call) (history : List Event) (settled : ℕ) (ended : Play) (text : List ℕ) : Type 0
  where
    pub durable : World
    pub run : world d (take settled history) ≡ Some durable
    pub lines : text ≡ flat_map (settled_line (record ended { world = durable })) (range_with_len 1 (length calls))
    pub replies : (t : ℕ) (reply : Reply) → reply_at t durable ≡ Some reply → reply_at t ended.world ≡ Some reply
