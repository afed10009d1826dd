-- What is counted of a mix.
use Rattle.std.specs.Prelude.{ℕ, Bool, true, false, Option, None, Some}
use Rattle.acc_base.specs.declared.machines.Cause.{Cause}
use Rattle.acc_base.specs.declared.machines.Cause.TheVariants as cause
use Rattle.acc_base.specs.declared.machines.Outcome.{Outcome}
use Rattle.acc_base.specs.declared.machines.Outcome.TheVariants.{Committed, Compensated}
use Rattle.acc_base.specs.declared.machines.Reply.{Reply}
use Rattle.acc_base.specs.declared.machines.Turn.{Turn}
use Rattle.acc_base.specs.declared.machines.Turn.TheVariants as turn
use Rattle.acc_base.specs.Machine.{World, reply_at}
use Rattle.acc_base.specs.Plays.{Play, Told, Turns, IsStuck, IsOver, IsFull}

-- ---- how a place's transaction ended

abbrev pub is_commit : Outcome → Bool
is_commit (Committed values) = true
is_commit (Compensated c) = false

abbrev pub is_compensation : Outcome → Bool
is_compensation (Committed values) = false
is_compensation (Compensated c) = true

abbrev pub is_committed : Reply → Bool
is_committed reply = is_commit reply.outcome

abbrev pub is_compensated : Reply → Bool
is_compensated reply = is_compensation reply.outcome

-- whether there is a reply, and it is such a one
abbrev pub replies_so : (Reply → Bool) → Option Reply → Bool
replies_so so None = false
replies_so so (Some reply) = so reply

-- whether a place has begun, and its transaction ended so
abbrev pub ends_so : (Reply → Bool) → World → Option ℕ → Bool
ends_so so w None = false
ends_so so w (Some t) = replies_so so (reply_at t w)

abbrev pub commits : World → Option ℕ → Bool
commits = ends_so is_committed

abbrev pub compensates : World → Option ℕ → Bool
compensates = ends_so is_compensated

-- ---- how a turn went

abbrev pub is_victims : Cause → Bool
is_victims (cause.Refused n) = false
is_victims cause.Range = false
is_victims cause.Limit = false
is_victims cause.Asked = false
is_victims cause.Victim = true
is_victims cause.Crash = false

abbrev pub waits : Turn → Bool
waits (turn.Stepped at) = false
waits (turn.Blocked holder entry) = true
waits (turn.Turned c) = false
waits (turn.Back at) = false
waits turn.Ended = false

abbrev pub gives_way : Turn → Bool
gives_way (turn.Stepped at) = false
gives_way (turn.Blocked holder entry) = false
gives_way (turn.Turned c) = is_victims c
gives_way (turn.Back at) = false
gives_way turn.Ended = false

-- whether what is told is a turn, and it went so
abbrev pub turns_so : (Turn → Bool) → Told → Bool
turns_so so (Turns place t) = so t
turns_so so (IsStuck place) = false
turns_so so (IsOver place) = false
turns_so so (IsFull place) = false

-- a mention whose turn was blocked
abbrev pub is_blocked : Told × Play → Bool
is_blocked x = turns_so waits x.0

-- a mention by whose turn a victim turned back
abbrev pub turns_victim : Told × Play → Bool
turns_victim x = turns_so gives_way x.0
