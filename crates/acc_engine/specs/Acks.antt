-- Which replies are durable.
use Rattle.std.specs.Prelude.{ℕ, Bool, false, ◌==◌, take, Option, option_and_then}
use Rattle.acc_base.specs.declared.machines.Event.{Event}
use Rattle.acc_base.specs.declared.machines.Event.TheVariants.{Begin, Step, Abort, Undo}
use Rattle.acc_base.specs.declared.machines.Reply.{Reply}
use Rattle.acc_base.specs.Machine.{reply_at, world}
use Rattle.acc_engine.specs.Keeping.{Journalled}

-- the reply of transaction t after the durable events; none where it hasn't ended in them
abbrev pub durable_reply : {D : Type 0} → Journalled D → ℕ → Option Reply
durable_reply e t = option_and_then (reply_at t) (world e.design (take e.settled e.state.events))

-- whether the event is a turn of transaction t
abbrev pub is_turn_of : ℕ → Event → Bool
is_turn_of t (Begin call) = false
is_turn_of t (Step u) = u == t
is_turn_of t (Abort u c) = u == t
is_turn_of t (Undo u) = u == t
