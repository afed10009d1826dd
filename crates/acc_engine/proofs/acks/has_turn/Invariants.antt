use Rattle.std.proofs.Common.{◌≡◌, false, take}
use Rattle.std.specs.List.{list_any}
use Rattle.acc_engine.specs.Acks.{is_turn_of}
use Rattle.acc_engine.proofs.acks.has_turn.Given as goal

abbrev pub invariant-loop-event : goal.invariant-loop-event
invariant-loop-event l = list_any (is_turn_of l.t) (take l.event-index l.events) ≡ false
