use Rattle.std.proofs.Common.{◌≡◌}
use Rattle.std.specs.Prelude.{sum_by}
use Rattle.acc_base.specs.Invariant.{rest_of}
use Rattle.acc_machine.specs.Kept.{IsKept}
use Rattle.acc_recover.specs.Recoveries.{GoesOn}
use Rattle.acc_recover.specs.Steps.{InStep, TailOnly}
use Rattle.acc_recover.proofs.endings.end_all.Given as goal

abbrev pub invariant-loop-event : goal.invariant-loop-event
invariant-loop-event g l = record {
  goes : GoesOn l.fn.state.design l.fn.state.world l.state.world;
  kept : IsKept l.state.design l.state.world;
  design : l.state.design ≡ l.fn.state.design;
  in_step : InStep l.state.world.events l.wal;
  tail : TailOnly l.fn.wal l.wal;
}

-- what may still come
abbrev pub decreases-loop-event : goal.decreases-loop-event
decreases-loop-event g l = sum_by (rest_of l.state.design) l.state.world.transactions
