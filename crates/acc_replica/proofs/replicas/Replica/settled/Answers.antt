use Rattle.std.proofs.Common.{length, ap, arith}
use Rattle.acc_wal.specs.Items.{events_of}
use Rattle.acc_replica.specs.Replicas.{Replicated}
use Rattle.acc_replica.proofs.Counted.{count_all}
use Rattle.acc_replica.proofs.replicas.Replica.settled.Goals as goal

pub overflow_add-result : goal.overflow_add-result
overflow_add-result g c =
    omega (
      arith,
      c.len.ensures,
      ap length c.events.ensures.events,
      c.events.ensures.good.steady.ends,
      c.events-2.ensures.few,
    )

pub returns : goal.returns
returns g c = λ fed follows items whole.
    omega (
      arith,
      c.len.ensures,
      ap length c.events.ensures.events,
      ap (λ (r : Replicated). length r.world.events) c.self.view_is,
      c.events-2.ensures.events,
      ap (λ (r : Replicated). length (events_of r.stream.waiting)) c.self.view_is,
      count_all fed c.args.self.now items follows whole,
    )
