use Rattle.std.proofs.Common.{arith}
use Rattle.acc_stream.proofs.EventCounts.{events_few}
use Rattle.acc_stream.proofs.queues.Queue.events.Goals as goal

pub returns-clause-few : goal.returns-clause-few
returns-clause-few c =
    let items = c.self.inside.items in
    omega (arith, items.ok.0, items.small, events_few items.items, c.self.invariant)
