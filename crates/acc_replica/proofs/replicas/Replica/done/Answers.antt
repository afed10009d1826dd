use Rattle.acc_wal.specs.Items.{events_of}
use Rattle.acc_replica.proofs.Counted.{all_events}
use Rattle.acc_replica.proofs.replicas.Replica.done.Goals as goal

pub returns-clause-first : goal.returns-clause-first
returns-clause-first g c = λ fed follows items whole.
    let r = c.args.self.now in
    (events_of r.stream.waiting, all_events fed r items follows whole)
