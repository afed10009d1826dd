use Rattle.acc_threads.proofs.Working.{works_from}
use Rattle.acc_threads.proofs.crew.work_in_threads.Goals as goal

pub returns-clause-works : goal.returns-clause-works
returns-clause-works g c =
    works_from g.D.Disk.clock g.D.Disk.left_since g.D.Disk.told g.D.Disk.may_leave g.D.Disk.faults c.args.engine
    c.work_if_room-engine.result c.work_if_room-engine.ensures
