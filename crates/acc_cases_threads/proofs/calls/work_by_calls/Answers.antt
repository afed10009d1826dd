use Rattle.acc_threads.proofs.Working.{works_from}
use Rattle.acc_cases_threads.proofs.calls.work_by_calls.Goals as goal

pub returns-in-Ok-clause-works : goal.returns-in-Ok-clause-works
returns-in-Ok-clause-works g c =
    works_from g.D.Disk.clock g.D.Disk.left_since g.D.Disk.told g.D.Disk.may_leave g.D.Disk.faults c.args.engine c.share-engine.result
    c.share-engine.ensures
