use Rattle.acc_cli.proofs.Surviving.{sched_survives}
use Rattle.acc_cli.proofs.laws.crashes_are_recovered.Goals as goal

pub returns : goal.returns
returns g c = sched_survives g.D.Disk.clock g.D.Disk.left_since g.D.Disk.told g.D.Disk.may_leave g.met.D.Disk.only_now
