use Rattle.acc_cli.proofs.Surviving.{run_survives}
use Rattle.acc_cli.proofs.laws.crashes_of_workers_are_recovered.Goals as goal

pub returns : goal.returns
returns g c = run_survives g.D.Disk.clock g.D.Disk.left_since g.D.Disk.told g.D.Disk.may_leave g.met.D.Disk.only_now
