use Rattle.acc_base.specs.Machine.{start}
use Rattle.acc_replica.proofs.Comings.{come_leads, come_sealed}
use Rattle.acc_replica.proofs.laws.come_as_recovered.Goals as goal

pub returns : goal.returns
returns c d items here come = (come_leads d items start here come, come_sealed d items here come)
