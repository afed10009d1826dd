use Rattle.acc_wal.proofs.FrontLemmas.{front_goes_on}
use Rattle.acc_wal.proofs.laws.fronts_go_on.Goals as goal

pub returns : goal.returns
returns c base image history more least lower le front = front_goes_on base image history more least lower le front
