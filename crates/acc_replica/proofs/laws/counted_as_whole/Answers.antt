use Rattle.acc_replica.proofs.Counted.{counted_as_whole}
use Rattle.acc_replica.proofs.laws.counted_as_whole.Goals as goal

pub returns : goal.returns
returns c d fed version events seals items counts whole = counted_as_whole d fed version events seals items counts whole
