use Rattle.acc_wal.proofs.Once.{one_of_all}
use Rattle.acc_wal.proofs.laws.one_of_all.Goals as goal

pub returns : goal.returns
returns c bytes base other version another events others seals sealed p q =
    one_of_all bytes base other version another events others seals sealed p q
