use Rattle.acc_stream.proofs.OneStream.{one_stream}
use Rattle.acc_stream.proofs.laws.one_stream.Goals as goal

pub returns : goal.returns
returns c base bytes a b x y p q = one_stream base bytes a b x y p q
