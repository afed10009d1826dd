use Rattle.acc_stream.proofs.OneStream.{counted_are_whole}
use Rattle.acc_stream.proofs.laws.counted_are_whole.Goals as goal

pub returns : goal.returns
returns c base bytes version items counts = counted_are_whole base bytes version items counts
