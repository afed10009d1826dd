use Rattle.acc_parse_readback.proofs.ReadBack.{reads_back}
use Rattle.acc_parse_readback.proofs.laws.what_is_said_is_read_back.Goals as goal

pub returns : goal.returns
returns c = reads_back
