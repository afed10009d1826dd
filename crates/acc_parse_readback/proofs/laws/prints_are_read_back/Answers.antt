use Rattle.acc_parse_readback.proofs.ReadBack.{text_reads_back}
use Rattle.acc_parse_readback.proofs.laws.prints_are_read_back.Goals as goal

pub returns : goal.returns
returns c = text_reads_back
