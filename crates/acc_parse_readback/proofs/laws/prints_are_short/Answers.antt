use Rattle.acc_parse_readback.proofs.ShortDesigns.{printed_is_short}
use Rattle.acc_parse_readback.proofs.laws.prints_are_short.Goals as goal

pub returns : goal.returns
returns c = printed_is_short
