use Rattle.acc_parse_readback.proofs.DesignParts.{printed_is_lexed}
use Rattle.acc_parse_readback.proofs.laws.prints_spell_trees.Goals as goal

pub returns : goal.returns
returns c = printed_is_lexed
