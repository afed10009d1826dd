use Rattle.acc_base.proofs.PlainPlays.{plays_once}
use Rattle.acc_base.proofs.laws.plain_plays_are_one.Goals as goal

pub returns : goal.returns
returns c = plays_once
