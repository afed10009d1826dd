use Rattle.acc_io.specs.Causes.{Rose}
use Rattle.acc_journalled.proofs.Once.{recovering_once}
use Rattle.acc_journalled.proofs.laws.recovering_says_one.Goals as goal

pub returns : goal.returns
returns c text d file one other p q r s a b calm sound h k =
    recovering_once d file text one other a b (Rose p q) (Rose r s) calm sound h k
