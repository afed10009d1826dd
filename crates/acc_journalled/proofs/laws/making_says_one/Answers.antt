use Rattle.acc_io.specs.Causes.{Rose}
use Rattle.acc_journalled.proofs.Once.{making_once}
use Rattle.acc_journalled.proofs.laws.making_says_one.Goals as goal

pub returns : goal.returns
returns c d file one other p q r s a b calm sound h k = making_once d file one other (Rose p q) (Rose r s) a b calm sound h k
