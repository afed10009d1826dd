use Rattle.acc_io.specs.Causes.{Rose}
use Rattle.acc_journalled.proofs.Once.{verifying_once}
use Rattle.acc_journalled.proofs.laws.verifying_says_one.Goals as goal

pub returns : goal.returns
returns c s d file one other p q r u a b calm sound h k =
    verifying_once d file s one other a b (Rose p q) (Rose r u) calm sound h k
