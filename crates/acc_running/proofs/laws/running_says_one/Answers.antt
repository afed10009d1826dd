use Rattle.acc_io.specs.Causes.{Rose}
use Rattle.acc_running.proofs.OneRun.{running_once}
use Rattle.acc_running.proofs.laws.running_says_one.Goals as goal

pub returns : goal.returns
returns c d calls order file one other p q r s a b calm sound h k =
    running_once d calls order file one other a b (Rose p q) (Rose r s) calm sound h k
