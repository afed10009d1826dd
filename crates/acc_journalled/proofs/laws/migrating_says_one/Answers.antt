use Rattle.acc_io.specs.Causes.{Rose}
use Rattle.acc_journalled.proofs.OneMigration.{migrating_once}
use Rattle.acc_journalled.proofs.laws.migrating_says_one.Goals as goal

pub returns : goal.returns
returns c d old file one other p q r s a b calm sound h k =
    migrating_once d old file one other a b (Rose p q) (Rose r s) calm sound h k
