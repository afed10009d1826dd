use Rattle.acc_cert_prove.proofs.OneProving.{once}
use Rattle.acc_cert_prove.proofs.laws.proved_once.Goals as goal

pub returns : goal.returns
returns c = once
