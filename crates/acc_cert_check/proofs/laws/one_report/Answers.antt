use Rattle.acc_cert_check.proofs.OneReported.{reports_once}
use Rattle.acc_cert_check.proofs.laws.one_report.Goals as goal

pub returns : goal.returns
returns c = reports_once
