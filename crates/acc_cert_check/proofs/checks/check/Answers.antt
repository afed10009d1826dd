use Rattle.std.proofs.Common.{rules, subst}
use Rattle.acc_cert_check.specs.declared.checks.Admission.TheVariants as admission
use Rattle.acc_cert_check.specs.Admissions.{Admits}
use Rattle.acc_cert_check.proofs.Admitting.{accepted_reports}
use Rattle.acc_cert_check.proofs.checks.check.Goals as goal

pub returns-in-Accepted : goal.returns-in-Accepted
returns-in-Accepted c =
    let admitted : Admits c.args.d c.args.bytes.now (admission.Accepted c.in-Accepted.field-0) =
    subst (Admits c.args.d c.args.bytes.now) c.in-Accepted.is c.in_ok-admit.ensures in
    accepted_reports c.args.d c.args.bytes.now c.in_ok-to_vec-in-Accepted.field-0.items admitted.1 (search rules)
