use Rattle.acc_cert_prove.proofs.Readings.{written_if}
use Rattle.acc_cert_prove.proofs.proving.certificate_line.Goals as goal

pub returns-in-Ok : goal.returns-in-Ok
returns-in-Ok c =
    written_if (λ v. v.items) c.args.certificate.now c.in-Ok.text.items c.ended_line.result c.in-Ok.ensures.value c.in-Ok.ensures.law
    c.ended_line.ensures
