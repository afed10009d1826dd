use Rattle.std.proofs.Common.{◌≡◌, ap, ◌∙◌, subst, IfOk}
use Rattle.serde_json.specs.Read.{read}
use Rattle.acc_cert_read.specs.Parts.{Good, given, and_then}
use Rattle.acc_cert_read.specs.Causes.{TellsOff}
use Rattle.acc_cert_read.specs.Certificates.{cert_in, cert_of}
use Rattle.acc_cert_read.proofs.NodesWithin.{read_in_bounds}
use Rattle.acc_cert_read.proofs.Texts.{of_text, of_others}
use Rattle.acc_cert_read.proofs.certificates.read.Goals as goal

pub returns-in-Ok-clause-value : goal.returns-in-Ok-clause-value
returns-in-Ok-clause-value c =
    let same : and_then (given (read c.in-Ok.text.now)) cert_of ≡ cert_in c.args.bytes.now =
    ap (λ t. and_then (given (read t)) cert_of) c.in-Ok.ensures.cases.0 ∙ of_text c.args.bytes.now c.in-Ok.ensures.cases.1 in
    subst (λ p. IfOk c.read_text.result (λ x. p ≡ Good x)) same c.read_text.ensures.value

pub returns-in-Ok-clause-bounds : goal.returns-in-Ok-clause-bounds
returns-in-Ok-clause-bounds c = read_in_bounds c.args.bytes.now c.read_text.result (returns-in-Ok-clause-value c)

pub returns-in-Ok-clause-off : goal.returns-in-Ok-clause-off
returns-in-Ok-clause-off c =
    let same : and_then (given (read c.in-Ok.text.now)) cert_of ≡ cert_in c.args.bytes.now =
    ap (λ t. and_then (given (read t)) cert_of) c.in-Ok.ensures.cases.0 ∙ of_text c.args.bytes.now c.in-Ok.ensures.cases.1 in
    subst (λ p. TellsOff c.read_text.result p) same c.read_text.ensures.off

pub returns-in-Err-clause-off : goal.returns-in-Err-clause-off
returns-in-Err-clause-off c = rw c.off.ensures (of_others c.args.bytes.now c.in-Err.ensures.cases.0)
