use Rattle.std.proofs.Common.{◌≡◌, ◌≤◌, ap, sym, subst, ◌∙◌, arith, Some}
use Rattle.serde_json.specs.Data.{depth}
use Rattle.serde_json.specs.Read.{read}
use Rattle.serde_json.specs.View.{view}
use Rattle.serde_json.specs.Written.{has_float, compact_text}
use Rattle.acc_cert_read.specs.Parts.{and_then, given}
use Rattle.acc_cert_read.specs.Certificates.{cert_of}
use Rattle.acc_cert_read.proofs.Texts.{of_text}
use Rattle.acc_cert.specs.SpelledNodes.{cert}
use Rattle.acc_cert.proofs.NodeSizes.{cert_plain}
use Rattle.acc_cert.proofs.NodeReadings.{cert_read}
use Rattle.acc_cert.proofs.writing.write.Goals as goal

pub returns-clause-value : goal.returns-clause-value
returns-clause-value c =
    let is : view c.in_ok-value.value ≡ cert c.args.c.now = c.in_ok-value.ensures in
    c.in_ok-to_vec.ensures.text (ap has_float is ∙ (cert_plain c.args.c.now).exact) ∙ ap compact_text is

pub returns-clause-law : goal.returns-clause-law
returns-clause-law c = λ h.
    let is : view c.in_ok-value.value ≡ cert c.args.c.now = c.in_ok-value.ensures in
    let low : depth (cert c.args.c.now) ≤ 127 = omega (arith, (cert_plain c.args.c.now).shallow) in
    let back : read c.in_ok-to_vec.field-0.items ≡ Some (cert c.args.c.now) =
    c.in_ok-to_vec.ensures.reads_back (subst (λ d. depth d ≤ 127) (sym is) low) ∙ ap Some is in
    sym (of_text c.in_ok-to_vec.field-0.items c.in_ok-to_vec.ensures.utf8) ∙ ap (λ r. and_then (given r) cert_of) back ∙ cert_read
    c.args.c.now h
