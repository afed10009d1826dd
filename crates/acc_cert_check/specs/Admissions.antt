-- A design that is accepted with the bytes of a certificate.
use Rattle.std.specs.Prelude.{◌≡◌, ℕ, false, List}
use Rattle.acc_base.specs.declared.designs.Design.{Design}
use Rattle.acc_base.specs.Soundness.{IsSound}
use Rattle.acc_axioms.specs.declared.nodes.Cert.{Cert}
use Rattle.acc_cert_read.specs.Parts.{Good}
use Rattle.acc_cert_read.specs.Certificates.{cert_in}
use Rattle.acc_accept.specs.Accepting.{Accepts}
use Rattle.acc_cert_check.specs.declared.checks.Admission.{Admission}
use Rattle.acc_cert_check.specs.declared.checks.Admission.TheVariants as admission
use Rattle.acc_cert_check.specs.Reports.{ReportsWith, Reports}

-- the bytes are a certificate with which the design is accepted, and so it is sound
pub record IsAcceptedWith (d : Design) (bytes : List ℕ) : Type 0 where
  pub c : Cert
  pub is_certificate : cert_in bytes ≡ Good c
  pub accepts : Accepts d c
  pub sound : IsSound d

-- the design is accepted with the bytes; or why it is refused is told
abbrev pub Admits : Design → List ℕ → Admission → Type 0
Admits d bytes (admission.Accepted a) = (a ≡ d) × IsAcceptedWith d bytes
Admits d bytes (admission.Refused text) = Reports d bytes false text.items

-- the same with a certificate that was read
abbrev pub AdmitsWith : Design → Cert → Admission → Type 0
AdmitsWith d c (admission.Accepted a) = (a ≡ d) × Accepts d c × IsSound d
AdmitsWith d c (admission.Refused text) = ReportsWith d c false text.items
