-- What is said of a design and of bytes that are to be its certificate.
use Rattle.std.specs.Prelude.{◌≡◌, ◌≢◌, ◌⊎◌, ℕ, Bool, true, false, ◌++◌, List, [], codes}
use Rattle.std.specs.Fmt.{decimal}
use Rattle.acc_base.specs.declared.designs.Design.{Design}
use Rattle.acc_base.specs.Lines.{line}
use Rattle.acc_base.specs.Numbering.{form_rule_number}
use Rattle.acc_base.specs.Soundness.{IsSound}
use Rattle.acc_axioms.specs.declared.nodes.Cert.{Cert}
use Rattle.acc_cert_read.specs.Parts.{Good, Off}
use Rattle.acc_cert_read.specs.Certificates.{cert_in}
use Rattle.acc_accept.specs.declared.refusals.Refusal.{Refusal}
use Rattle.acc_accept.specs.declared.refusals.Refusal.TheVariants.{Form, ObligWide, Missing, ProofWide, NotProved, Memory}
use Rattle.acc_accept.specs.Accepting.{Accepts, Refuses}
use Rattle.acc_oblig_origins.specs.Origins.{origin_text, path_text}

-- why a design is refused with a certificate; want of memory isn't said
abbrev pub reason_text : Design → Refusal → List ℕ
reason_text d (Form rule at) = codes "form " ++ (decimal (form_rule_number rule) ++ (codes " " ++ decimal at))
reason_text d (ObligWide origin) = codes "wide " ++ origin_text d origin
reason_text d (Missing origin) = codes "missing " ++ origin_text d origin
reason_text d (ProofWide origin) = codes "wide " ++ origin_text d origin
reason_text d (NotProved origin) = codes "proof " ++ origin_text d origin
reason_text d Memory = []

-- the design is accepted with the certificate, and so it is sound
pub record TellsAccepted (d : Design) (c : Cert) (text : List ℕ) : Type 0 where
  pub accepts : Accepts d c
  pub sound : IsSound d
  pub says : text ≡ line (codes "accepted")

-- the design is refused with the certificate, and why
pub record TellsRefused (d : Design) (c : Cert) (text : List ℕ) : Type 0 where
  pub reason : Refusal
  pub other : reason ≢ Memory
  pub refuses : Refuses d c reason
  pub says : text ≡ line (codes "refused " ++ reason_text d reason)

abbrev pub ReportsWith : Design → Cert → Bool → List ℕ → Type 0
ReportsWith d c true text = TellsAccepted d c text
ReportsWith d c false text = TellsRefused d c text

-- the bytes are no certificate, and the path to the first part that is off is said
pub record TellsBytes (bytes : List ℕ) (accepted : Bool) (text : List ℕ) : Type 0 where
  pub path : List ℕ
  pub off : cert_in bytes ≡ Off path
  pub refused : accepted ≡ false
  pub says : text ≡ line (codes "refused certificate " ++ path_text path)

-- the bytes are this certificate, and then it decides
pub record TellsCertificate (d : Design) (bytes : List ℕ) (accepted : Bool) (text : List ℕ) : Type 0 where
  pub c : Cert
  pub is_certificate : cert_in bytes ≡ Good c
  pub reports : ReportsWith d c accepted text

-- the order of the refusals: the bytes, the design with the certificate
abbrev pub Reports : Design → List ℕ → Bool → List ℕ → Type 0
Reports d bytes accepted text = TellsBytes bytes accepted text ⊎ TellsCertificate d bytes accepted text
