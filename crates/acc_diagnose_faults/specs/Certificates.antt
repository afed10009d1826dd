-- What is judged of a design and of bytes that are to be its certificate: the refusal is the one that is printed.
use Rattle.std.specs.Prelude.{◌≡◌, ◌≢◌, ℕ, List}
use Rattle.acc_base.specs.declared.designs.Design.{Design}
use Rattle.acc_axioms.specs.declared.nodes.Cert.{Cert}
use Rattle.acc_cert_read.specs.Parts.{Good, Off}
use Rattle.acc_cert_read.specs.Certificates.{cert_in}
use Rattle.acc_accept.specs.declared.refusals.Refusal.TheVariants.{Memory}
use Rattle.acc_accept.specs.Accepting.{Accepts, Refuses}
use Rattle.acc_diagnose_faults.specs.declared.certificates.CertFault.{CertFault}
use Rattle.acc_diagnose_faults.specs.declared.certificates.CertFault.TheVariants.{Bytes, Lacks}
use Rattle.acc_diagnose_faults.specs.declared.certificates.Judged.{Judged}
use Rattle.acc_diagnose_faults.specs.declared.certificates.Judged.TheVariants.{Accepted, Refused}

-- why a certificate doesn't do for a design; want of memory is no reason that is told
abbrev pub IsLack : Design → Cert → CertFault → Type 0
IsLack d c (Bytes path) = ⊥
IsLack d c (Lacks reason) = (reason ≢ Memory) × Refuses d c reason

abbrev pub IsJudgedWith : Design → Cert → Judged → Type 0
IsJudgedWith d c (Accepted a) = (a ≡ d) × Accepts d c
IsJudgedWith d c (Refused e fault) = (e ≡ d) × IsLack d c fault

-- the bytes are no certificate, and the first part that is off stands at this path; or they are this one, and then it decides
abbrev pub IsJudged : Design → List ℕ → Judged → Type 0
IsJudged d bytes (Accepted a) = (c : Cert) × (cert_in bytes ≡ Good c) × IsJudgedWith d c (Accepted a)
IsJudged d bytes (Refused e (Bytes path)) = (e ≡ d) × (cert_in bytes ≡ Off path)
IsJudged d bytes (Refused e (Lacks reason)) = (c : Cert) × (cert_in bytes ≡ Good c) × IsJudgedWith d c (Refused e (Lacks reason))
