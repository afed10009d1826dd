-- What is told of a design whose obligations are to be proved.
use Rattle.std.specs.Prelude.{◌≡◌, ℕ, All, List, ◌++◌, length, codes, Some, None}
use Rattle.acc_base.specs.declared.designs.Design.{Design}
use Rattle.acc_base.specs.declared.sequents.Origin.{Origin}
use Rattle.acc_base.specs.declared.sequents.Sequent.{Sequent}
use Rattle.acc_base.specs.Lines.{line}
use Rattle.acc_base.specs.Soundness.{IsSound}
use Rattle.serde_json.specs.Written.{compact_text}
use Rattle.acc_axioms.specs.declared.nodes.Cert.{Cert}
use Rattle.acc_cert_read.specs.Parts.{Good}
use Rattle.acc_cert_read.specs.Certificates.{cert_in}
use Rattle.acc_cert.specs.SpelledNodes.{cert}
use Rattle.acc_oblig.specs.Laws.{drafts_of, sequents_of}
use Rattle.acc_accept.specs.Causes.{first_wide}
use Rattle.acc_accept.specs.Accepting.{Accepts}
use Rattle.acc_prover.specs.Tellings.{Closes}
use Rattle.acc_oblig_origins.specs.Origins.{origin_text}
use Rattle.acc_cert_prove.specs.declared.proving.Proving.{Proving}
use Rattle.acc_cert_prove.specs.declared.proving.Proving.TheVariants.{Proved, Open, Wide}
use Rattle.acc_cert_prove.specs.Lines.{searched, open_lines}

-- all branches of each obligation's search are closed
abbrev pub AllClose : Design → List Sequent → Type 0
AllClose d qs = All (λ q. Closes (searched d q)) qs

-- the text is a certificate as a line, and is read as this certificate
pub record IsWritten (c : Cert) (text : List ℕ) : Type 0 where
  pub says : text ≡ line (compact_text (cert c))
  pub reads : cert_in text ≡ Good c

-- no number of an obligation is too large, and all are proved: the text is a certificate with one proof an obligation, in one line,
-- and the design is accepted with it
pub record IsCertified (d : Design) (text : List ℕ) : Type 0 where
  pub narrow : first_wide (drafts_of d) ≡ None
  pub closes : AllClose d (sequents_of d)
  pub c : Cert
  pub whole : length c.proofs ≡ length (sequents_of d)
  pub accepts : Accepts d c
  pub sound : IsSound d
  pub written : IsWritten c text

-- no number of an obligation is too large, but not all are proved: each that isn't has its line
pub record IsOpen (d : Design) (text : List ℕ) : Type 0 where
  pub narrow : first_wide (drafts_of d) ≡ None
  pub not_all : ¬ AllClose d (sequents_of d)
  pub says : text ≡ open_lines d (sequents_of d)

-- a number of an obligation is too large; the first such is said
pub record IsWide (d : Design) (text : List ℕ) : Type 0 where
  pub origin : Origin
  pub wide : first_wide (drafts_of d) ≡ Some origin
  pub says : text ≡ line (codes "refused wide " ++ origin_text d origin)

abbrev pub Proves : Design → Proving → Type 0
Proves d (Proved text) = IsCertified d text.items
Proves d (Open text) = IsOpen d text.items
Proves d (Wide text) = IsWide d text.items
