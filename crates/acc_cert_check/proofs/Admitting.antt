-- What is said of a design that is accepted with the bytes of a certificate.
use Rattle.std.proofs.Common.{◌≡◌, ℕ, true, List, inr}
use Rattle.std.specs.Prelude.{codes}
use Rattle.acc_base.specs.declared.designs.Design.{Design}
use Rattle.acc_base.specs.Lines.{line}
use Rattle.acc_cert_check.specs.Admissions.{IsAcceptedWith}
use Rattle.acc_cert_check.specs.Reports.{Reports}

pub accepted_reports :
    (d : Design) (bytes text : List ℕ) → IsAcceptedWith d bytes → text ≡ line (codes "accepted") → Reports d bytes true text
accepted_reports d bytes text a says = inr (record {
  c = a.c;
  is_certificate = a.is_certificate;
  reports = record { accepts = a.accepts; sound = a.sound; says = says };
})
