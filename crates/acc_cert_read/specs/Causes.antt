-- Why something is no certificate.
use Rattle.std.specs.Prelude.{◌≡◌, ℕ, ◌∷◌, Result, Ok, Err, ⊤}
use Rattle.acc_cert_read.specs.declared.errors.CertError.{CertError}
use Rattle.acc_cert_read.specs.declared.errors.CertError.TheVariants.{NotCert, Memory}
use Rattle.acc_cert_read.specs.Parts.{Part, Off}

-- NotCert where the part is off, with its path; want of memory says nothing
abbrev pub TellsOff : {T A : Type 0} → Result T CertError → Part A → Type 0
TellsOff (Ok x) part = ⊤
TellsOff (Err (NotCert path)) part = part ≡ Off path
TellsOff (Err Memory) part = ⊤

-- the cause for an array, by that for its item of this number, unless memory ran out
abbrev pub IsUnder : ℕ → CertError → CertError → Type 0
IsUnder i (NotCert path) (NotCert longer) = longer ≡ i ∷ path
IsUnder i Memory (NotCert longer) = ⊥
IsUnder i (NotCert path) Memory = ⊤
IsUnder i Memory Memory = ⊤
