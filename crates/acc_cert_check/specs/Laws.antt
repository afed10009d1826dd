-- A design and bytes have one report.
use Rattle.std.specs.Prelude.{◌≡◌, ℕ, Bool, List}
use Rattle.acc_base.specs.declared.designs.Design.{Design}
use Rattle.acc_cert_check.specs.Reports.{Reports}

-- whether it is accepted, and the line that says so
abbrev pub OneReport : Type 0
OneReport =
    (d : Design) (bytes : List ℕ) (a b : Bool) (t u : List ℕ) → Reports d bytes a t → Reports d bytes b u → (a ≡ b) × (t ≡ u)
