-- Which certificate some bytes are.
use Rattle.std.specs.Prelude.{ℕ, if◌then◌else◌, List, []}
use Rattle.std.specs.Str.{is_utf8}
use Rattle.serde_json.specs.Data.{Data}
use Rattle.serde_json.specs.Read.{read}
use Rattle.acc_axioms.specs.declared.nodes.Cert.{Cert}
use Rattle.acc_cert_read.specs.Parts.{Part, Off, and_then, gives, given, list_of}
use Rattle.acc_cert_read.specs.Nodes.{proof_of}

abbrev pub cert_of : Data → Part Cert
cert_of d = gives (λ ps. record { proofs = ps }) (list_of proof_of d)

-- the certificate, or the path to the first part that isn't of the shape, which is empty where the bytes are no JSON text
abbrev pub cert_in : List ℕ → Part Cert
cert_in bytes = if is_utf8 bytes then and_then (given (read bytes)) cert_of else Off []
