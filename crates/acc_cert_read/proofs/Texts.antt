-- Bytes that are UTF-8, and others.
use Rattle.std.proofs.Common.{◌≡◌, ℕ, true, false, List, [], refl, IsUtf8}
use Rattle.std.specs.Prelude.{if◌then◌else◌}
use Rattle.std.specs.Str.{is_utf8}
use Rattle.serde_json.specs.Read.{read}
use Rattle.acc_cert_read.specs.Parts.{Off, and_then, given}
use Rattle.acc_cert_read.specs.Certificates.{cert_in, cert_of}
use Rattle.std.proofs.lemmas.Str.{IsUtf8-from_is_utf8, is_utf8-from_IsUtf8}

pub of_text : (bytes : List ℕ) → IsUtf8 bytes → and_then (given (read bytes)) cert_of ≡ cert_in bytes
of_text bytes h = rw (is_utf8-from_IsUtf8 bytes h) refl

pub of_others : (bytes : List ℕ) → ¬ IsUtf8 bytes → cert_in bytes ≡ Off []
of_others bytes broken =
    elim (is_utf8 bytes) as (λ b. is_utf8 bytes ≡ b → (if b then and_then (given (read bytes)) cert_of else Off []) ≡ Off []) [
      | true ↦
          λ e. absurd (broken (IsUtf8-from_is_utf8 bytes e))
      | false ↦ λ e. refl
    ] refl
