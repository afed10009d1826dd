-- A certificate with a line feed behind it is read as the same certificate.
use Rattle.std.proofs.Common.{◌≡◌, ℕ, true, false, List, [], ◌∷◌, Ok, Err, inr, refl, sym, ap, ◌∙◌, IsUtf8}
use Rattle.std.specs.Prelude.{IsTrue, option_and_then, Result, IfOk, if◌then◌else◌}
use Rattle.std.specs.Str.{is_utf8}
use Rattle.std.proofs.lemmas.Str.{IsUtf8-from_is_utf8, IsUtf8-append}
use Rattle.json.specs.Json as json
use Rattle.json.proofs.Printed.Utf8.{IsUtf8-IsGap}
use Rattle.serde_json.specs.Read.{read, of_json, max_depth}
use Rattle.serde_json.specs.Written.{compact_text}
use Rattle.acc_base.specs.Lines.{line}
use Rattle.acc_axioms.specs.declared.nodes.Cert.{Cert}
use Rattle.acc_cert_bounds.specs.InBounds.{cert as is_in_bounds}
use Rattle.acc_cert_read.specs.Parts.{Part, Good, Off, and_then, given}
use Rattle.acc_cert_read.specs.Certificates.{cert_in, cert_of}
use Rattle.acc_cert_read.proofs.Texts.{of_text}
use Rattle.acc_cert.specs.SpelledNodes.{cert}
use Rattle.acc_cert_prove.specs.Provings.{IsWritten}
use Rattle.acc_cert_prove.proofs.LineFeeds.{tokens_line}

read_line : (text : List ℕ) → read (line text) ≡ read text
read_line text =
    ap (λ ts. option_and_then of_json (option_and_then (λ p. json.if_last p.0 p.1) (json.value max_depth ts))) (tokens_line text)

none_good : (c : Cert) → ◌≡◌ {A = Part Cert} (Off []) (Good c) → ⊥
none_good c h = cc

feed_is_text : IsUtf8 (10 ∷ [])
feed_is_text = IsUtf8-IsGap (10 ∷ []) (inr refl, tt)

of_broken : (bytes : List ℕ) → is_utf8 bytes ≡ false → cert_in bytes ≡ Off []
of_broken bytes e = ap (λ b. if b then and_then (given (read bytes)) cert_of else Off []) e

pub cert_line : (text : List ℕ) (c : Cert) → cert_in text ≡ Good c → cert_in (line text) ≡ Good c
cert_line text c is =
    elim (is_utf8 text) as (λ b. is_utf8 text ≡ b → cert_in (line text) ≡ Good c) [
      | true ↦ λ e.
          let whole : IsUtf8 text = IsUtf8-from_is_utf8 text e in
          let both : IsUtf8 (line text) = IsUtf8-append text (10 ∷ []) whole feed_is_text in
          sym (of_text (line text) both) ∙ ap (λ r. and_then (given r) cert_of) (read_line text) ∙ of_text text whole ∙ is
      | false ↦ λ e. absurd (none_good c (sym (of_broken text e) ∙ is))
    ] refl

pub written_line :
    (c : Cert) (text ended : List ℕ) → text ≡ compact_text (cert c) → (IsTrue (is_in_bounds c) → cert_in text ≡ Good c)
    → ended ≡ line text → IsTrue (is_in_bounds c) → IsWritten c ended
written_line c text ended says reads e h = record {
  says = e ∙ ap line says;
  reads = ap cert_in e ∙ cert_line text c (reads h);
}

pub written_if : {V E : Type 0}
    (items : V → List ℕ) (c : Cert) (text : List ℕ) (r : Result V E) → text ≡ compact_text (cert c)
    → (IsTrue (is_in_bounds c) → cert_in text ≡ Good c) → IfOk r (λ v. items v ≡ line text)
    → IfOk r (λ v. IsTrue (is_in_bounds c) → IsWritten c (items v))
written_if items c text (Ok v) says reads e = written_line c text (items v) says reads e
written_if items c text (Err x) says reads e = tt
