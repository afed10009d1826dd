-- A design and bytes have one report.
use Rattle.std.proofs.Common.{◌≡◌, ℕ, Bool, true, false, List, refl, sym, ap, subst, ◌∙◌, inl, inr}
use Rattle.std.specs.Prelude.{◌++◌, codes}
use Rattle.acc_base.specs.declared.designs.Design.{Design}
use Rattle.acc_base.specs.Lines.{line}
use Rattle.acc_axioms.specs.declared.nodes.Cert.{Cert}
use Rattle.acc_cert_read.specs.Parts.{Part, Good, Off}
use Rattle.acc_accept.specs.declared.refusals.Refusal.{Refusal}
use Rattle.acc_accept.proofs.OneRefusal.{none_is_both, refused_for_one_reason}
use Rattle.acc_oblig_origins.specs.Origins.{path_text}
use Rattle.acc_cert_check.specs.Reports.{reason_text, ReportsWith, TellsBytes}
use Rattle.acc_cert_check.specs.Laws.{OneReport}

one_good : (c e : Cert) → Good c ≡ Good e → c ≡ e
one_good c e h = cc

one_path : (p q : List ℕ) → ◌≡◌ {A = Part Cert} (Off p) (Off q) → p ≡ q
one_path p q h = cc

good_or_off : (c : Cert) (path : List ℕ) → Good c ≡ Off path → ⊥
good_or_off c path h = cc

with_one : (d : Design) (c : Cert) (a b : Bool) (t u : List ℕ) → ReportsWith d c a t → ReportsWith d c b u → (a ≡ b) × (t ≡ u)
with_one d c true true t u h k = (refl, h.says ∙ sym k.says)
with_one d c true false t u h k = absurd (none_is_both d c k.reason k.other h.accepts k.refuses)
with_one d c false true t u h k = absurd (none_is_both d c h.reason h.other k.accepts h.refuses)
with_one d c false false t u h k = (
  refl,
  h.says
      ∙ ap (λ (r : Refusal). line (codes "refused " ++ reason_text d r))
      (refused_for_one_reason d c h.reason k.reason h.other k.other h.refuses k.refuses)
      ∙ sym k.says,
)

bytes_one : (bytes : List ℕ) (a b : Bool) (t u : List ℕ) → TellsBytes bytes a t → TellsBytes bytes b u → (a ≡ b) × (t ≡ u)
bytes_one bytes a b t u h k = (
  h.refused ∙ sym k.refused,
  h.says
      ∙ ap (λ (p : List ℕ). line (codes "refused certificate " ++ path_text p)) (one_path h.path k.path (sym h.off ∙ k.off))
      ∙ sym k.says,
)

pub reports_once : OneReport
reports_once d bytes a b t u (inl h) (inl k) = bytes_one bytes a b t u h k
reports_once d bytes a b t u (inl h) (inr k) = absurd (good_or_off k.c h.path (sym k.is_certificate ∙ h.off))
reports_once d bytes a b t u (inr h) (inl k) = absurd (good_or_off h.c k.path (sym h.is_certificate ∙ k.off))
reports_once d bytes a b t u (inr h) (inr k) =
    with_one d k.c a b t u
    (subst (λ (c : Cert). ReportsWith d c a t) (one_good h.c k.c (sym h.is_certificate ∙ k.is_certificate)) h.reports) k.reports
