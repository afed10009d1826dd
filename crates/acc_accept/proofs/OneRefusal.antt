-- A design is refused with a certificate for one reason, and what is accepted for none.
use Rattle.std.proofs.Common.{◌≡◌, ℕ, List, None, Some, refl, sym, ap, ◌∙◌}
use Rattle.std.specs.Prelude.{◌≢◌}
use Rattle.acc_base.specs.declared.designs.Design.{Design}
use Rattle.acc_base.specs.declared.rules.FormRule.{FormRule}
use Rattle.acc_base.specs.declared.sequents.Origin.{Origin}
use Rattle.acc_base.specs.Leasts.{IsLeast}
use Rattle.acc_form.specs.Faults.{form_faults, is_before}
use Rattle.acc_formed.specs.WellFormed.{IsWellFormed}
use Rattle.acc_form.proofs.Placed.{faulty_of_least}
use Rattle.acc_oblig.specs.Laws.{drafts_of, sequents_of}
use Rattle.acc_oblig_paths.specs.Causes.{first_wide}
use Rattle.acc_axioms.specs.declared.nodes.Cert.{Cert}
use Rattle.acc_accept.specs.declared.refusals.Refusal.{Refusal}
use Rattle.acc_accept.specs.declared.refusals.Refusal.TheVariants.{Form, ObligWide, Missing, ProofWide, NotProved, Memory}
use Rattle.acc_accept.specs.Accepting.{Accepts, Lacks, Refuses}
use Rattle.acc_accept.specs.Laws.{NoneIsBoth, RefusedForOneReason}
use Rattle.acc_accept.proofs.Lacking.{no_first_lack, one_lack}
use Rattle.acc_form.proofs.OneFault.{one_least}

none_some : {X : Type 0} (x : X) → None ≡ Some x → ⊥
none_some x e = cc

some_same : {X : Type 0} (x y : X) → Some x ≡ Some y → x ≡ y
some_same x y e = cc

-- the reason of a refusal, of four kinds
data Reason (d : Design) (c : Cert) (r : Refusal) : Type 0 where
  by_form : (rule : FormRule) (line : ℕ) → r ≡ Form rule line → IsLeast is_before (form_faults d) (rule, line) → Reason d c r
  by_width : (origin : Origin) → r ≡ ObligWide origin → IsWellFormed d → first_wide (drafts_of d) ≡ Some origin → Reason d c r
  by_proof : Lacks d c r → Reason d c r
  by_memory : r ≡ Memory → Reason d c r

reason : (d : Design) (c : Cert) (r : Refusal) → Refuses d c r → Reason d c r
reason d c (Form rule line) h = by_form rule line refl h.0
reason d c (ObligWide origin) h = by_width origin refl h.0 h.1
reason d c (Missing origin) h = by_proof h
reason d c (ProofWide origin) h = by_proof h
reason d c (NotProved origin) h = by_proof h
reason d c Memory h = by_memory refl

not_accepted : (d : Design) (c : Cert) (r : Refusal) → r ≢ Memory → Accepts d c → Reason d c r → ⊥
not_accepted d c r other a (by_form rule line is h) = faulty_of_least d (rule, line) h a.formed
not_accepted d c r other a (by_width origin is formed h) = none_some origin (sym a.narrow ∙ h)
not_accepted d c r other a (by_proof h) = no_first_lack d (sequents_of d) c.proofs r a.proved h.first
not_accepted d c r other a (by_memory is) = other is

pub none_is_both : NoneIsBoth
none_is_both d c r other a h = not_accepted d c r other a (reason d c r h)

one_reason : (d : Design) (c : Cert) (r s : Refusal) → r ≢ Memory → s ≢ Memory → Reason d c r → Reason d c s → r ≡ s
one_reason d c r s other more (by_form rule line is h) (by_form rule' line' is' k) =
    let same = one_least (form_faults d) rule line rule' line' h k in
    is ∙ (λ i. Form (same.0 i) (same.1 i)) ∙ sym is'
one_reason d c r s other more (by_form rule line is h) (by_width origin is' formed k) = absurd (faulty_of_least d (rule, line) h formed)
one_reason d c r s other more (by_form rule line is h) (by_proof k) = absurd (faulty_of_least d (rule, line) h k.formed)
one_reason d c r s other more (by_form rule line is h) (by_memory is') = absurd (more is')
one_reason d c r s other more (by_width origin is formed h) (by_form rule line is' k) = absurd (faulty_of_least d (rule, line) k formed)
one_reason d c r s other more (by_width origin is formed h) (by_width origin' is' formed' k) =
    is ∙ ap ObligWide (some_same origin origin' (sym h ∙ k)) ∙ sym is'
one_reason d c r s other more (by_width origin is formed h) (by_proof k) = absurd (none_some origin (sym k.narrow ∙ h))
one_reason d c r s other more (by_width origin is formed h) (by_memory is') = absurd (more is')
one_reason d c r s other more (by_proof h) (by_form rule line is' k) = absurd (faulty_of_least d (rule, line) k h.formed)
one_reason d c r s other more (by_proof h) (by_width origin is' formed k) = absurd (none_some origin (sym h.narrow ∙ k))
one_reason d c r s other more (by_proof h) (by_proof k) = one_lack d (sequents_of d) c.proofs r s h.first k.first
one_reason d c r s other more (by_proof h) (by_memory is') = absurd (more is')
one_reason d c r s other more (by_memory is) k = absurd (other is)

pub refused_for_one_reason : RefusedForOneReason
refused_for_one_reason d c r s other more h k = one_reason d c r s other more (reason d c r h) (reason d c s k)
