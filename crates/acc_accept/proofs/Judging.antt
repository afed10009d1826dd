-- What the proofs of the obligations say of the design.
use Rattle.std.proofs.Common.{◌≡◌, ℕ, List, None, Some, refl, subst}
use Rattle.std.specs.Prelude.{Option, Result, Ok, Err, slice_get}
use Rattle.acc_base.specs.declared.designs.Design.{Design}
use Rattle.acc_base.specs.declared.sequents.Origin.{Origin}
use Rattle.acc_base.specs.declared.rules.FormRule.{FormRule}
use Rattle.acc_base.specs.declared.sequents.Sequent.{Sequent}
use Rattle.acc_formed.specs.WellFormed.{IsWellFormed}
use Rattle.acc_oblig.specs.Laws.{drafts_of, sequents_of}
use Rattle.acc_oblig_paths.specs.Causes.{first_wide}
use Rattle.acc_axioms.specs.declared.nodes.Proof.{Proof}
use Rattle.acc_axioms.specs.declared.nodes.Cert.{Cert}
use Rattle.acc_proof.specs.Proofs.{Verdict, Proved, NotProved as IsNoProof, WideAt, verdict}
use Rattle.acc_accept.specs.declared.refusals.Refusal.{Refusal}
use Rattle.acc_accept.specs.declared.refusals.Refusal.TheVariants.{Form, ObligWide, Missing, ProofWide, NotProved, Memory}
use Rattle.acc_accept.specs.Accepting.{lack_by, lack_of, IsFirstLack, Accepts, Refuses, TellsFirstLack, Judges}
use Rattle.acc_accept.proofs.OneRefusal.{none_is_both}

-- no proof lacks what isn't a proof's
no_form_by : (o : Origin) (v : Verdict) (rule : FormRule) (line : ℕ) → lack_by o v ≡ Some (Form rule line) → ⊥
no_form_by o Proved rule line h = cc
no_form_by o IsNoProof rule line h = cc
no_form_by o (WideAt node) rule line h = cc

no_form : (d : Design) (q : Sequent) (p : Option Proof) (rule : FormRule) (line : ℕ) → lack_of d q p ≡ Some (Form rule line) → ⊥
no_form d q None rule line h = cc
no_form d q (Some p) rule line h = no_form_by q.origin (verdict d q p.nodes) rule line h

no_width_by : (o : Origin) (v : Verdict) (origin : Origin) → lack_by o v ≡ Some (ObligWide origin) → ⊥
no_width_by o Proved origin h = cc
no_width_by o IsNoProof origin h = cc
no_width_by o (WideAt node) origin h = cc

no_width : (d : Design) (q : Sequent) (p : Option Proof) (origin : Origin) → lack_of d q p ≡ Some (ObligWide origin) → ⊥
no_width d q None origin h = cc
no_width d q (Some p) origin h = no_width_by q.origin (verdict d q p.nodes) origin h

judged : (d : Design) (c : Cert) (r : Result (Unit {0}) Refusal) → IsWellFormed d → first_wide (drafts_of d) ≡ None
    → TellsFirstLack d (sequents_of d) c.proofs r → Judges d c r
judged d c (Ok x) formed narrow h = record { formed = formed; narrow = narrow; proved = h }
judged d c (Err (Form rule line)) formed narrow h = absurd (no_form d h.sequent (slice_get c.proofs h.place) rule line h.lacks)
judged d c (Err (ObligWide origin)) formed narrow h = absurd (no_width d h.sequent (slice_get c.proofs h.place) origin h.lacks)
judged d c (Err (Missing origin)) formed narrow h = record { formed = formed; narrow = narrow; first = h }
judged d c (Err (ProofWide origin)) formed narrow h = record { formed = formed; narrow = narrow; first = h }
judged d c (Err (NotProved origin)) formed narrow h = record { formed = formed; narrow = narrow; first = h }
judged d c (Err Memory) formed narrow h = tt

pub judged_by : (d : Design) (c : Cert) (qs : List Sequent) (ps : List Proof) (r : Result (Unit {0}) Refusal) → IsWellFormed d
    → first_wide (drafts_of d) ≡ None → qs ≡ sequents_of d → ps ≡ c.proofs → TellsFirstLack d qs ps r → Judges d c r
judged_by d c qs ps r formed narrow all each h =
    judged d c r formed narrow
    (subst (λ (xs : List Proof). TellsFirstLack d (sequents_of d) xs r) each
    (subst (λ (xs : List Sequent). TellsFirstLack d xs ps r) all h))

-- what is to be accepted is refused for want of memory alone
pub only_memory : (d : Design) (c : Cert) (r : Refusal) → Refuses d c r → Accepts d c → r ≡ Memory
only_memory d c (Form rule line) h a = absurd (none_is_both d c (Form rule line) (λ e. cc) a h)
only_memory d c (ObligWide origin) h a = absurd (none_is_both d c (ObligWide origin) (λ e. cc) a h)
only_memory d c (Missing origin) h a = absurd (none_is_both d c (Missing origin) (λ e. cc) a h)
only_memory d c (ProofWide origin) h a = absurd (none_is_both d c (ProofWide origin) (λ e. cc) a h)
only_memory d c (NotProved origin) h a = absurd (none_is_both d c (NotProved origin) (λ e. cc) a h)
only_memory d c Memory h a = refl
