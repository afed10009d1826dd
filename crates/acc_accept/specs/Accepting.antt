-- When a design is accepted with a certificate, and why it is refused.
use Rattle.std.specs.Prelude.{◌≡◌, ℕ, ◌<◌, List, Option, Some, None, Result, Ok, Err, slice_get, ⊤}
use Rattle.acc_base.specs.declared.designs.Design.{Design}
use Rattle.acc_base.specs.declared.sequents.Origin.{Origin}
use Rattle.acc_base.specs.declared.sequents.Sequent.{Sequent}
use Rattle.acc_form.specs.declared.rules.FormError.TheVariants.{Bad}
use Rattle.acc_form.specs.Faults.{IsFirstFault}
use Rattle.acc_form.specs.Judged.{IsFaultInPrint}
use Rattle.acc_formed.specs.WellFormed.{IsWellFormed}
use Rattle.acc_oblig.specs.Laws.{drafts_of, sequents_of}
use Rattle.acc_oblig_paths.specs.Causes.{first_wide}
use Rattle.acc_oblig_paths.specs.ObligError.{ObligError}
use Rattle.acc_oblig_paths.specs.ObligError.TheVariants as oblig_error
use Rattle.acc_axioms.specs.declared.nodes.Proof.{Proof}
use Rattle.acc_axioms.specs.declared.nodes.Cert.{Cert}
use Rattle.acc_proof.specs.Proofs.{Verdict, Proved, NotProved as IsNoProof, WideAt, verdict}
use Rattle.acc_accept.specs.declared.refusals.Refusal.{Refusal}
use Rattle.acc_accept.specs.declared.refusals.Refusal.TheVariants.{Form, ObligWide, Missing, ProofWide, NotProved, Memory}

-- ---- one obligation

-- there is a proof, and it is one of the obligation
abbrev pub IsProved : Design → Sequent → Option Proof → Type 0
IsProved d q None = ⊥
IsProved d q (Some p) = verdict d q p.nodes ≡ Proved

-- what a verdict on a proof refuses
abbrev pub lack_by : Origin → Verdict → Option Refusal
lack_by origin Proved = None
lack_by origin IsNoProof = Some (NotProved origin)
lack_by origin (WideAt node) = Some (ProofWide origin)

-- what is refused of an obligation and the proof at its place, if there is one
abbrev pub lack_of : Design → Sequent → Option Proof → Option Refusal
lack_of d q None = Some (Missing q.origin)
lack_of d q (Some p) = lack_by q.origin (verdict d q p.nodes)

-- ---- all of them

-- each is proved by the proof at its place
abbrev pub AreProved : Design → List Sequent → List Proof → Type 0
AreProved d qs ps = (n : ℕ) (q : Sequent) → slice_get qs n ≡ Some q → IsProved d q (slice_get ps n)

-- the first one that isn't, and what is refused there
pub record IsFirstLack (d : Design) (qs : List Sequent) (ps : List Proof) (r : Refusal) : Type 0 where
  pub place : ℕ
  pub sequent : Sequent
  pub there : slice_get qs place ≡ Some sequent
  pub lacks : lack_of d sequent (slice_get ps place) ≡ Some r
  pub before : (n : ℕ) (q : Sequent) → n < place → slice_get qs n ≡ Some q → IsProved d q (slice_get ps n)

-- ---- a design with a certificate

-- the form rules hold, no number of an obligation is too large, and each obligation is proved by the proof at its place
pub record Accepts (d : Design) (c : Cert) : Type 0 where
  pub formed : IsWellFormed d
  pub narrow : first_wide (drafts_of d) ≡ None
  pub proved : AreProved d (sequents_of d) c.proofs

-- the form rules hold and no number of an obligation is too large, but an obligation isn't proved
pub record Lacks (d : Design) (c : Cert) (r : Refusal) : Type 0 where
  pub formed : IsWellFormed d
  pub narrow : first_wide (drafts_of d) ≡ None
  pub first : IsFirstLack d (sequents_of d) c.proofs r

-- the reasons in their order; want of memory says nothing
abbrev pub Refuses : Design → Cert → Refusal → Type 0
Refuses d c (Form rule line) = IsFirstFault d (Bad rule line) × IsFaultInPrint d (Bad rule line)
Refuses d c (ObligWide origin) = IsWellFormed d × (first_wide (drafts_of d) ≡ Some origin)
Refuses d c (Missing origin) = Lacks d c (Missing origin)
Refuses d c (ProofWide origin) = Lacks d c (ProofWide origin)
Refuses d c (NotProved origin) = Lacks d c (NotProved origin)
Refuses d c Memory = ⊤

abbrev pub IsOutOfMemory : Refusal → Type 0
IsOutOfMemory r = r ≡ Memory

-- ---- what the parts of the answer tell

abbrev pub refusal_of : ObligError → Refusal
refusal_of (oblig_error.Wide origin) = ObligWide origin
refusal_of oblig_error.Memory = Memory

-- what a refusal tells; want of memory says nothing
abbrev pub Told : Refusal → Type 0 → Type 0
Told (Form rule line) Fact = Fact
Told (ObligWide origin) Fact = Fact
Told (Missing origin) Fact = Fact
Told (ProofWide origin) Fact = Fact
Told (NotProved origin) Fact = Fact
Told Memory Fact = ⊤

-- nothing is refused, or this is
abbrev pub TellsLack : {T : Type 0} → Result T Refusal → Option Refusal → Type 0
TellsLack (Ok x) lack = lack ≡ None
TellsLack (Err r) lack = Told r (lack ≡ Some r)

abbrev pub TellsFirstLack : {T : Type 0} → Design → List Sequent → List Proof → Result T Refusal → Type 0
TellsFirstLack d qs ps (Ok x) = AreProved d qs ps
TellsFirstLack d qs ps (Err r) = Told r (IsFirstLack d qs ps r)

abbrev pub Judges : {T : Type 0} → Design → Cert → Result T Refusal → Type 0
Judges d c (Ok x) = Accepts d c
Judges d c (Err r) = Refuses d c r
