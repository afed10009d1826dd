-- What the searches for the proofs of obligations find.
use Rattle.std.specs.Prelude.{◌≡◌, ◌≢◌, ℕ, IsTrue, List, Result, Err, IfOk}
use Rattle.std.specs.List.{AllZip, flat_map}
use Rattle.std.specs.Borrow.{Bor}
use Rattle.acc_base.specs.declared.designs.Design.{Design}
use Rattle.acc_base.specs.declared.sequents.Sequent.{Sequent}
use Rattle.acc_formed.specs.WellFormed.{IsWellFormed}
use Rattle.acc_axioms.specs.declared.nodes.Proof.{Proof}
use Rattle.acc_cert_bounds.specs.InBounds.{nodes as are_in_bounds}
use Rattle.acc_prover.specs.declared.found.SearchError.TheVariants.{Memory}
use Rattle.acc_prover.specs.Courses.{IsProof}
use Rattle.acc_prover.specs.Tellings.{Tells, IfProved}
use Rattle.acc_cert_prove.specs.declared.findings.Finding.{Finding}
use Rattle.acc_cert_prove.specs.Lines.{searched}
use Rattle.acc_cert_prove.specs.Founds.{found_line, found_proofs}

-- what is found of an obligation: of its kind as its search ends, and where that is a proof, one that a certificate's file can hold
pub record IsFinding (d : Design) (q : Sequent) (f : Finding) : Type 0 where
  pub origin : f.origin ≡ q.origin
  pub kind : Tells f.found (searched d q)
  pub proof : IfProved f.found (IsProof d q)
  pub bounds : IfProved f.found (λ nodes. IsTrue (are_in_bounds nodes))

-- one for each obligation, in their order
abbrev pub AreFindings : Design → List Sequent → List Finding → Type 0
AreFindings d qs fs = AllZip (IsFinding d) qs fs

-- at a well-formed design and obligations the call may be made, and it gives what is found of each
pub record SearchesSo {A E : Type 0} (pre : A → Bor Design → Bor (List Sequent) → Type 0)
    (post : A → Bor Design → Bor (List Sequent) → Result (List Finding) E → Type 0) : Type 0 where
  pub may : (alloc : A) (d : Bor Design) (qs : Bor (List Sequent)) → IsWellFormed d.now → pre alloc d qs
  pub gives : (alloc : A) (d : Bor Design) (qs : Bor (List Sequent)) (r : Result (List Finding) E) → IsWellFormed d.now
      → post alloc d qs r → IfOk r (AreFindings d.now qs.now)

-- memory lasted for the search
abbrev pub HasEnded : Finding → Type 0
HasEnded f = f.found ≢ Err Memory

-- the lines and the proofs of findings, in their order
abbrev pub finding_lines : Design → List Finding → List ℕ
finding_lines d fs = flat_map (λ f. found_line d f.origin f.found) fs

abbrev pub finding_proofs : List Finding → List Proof
finding_proofs fs = flat_map (λ f. found_proofs f.found) fs
