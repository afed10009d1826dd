-- What searches add to the proofs and to the lines, one after the other.
use Rattle.std.specs.Prelude.{◌≡◌, ◌≢◌, ℕ, IsTrue, List, [], ◌∷◌, ◌++◌, Result, Ok, Err, codes}
use Rattle.acc_base.specs.declared.designs.Design.{Design}
use Rattle.acc_base.specs.declared.sequents.Origin.{Origin}
use Rattle.acc_base.specs.declared.sequents.Sequent.{Sequent}
use Rattle.acc_axioms.specs.declared.nodes.Node.{Node}
use Rattle.acc_axioms.specs.declared.nodes.Proof.{Proof}
use Rattle.acc_axioms.specs.declared.nodes.Cert.{Cert}
use Rattle.acc_cert_bounds.specs.InBounds.{proof as is_in_bounds, cert as is_cert_in_bounds}
use Rattle.acc_prover.specs.BranchCourses.{Course}
use Rattle.acc_prover.specs.declared.found.Found.{Found}
use Rattle.acc_prover.specs.declared.found.Found.TheVariants.{Proved, Unproved}
use Rattle.acc_prover.specs.declared.found.SearchError.{SearchError}
use Rattle.acc_prover.specs.declared.found.SearchError.TheVariants.{Crowded, Wide, Many, Memory}
use Rattle.acc_prover.specs.Courses.{IsProof}
use Rattle.acc_cert_prove.specs.declared.proving.Proving.{Proving}
use Rattle.acc_cert_prove.specs.declared.proving.Proving.TheVariants as proving
use Rattle.acc_cert_prove.specs.Lines.{searched, point_text, line_of, open_lines}
use Rattle.acc_cert_prove.specs.Provings.{IsWritten}

-- the line by what a search found
abbrev pub found_line : Design → Origin → Result Found SearchError → List ℕ
found_line d o (Ok (Proved p)) = []
found_line d o (Ok (Unproved leaf point)) = line_of d o (point_text point)
found_line d o (Err Crowded) = line_of d o (codes "crowded")
found_line d o (Err Wide) = line_of d o (codes "wide")
found_line d o (Err Many) = line_of d o (codes "many")
found_line d o (Err Memory) = []

-- and the proof
abbrev pub found_proofs : Result Found SearchError → List Proof
found_proofs (Ok (Proved p)) = p ∷ []
found_proofs (Ok (Unproved leaf point)) = []
found_proofs (Err e) = []

-- where all branches of a search are closed there is a proof of the obligation, whose numbers a certificate's file can hold; and else none
abbrev pub Gives : Design → Sequent → Course (List Node) → List Proof → Type 0
Gives d q (Ok nodes) ps = (p : Proof) × (ps ≡ p ∷ []) × IsProof d q p.nodes × IsTrue (is_in_bounds p)
Gives d q (Err end) ps = ps ≡ []

-- the proofs that the searches of obligations give, in their order
abbrev pub GivesAll : Design → List Sequent → List Proof → Type 0
GivesAll d [] ps = ps ≡ []
GivesAll d (q ∷ qs) ps =
    (first : List Proof) × (rest : List Proof) × (ps ≡ first ++ rest) × Gives d q (searched d q) first × GivesAll d qs rest

-- proofs are added
abbrev pub AddsProofs : Design → List Sequent → List Proof → List Proof → Type 0
AddsProofs d qs old new = (ps : List Proof) × (new ≡ old ++ ps) × GivesAll d qs ps

-- without lines the proofs are a certificate, which is written if its file can hold their numbers; and else the lines are told.
-- For example, of the proofs p and q and no line comes Proved, with the certificate of p and q as its text; of p alone and the line
-- `open S2 - 1 sell.chosen next 1 1 many` comes Open, with this line as its text. Wide never comes: it is told before any search
abbrev pub Ends : List Proof → List ℕ → Proving → Type 0
Ends ps lines (proving.Proved text) =
    let c : Cert = record { proofs = ps } in (lines ≡ []) × (IsTrue (is_cert_in_bounds c) → IsWritten c text.items)
Ends ps lines (proving.Open text) = (lines ≢ []) × (text.items ≡ lines)
Ends ps lines (proving.Wide text) = ⊥

-- what is told of obligations by their searches
abbrev pub ProvesAll : Design → List Sequent → Proving → Type 0
ProvesAll d qs r = (ps : List Proof) × GivesAll d qs ps × Ends ps (open_lines d qs) r
