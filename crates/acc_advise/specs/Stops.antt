-- Whether obligations are proved by their searches, and what the first that isn't is stopped by.
use Rattle.std.specs.Prelude.{◌≡◌, ◌⊎◌, List, [], ◌∷◌, Result, Ok, Err, Option, Some, None}
use Rattle.std.specs.List.{AllByRecursion, AllZip}
use Rattle.acc_base.specs.declared.designs.Design.{Design}
use Rattle.acc_base.specs.declared.sequents.Origin.{Origin}
use Rattle.acc_base.specs.declared.sequents.Sequent.{Sequent}
use Rattle.acc_axioms.specs.declared.nodes.Node.{Node}
use Rattle.acc_axioms.specs.declared.nodes.Proof.{Proof}
use Rattle.acc_prover.specs.BranchCourses.{Course}
use Rattle.acc_prover.specs.Halt.TheVariants as halt
use Rattle.acc_prover.specs.Courses.{IsProof}
use Rattle.acc_prover.specs.Tellings.{Closes}
use Rattle.acc_prover.specs.declared.found.Found.{Found}
use Rattle.acc_prover.specs.declared.found.Found.TheVariants.{Proved, Unproved}
use Rattle.acc_prover.specs.declared.found.SearchError.{SearchError}
use Rattle.acc_prover.specs.declared.found.SearchError.TheVariants as error
use Rattle.acc_cert_prove.specs.Lines.{searched}
use Rattle.acc_cert_prove.specs.declared.findings.Finding.{Finding}
use Rattle.acc_cert_prove.specs.Findings.{HasEnded, finding_proofs}
use Rattle.acc_advise.specs.declared.advice.Obstacle.{Obstacle}
use Rattle.acc_advise.specs.declared.advice.Obstacle.TheVariants.{Open, Crowded, Wide, Many}
use Rattle.acc_advise.specs.declared.trials.SpareTrial.{SpareTrial}
use Rattle.acc_advise.specs.declared.trials.SpareTrial.TheVariants as trial

-- ---- by the definition of the search

-- what stops the search for the proof of an obligation; want of memory isn't told
abbrev pub stop_in : Course (List Node) → Option Obstacle
stop_in (Ok nodes) = None
stop_in (Err (halt.Open leaf point)) = Some (Open leaf point)
stop_in (Err halt.Crowded) = Some Crowded
stop_in (Err halt.Wide) = Some Wide
stop_in (Err halt.Many) = Some Many
stop_in (Err halt.Memory) = None

-- all branches of each obligation's search are closed
abbrev pub AllProved : Design → List Sequent → Type 0
AllProved d qs = AllByRecursion (λ q. Closes (searched d q)) qs

-- the first obligation that isn't proved comes from here, and this stops its search
abbrev pub IsFirstOpen : Design → List Sequent → Origin → Obstacle → Type 0
IsFirstOpen d [] o w = ⊥
IsFirstOpen d (q ∷ qs) o w =
    ((q.origin ≡ o) × (stop_in (searched d q) ≡ Some w)) ⊎ (Closes (searched d q) × IsFirstOpen d qs o w)

-- a proof of each obligation, in their order
abbrev pub AreProofs : Design → List Sequent → List Proof → Type 0
AreProofs d qs ps = AllZip (λ q p. IsProof d q p.nodes) qs ps

-- what is told of obligations that are to be proved
abbrev pub Tries : Design → List Sequent → SpareTrial → Type 0
Tries d qs (trial.Proved ps) = AllProved d qs × AreProofs d qs ps
Tries d qs (trial.Stopped o w) = IsFirstOpen d qs o w

-- ---- by what searches found

abbrev pub why_of : Result Found SearchError → Option Obstacle
why_of (Ok (Proved p)) = None
why_of (Ok (Unproved leaf point)) = Some (Open leaf point)
why_of (Err error.Crowded) = Some Crowded
why_of (Err error.Wide) = Some Wide
why_of (Err error.Many) = Some Many
why_of (Err error.Memory) = None

-- a reason behind those before it: the first is kept
abbrev pub later_stop : Option (Origin × Obstacle) → Origin → Obstacle → Option (Origin × Obstacle)
later_stop None o w = Some (o, w)
later_stop (Some s) o w = Some s

abbrev pub stop_by : Option (Origin × Obstacle) → Origin → Option Obstacle → Option (Origin × Obstacle)
stop_by stop o None = stop
stop_by stop o (Some w) = later_stop stop o w

abbrev pub stop_of : Option (Origin × Obstacle) → Finding → Option (Origin × Obstacle)
stop_of stop f = stop_by stop f.origin (why_of f.found)

-- a reason before others
abbrev pub stop_or : Origin → Option Obstacle → Option (Origin × Obstacle) → Option (Origin × Obstacle)
stop_or o None rest = rest
stop_or o (Some w) rest = Some (o, w)

-- the first finding that is no proof
abbrev pub first_stop : List Finding → Option (Origin × Obstacle)
first_stop [] = None
first_stop (f ∷ fs) = stop_or f.origin (why_of f.found) (first_stop fs)

-- memory lasted for all searches, and this comes of them
abbrev pub Ends : List Finding → SpareTrial → Type 0
Ends fs (trial.Proved ps) = AllByRecursion HasEnded fs × (first_stop fs ≡ None) × (ps ≡ finding_proofs fs)
Ends fs (trial.Stopped o w) = AllByRecursion HasEnded fs × (first_stop fs ≡ Some (o, w))
