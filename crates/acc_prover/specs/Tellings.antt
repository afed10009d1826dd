-- What an answer tells of a search.
use Rattle.std.specs.Prelude.{◌≡◌, List, Result, Ok, Err}
use Rattle.acc_base.specs.declared.designs.Design.{Design}
use Rattle.acc_base.specs.declared.forms.Rel.{Rel}
use Rattle.acc_base.specs.declared.sequents.Sequent.{Sequent}
use Rattle.acc_elim_points.specs.Points.{Point}
use Rattle.acc_axioms.specs.declared.nodes.Node.{Node}
use Rattle.acc_prover_searched.specs.Halt.TheVariants as halt
use Rattle.acc_prover_searched.specs.BranchCourses.{Course}
use Rattle.acc_prover_searched.specs.Courses.{IsProof}
use Rattle.acc_prover.specs.declared.found.Found.{Found}
use Rattle.acc_prover.specs.declared.found.Found.TheVariants.{Proved, Unproved}
use Rattle.acc_prover.specs.declared.found.SearchError.{SearchError}
use Rattle.acc_prover.specs.declared.found.SearchError.TheVariants.{Crowded, Wide, Many, Memory}

-- all branches are closed
abbrev pub Closes : Course (List Node) → Type 0
Closes (Ok nodes) = Unit {0}
Closes (Err e) = ⊥

-- the kind of an answer is that of the search, with its open leaf and its point; want of memory tells nothing
abbrev pub Tells : Result Found SearchError → Course (List Node) → Type 0
Tells (Ok (Proved p)) o = Closes o
Tells (Ok (Unproved leaf point)) o = o ≡ Err (halt.Open leaf point)
Tells (Err Crowded) o = o ≡ Err halt.Crowded
Tells (Err Wide) o = o ≡ Err halt.Wide
Tells (Err Many) o = o ≡ Err halt.Many
Tells (Err Memory) o = Unit {0}

-- the nodes of an answer that proves, and the leaf and the point of one that doesn't
abbrev pub IfProved : Result Found SearchError → (List Node → Type 0) → Type 0
IfProved (Ok (Proved p)) P = P p.nodes
IfProved (Ok (Unproved leaf point)) P = Unit {0}
IfProved (Err e) P = Unit {0}

abbrev pub IfUnproved : Result Found SearchError → (List Rel → Point → Type 0) → Type 0
IfUnproved (Ok (Proved p)) P = Unit {0}
IfUnproved (Ok (Unproved leaf point)) P = P leaf point
IfUnproved (Err e) P = Unit {0}

-- where the nodes with which a search ends are a proof, so are those of an answer
abbrev pub KeepsProof : Design → Sequent → Course (List Node) → Result Found SearchError → Type 0
KeepsProof d q (Ok nodes) r = IsProof d q nodes → IfProved r (IsProof d q)
KeepsProof d q (Err e) r = Unit {0}
