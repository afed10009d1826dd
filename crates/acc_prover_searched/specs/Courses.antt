-- What the course of a search shows by its end.
use Rattle.std.specs.Prelude.{◌≡◌, IsTrue, List, Ok, Err}
use Rattle.acc_base.specs.declared.designs.Design.{Design}
use Rattle.acc_base.specs.declared.forms.Lin.{Lin}
use Rattle.acc_base.specs.declared.forms.Rel.{Rel}
use Rattle.acc_base.specs.declared.sequents.Sequent.{Sequent}
use Rattle.acc_elim_points.specs.Points.{Point}
use Rattle.acc_axioms.specs.declared.nodes.Node.{Node}
use Rattle.acc_cert_bounds.specs.InBounds.{nodes_near}
use Rattle.acc_proof.specs.Proofs as proofs
use Rattle.acc_prover_course.specs.Halt.TheVariants.{Open}
use Rattle.acc_prover_course.specs.Searches.{course}
use Rattle.acc_prover_searched.specs.OpenLeaves.{IsOpenLeaf}

-- nodes are a proof of a sequent
abbrev pub IsProof : Design → Sequent → List Node → Type 0
IsProof d q nodes = proofs.verdict d q nodes ≡ proofs.Proved

abbrev pub NodesAreAProof : Type 0
NodesAreAProof = (d : Design) (q : Sequent) (hints : List Lin) (nodes : List Node) → course d q hints ≡ Ok nodes → IsProof d q nodes

-- of their numbers those that may have more than 64 bits are within 2^120 of 0: those of a split's form, and multipliers
abbrev pub NodesAreNear : Type 0
NodesAreNear =
    (d : Design) (q : Sequent) (hints : List Lin) (nodes : List Node) → course d q hints ≡ Ok nodes → IsTrue (nodes_near nodes)

abbrev pub OpenLeafIsMet : Type 0
OpenLeafIsMet =
    (d : Design) (q : Sequent) (hints : List Lin) (leaf : List Rel) (point : Point) → course d q hints ≡ Err (Open leaf point)
    → IsOpenLeaf q hints leaf point
