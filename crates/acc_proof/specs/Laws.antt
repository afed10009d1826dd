-- The law of proofs.
use Rattle.std.specs.Prelude.{◌≡◌, List}
use Rattle.acc_base.specs.declared.designs.Design.{Design}
use Rattle.acc_base.specs.declared.sequents.Sequent.{Sequent}
use Rattle.acc_base.specs.TrueSequents.{SequentTrue}
use Rattle.acc_axioms.specs.declared.nodes.Node.{Node}
use Rattle.acc_proof.specs.Proofs.{verdict, Proved}

-- a sequent that has a proof is true
abbrev pub ProofsImply : Type 0
ProofsImply = (d : Design) (q : Sequent) (nodes : List Node) → verdict d q nodes ≡ Proved → SequentTrue d q
