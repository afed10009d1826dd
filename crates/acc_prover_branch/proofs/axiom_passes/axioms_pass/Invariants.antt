use Rattle.std.proofs.Common.{◌≡◌, drop}
use Rattle.acc_base.specs.Computing.{steps}
use Rattle.acc_prover_branch.specs.Known.{known_of}
use Rattle.acc_prover_branch.specs.AxiomPasses.{try_kind}
use Rattle.acc_prover_branch.proofs.axiom_passes.axioms_pass.Given as goal

abbrev pub invariant-loop-kind : goal.invariant-loop-kind
invariant-loop-kind l =
    steps (try_kind l.design l.sequent) (known_of l.known, l.nodes.items) (drop l.kind-index l.kind-items)
    ≡ steps (try_kind l.design l.sequent) (known_of l.fn.known, l.fn.nodes.items) l.kind-items
