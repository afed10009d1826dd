use Rattle.std.proofs.Common.{◌≡◌, drop}
use Rattle.acc_base.specs.Computing.{steps}
use Rattle.acc_prover_branch.specs.Known.{known_of}
use Rattle.acc_prover_branch.specs.AxiomPasses.{try_axiom}
use Rattle.acc_prover_branch.proofs.axiom_passes.try_kind.Given as goal

abbrev pub invariant-loop-schema : goal.invariant-loop-schema
invariant-loop-schema l =
    steps (try_axiom l.design l.sequent) (known_of l.known, l.nodes.items) (drop l.schema-index l.schema-items)
    ≡ steps (try_axiom l.design l.sequent) (known_of l.fn.known, l.fn.nodes.items) l.schema-items
