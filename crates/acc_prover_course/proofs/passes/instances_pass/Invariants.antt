use Rattle.std.proofs.Common.{◌≡◌, drop}
use Rattle.acc_base.specs.Computing.{steps}
use Rattle.acc_prover_branch.specs.Known.{known_of}
use Rattle.acc_prover_course.specs.Passes.{try_next}
use Rattle.acc_prover_course.proofs.passes.instances_pass.Given as goal

abbrev pub invariant-loop-instance : goal.invariant-loop-instance
invariant-loop-instance l =
    record {
      place : l.i ≡ l.instance-index;
      so_far : steps try_next (l.i, (known_of l.known, l.nodes.items)) (drop l.instance-index l.made)
          ≡ steps try_next (0, (known_of l.fn.known, l.fn.nodes.items)) l.made;
    }
