use Rattle.std.proofs.Common.{◌≡◌, ◌++◌}
use Rattle.acc_prover_branch.proofs.axiom_passes.add_rels.Given as goal

abbrev pub invariant-loop-rel : goal.invariant-loop-rel
invariant-loop-rel l =
    record {
      can : (goal.iterator-loop-rel).can_next l.rel-iterator;
      finite : (goal.iterator-loop-rel).is_finite l.rel-iterator;
      value : l.rels ≡ l.fn.rels ++ l.yielded;
    }
