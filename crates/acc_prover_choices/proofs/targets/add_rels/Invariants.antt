use Rattle.std.proofs.Common.{◌≡◌, drop}
use Rattle.acc_prover_choices.specs.Parts.{with_firsts}
use Rattle.acc_prover_choices.specs.Targets.{same_target, rel_targets}
use Rattle.acc_prover_choices.proofs.targets.add_rels.Given as goal

abbrev pub invariant-loop-rel : goal.invariant-loop-rel
invariant-loop-rel l = with_firsts same_target l.targets.items (rel_targets (drop l.rel-index l.rels)) ≡ with_firsts same_target
    l.fn.targets.items (rel_targets l.rels)
