use Rattle.std.proofs.Common.{◌≡◌, take}
use Rattle.acc_prover_candidates.proofs.copies.copied_rels.Given as goal

abbrev pub invariant-loop-rel : goal.invariant-loop-rel
invariant-loop-rel l =
    l.again.items ≡ take l.rel-index l.rels
