use Rattle.std.proofs.Common.{◌≡◌, drop}
use Rattle.acc_prover_branch.specs.Known.{shows_all}
use Rattle.acc_prover_branch.proofs.known.shows_all.Given as goal

abbrev pub invariant-loop-fact : goal.invariant-loop-fact
invariant-loop-fact l =
    record {
      same : l.rels ≡ l.fn.rels;
      so_far : shows_all l.rels l.found.items (drop l.fact-index l.facts) ≡ shows_all l.fn.rels l.fn.found.items l.facts;
    }
