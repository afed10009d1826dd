use Rattle.std.proofs.Common.{◌≡◌, ◌++◌, take, map}
use Rattle.acc_oblig.specs.Spares.{pair_lin}
use Rattle.acc_oblig_clauses.specs.Seen.{seen}
use Rattle.acc_oblig_paths.proofs.entries.add_pair_lins.Given as goal

abbrev pub invariant-loop-pair : goal.invariant-loop-pair
invariant-loop-pair l =
    l.out ≡ l.fn.out ++ map (pair_lin (seen l.s) l.side) (take l.pair-index l.pairs)
