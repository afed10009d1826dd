use Rattle.std.proofs.Common.{◌≡◌, ◌++◌, take}
use Rattle.acc_oblig_paths.proofs.orders.add_copies.Given as goal

abbrev pub invariant-loop-r : goal.invariant-loop-r
invariant-loop-r l =
    l.out ≡ l.fn.out ++ take l.r-index l.rels
