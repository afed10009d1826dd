use Rattle.std.proofs.Common.{◌≡◌, ◌++◌, take, map}
use Rattle.acc_oblig.specs.Naming.{named_rel}
use Rattle.acc_oblig_named.proofs.naming.add_rels.Given as goal

abbrev pub invariant-loop-r : goal.invariant-loop-r
invariant-loop-r l = l.out ≡ l.fn.out ++ map (named_rel l.n) (take l.r-index l.rs)
