use Rattle.std.proofs.Common.{◌≡◌, ◌++◌, take, map}
use Rattle.acc_oblig.specs.Naming.{named_term}
use Rattle.acc_oblig_named.proofs.naming.add_terms.Given as goal

abbrev pub invariant-loop-t : goal.invariant-loop-t
invariant-loop-t l = l.out ≡ l.fn.out ++ map (named_term l.n) (take l.t-index l.ts)
