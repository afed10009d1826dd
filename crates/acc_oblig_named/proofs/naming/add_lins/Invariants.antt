use Rattle.std.proofs.Common.{◌≡◌, ◌++◌, take}
use Rattle.acc_oblig.specs.Naming.{named_lins}
use Rattle.acc_oblig_named.proofs.naming.add_lins.Given as goal

abbrev pub invariant-loop-l : goal.invariant-loop-l
invariant-loop-l l = l.out ≡ l.fn.out ++ named_lins l.n (take l.l-index l.ls)
