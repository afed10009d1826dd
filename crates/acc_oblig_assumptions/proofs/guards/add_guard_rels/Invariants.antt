use Rattle.std.proofs.Common.{◌≡◌, ◌++◌, take, map}
use Rattle.acc_oblig.specs.Relations.{guard_rel}
use Rattle.acc_oblig_assumptions.proofs.guards.add_guard_rels.Given as goal

abbrev pub invariant-loop-r : goal.invariant-loop-r
invariant-loop-r l = l.out ≡ l.fn.out ++ map (guard_rel l.n) (take l.r-index l.rs)
