use Rattle.std.proofs.Common.{◌≡◌, ◌++◌, take}
use Rattle.acc_oblig.specs.Naming.{own_clauses}
use Rattle.acc_oblig_assumptions.proofs.settings.add_own_clauses.Given as goal

abbrev pub invariant-loop-c : goal.invariant-loop-c
invariant-loop-c l = l.out ≡ l.fn.out ++ own_clauses l.names l.own (take l.c-index l.cs)
