use Rattle.std.proofs.Common.{◌≡◌, ◌++◌, take, map}
use Rattle.acc_oblig.specs.Naming.{named_coeff}
use Rattle.acc_oblig_named.proofs.naming.add_coefficients.Given as goal

abbrev pub invariant-loop-c : goal.invariant-loop-c
invariant-loop-c l = l.out ≡ l.fn.out ++ map (named_coeff l.n) (take l.c-index l.coeffs)
