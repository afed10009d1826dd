use Rattle.std.proofs.Common.{◌≡◌, ◌++◌, take, map}
use Rattle.acc_oblig.specs.Relations.{coefficient_term, negated_term}
use Rattle.acc_oblig_named.proofs.forms.add_negated_terms.Given as goal

abbrev pub invariant-loop-c : goal.invariant-loop-c
invariant-loop-c l = l.out ≡ l.fn.out ++ map negated_term (map coefficient_term (take l.c-index l.coeffs))
