use Rattle.std.proofs.Common.{◌≡◌, map, take}
use Rattle.std.specs.List.{flat_map}
use Rattle.acc_parse_limits.specs.Walks.{after}
use Rattle.acc_parse_clauses.specs.Values.{kept_term}
use Rattle.acc_parse_clauses.specs.Sizes.{term_sizes}
use Rattle.acc_parse_clauses.proofs.values.lin_by.Given as goal

-- what has come so far
abbrev pub invariant-loop-x : goal.invariant-loop-x
invariant-loop-x l = record {
  value : l.coeffs ≡ map kept_term (take l.x-index l.terms.terms);
  walk : l.walk ≡ after l.initial.walk (flat_map term_sizes (take l.x-index l.terms.terms));
}
