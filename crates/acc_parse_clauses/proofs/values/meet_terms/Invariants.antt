use Rattle.std.proofs.Common.{◌≡◌, take}
use Rattle.std.specs.List.{flat_map}
use Rattle.acc_parse_limits.specs.Walks.{after}
use Rattle.acc_parse_clauses.specs.Sizes.{term_sizes}
use Rattle.acc_parse_clauses.proofs.values.meet_terms.Given as goal

-- what has come so far
abbrev pub invariant-loop-n : goal.invariant-loop-n
invariant-loop-n g l = l.walk ≡ after l.initial.walk (flat_map term_sizes (take l.n-index l.terms))
