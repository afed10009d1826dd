use Rattle.std.proofs.Common.{◌≡◌, ◌++◌, map, take}
use Rattle.std.specs.List.{flat_map}
use Rattle.acc_parse_limits.specs.Walks.{after}
use Rattle.acc_parse_clauses.specs.Values.{lin_of}
use Rattle.acc_parse_clauses.specs.Sizes.{sum_sizes}
use Rattle.acc_parse_clauses.specs.Views.{variables_in}
use Rattle.acc_parse_clauses.proofs.values.lins.Given as goal

-- what has come so far
abbrev pub invariant-loop-other : goal.invariant-loop-other
invariant-loop-other l = record {
  value : l.lins ≡ l.initial.lins ++ map (lin_of (variables_in l.variables)) (take l.other-index l.sums.others);
  walk : l.walk ≡ after l.initial.walk (flat_map (sum_sizes (variables_in l.variables)) (take l.other-index l.sums.others));
}
