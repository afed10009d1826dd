use Rattle.std.proofs.Common.{◌≡◌, ◌++◌, map, take}
use Rattle.std.specs.List.{flat_map}
use Rattle.acc_parse_limits.specs.Walks.{after}
use Rattle.acc_parse_meaning.specs.Types.{point_of}
use Rattle.acc_parse_meaning.specs.Sizes.{point_sizes}
use Rattle.acc_parse_clauses.specs.Views.{scope_in}
use Rattle.acc_parse_meaning.proofs.types.points.Given as goal

-- what has come so far
abbrev pub invariant-loop-other : goal.invariant-loop-other
invariant-loop-other l = record {
  value : l.points ≡ l.initial.points ++ map (point_of (scope_in l.scope) l.names) (take l.other-index l.tree.others);
  walk : l.walk ≡ after l.initial.walk (flat_map (point_sizes (scope_in l.scope)) (take l.other-index l.tree.others));
}
